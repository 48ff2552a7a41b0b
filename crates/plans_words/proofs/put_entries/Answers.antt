-- `put_entries` meets its contract: the words before i are stored, those after are as they were.
use Rattle.plans_words.proofs.Storing.{storing_turn}
use Rattle.plans_words.proofs.put_entries.Goals as goal

pub loop-i-preserved : goal.loop-i-preserved
loop-i-preserved c = storing_turn _ _ _ _ c.requires c.loop-i-test.true c.loop-i.invariant
