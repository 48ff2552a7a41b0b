-- `put_series` meets its contract: after what is stored so far comes the rest of the series, which starts with the next byte.
use Rattle.std.proofs.Common.{◌∙◌, sym, ap, arith, length-set}
use Rattle.case_input.specs.Lines.{series}
use Rattle.case_input.proofs.Fields.{series_step, series_stored}
use Rattle.case_input.proofs.put_series.Goals as goal

pub loop-b-preserved : goal.loop-b-preserved
loop-b-preserved c =
    let l = c.loop-b in
    rw length-set (series_step l.out l.b-index _ l.byte c.args.step (omega arith) (omega arith) ∙ l.invariant)

pub returns : goal.returns
returns c =
    let l = c.loop-b in
    sym (series_stored l.out l.b-index l.byte c.args.step (omega arith)) ∙ l.invariant ∙ ap (series c.args.first c.args.step) l.auto.out
