-- `epilogue` meets its contract, by case: refused, too short, done.
use Rattle.std.proofs.Common.{◌≡◌, refl, ◌+◌, length, arith}
use Rattle.frame.specs.Words.{epilogue_words}
use Rattle.words.specs.Words.{bytes_of_words}
use Rattle.frame_code.proofs.Bytes.{epilogue-length, epilogue-put}
use Rattle.frame_code.proofs.Answers.{areas, answered_accepted, code-refused, code-passed, code_short, done_written}
use Rattle.frame_code.proofs.epilogue.Goals as goal

pub returns-in_err-frame-clause-answer : goal.returns-in_err-frame-clause-answer
returns-in_err-frame-clause-answer c = code-passed _ _ _ c.in_err-frame.ensures _ c.from_residual.ensures.1 _ _

pub returns-in_err-frame-clause-buffer : goal.returns-in_err-frame-clause-buffer
returns-in_err-frame-clause-buffer c = rw (code-refused _ _ _ c.in_err-frame.ensures) refl

-- not refused
pub invariant_of-saves : goal.invariant_of-saves
invariant_of-saves c = record { areas = areas _ _ _ c.in_ok-frame.ensures }

pub returns-then-out-length : goal.returns-then-out-length
returns-then-out-length c =
    let s = c.args in
    let l = c.in_ok-frame.ensures in
    let short = code_short s.device s.request (epilogue_words s.request) (length s.out.now) (answered_accepted _ _ _ l) (omega (arith, epilogue-length s.request)) in
    record { answer = rw (short, c.from.ensures) refl; buffer = rw short refl }

pub returns : goal.returns
returns c =
    let s = c.args in
    let r = s.request in
    let l = c.in_ok-frame.ensures in
    let length-is : c.length-length.result + 8 ≡ length (bytes_of_words (epilogue_words r)) = omega (arith, epilogue-length r) in
    let saves = c.put-next.ensures in
    let last = rw (c.delay_slot.ensures, (areas _ _ _ l).frame) at c.put_two_words.ensures in
    let f = done_written s.device r (epilogue_words r) s.out.now (answered_accepted _ _ _ l) length-is (omega arith) (epilogue-put r _ _ _ _ saves.out_after saves.value last) in
    record { answer = f.0; buffer = f.1 }
