-- `prologue` meets its contract, by case: refused, no words, too short, done.
use Rattle.std.proofs.Common.{◌≡◌, refl, sym, ap, ◌∙◌, ◌+◌, length, arith}
use Rattle.frame.specs.Frame.{frame_of}
use Rattle.frame.specs.Words.{prologue_words}
use Rattle.words.specs.Words.{bytes_of_words}
use Rattle.frame_code.proofs.Bytes.{prologue-none, prologue-length, prologue-put}
use Rattle.frame_code.proofs.Answers.{areas, answered_accepted, code-refused, code-passed, code_short, done_written}
use Rattle.frame_code.proofs.prologue.Goals as goal

pub returns-in_err-frame-clause-answer : goal.returns-in_err-frame-clause-answer
returns-in_err-frame-clause-answer c = code-passed _ _ _ c.in_err-frame.ensures _ c.from_residual.ensures.1 _ _

pub returns-in_err-frame-clause-buffer : goal.returns-in_err-frame-clause-buffer
returns-in_err-frame-clause-buffer c = rw (code-refused _ _ _ c.in_err-frame.ensures) refl

pub returns-then-frame-eq0 : goal.returns-then-frame-eq0
returns-then-frame-eq0 c =
    let r = c.args.request in
    let l = c.in_ok-frame.ensures in
    let z = prologue-none r (sym (areas _ _ _ l).frame ∙ c.if-frame-eq0.true) in
    let buf = c.args.out.now in
    let f = done_written c.args.device r (prologue_words r) buf {out = buf} (answered_accepted _ _ _ l) (sym (ap length z)) (omega arith) (rw z refl) in
    record { answer = f.0; buffer = f.1 }

-- not refused
pub invariant_of-saves : goal.invariant_of-saves
invariant_of-saves c = record { areas = areas _ _ _ c.in_ok-frame.ensures }

pub returns-then-out-length : goal.returns-then-out-length
returns-then-out-length c =
    let s = c.args in
    let l = c.in_ok-frame.ensures in
    let a = areas _ _ _ l in
    let short = code_short s.device s.request (prologue_words s.request) (length s.out.now) (answered_accepted _ _ _ l) (omega (arith, prologue-length s.request (λ z. c.if-frame-eq0.false (a.frame ∙ z)))) in
    record { answer = rw (short, c.from.ensures) refl; buffer = rw short refl }

pub returns : goal.returns
returns c =
    let s = c.args in
    let r = s.request in
    let l = c.in_ok-frame.ensures in
    let a = areas _ _ _ l in
    let n = λ (z : frame_of r ≡ 0). c.if-frame-eq0.false (a.frame ∙ z) in
    let length-is : 4 + c.length-length.result ≡ length (bytes_of_words (prologue_words r)) = omega (arith, prologue-length r n) in
    let first = rw (c.lower_sp.ensures, a.frame) at c.write_word.ensures in
    let put = prologue-put r n _ _ _ first c.put.ensures.out_after in
    let f = done_written s.device r (prologue_words r) s.out.now (answered_accepted _ _ _ l) length-is (omega arith) put in
    record { answer = f.0; buffer = f.1 }
