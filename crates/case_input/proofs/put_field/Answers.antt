-- `put_field` meets its contract: after what is stored so far come the bytes of the rest of the field.
use Rattle.std.proofs.Common.{◌≡◌, ◌∙◌, ◌+◌, ◌-◌, length, take, drop, sym, ap, arith, length-drop, length-take-le}
use Rattle.std.proofs.lemmas.Slice.{put_mid-paste}
use Rattle.case_input.specs.Lines.{series}
use Rattle.case_input.proofs.Fields.{series-length, taken_starts, taken_space, taken_all, malformed_field, series_too_long, taken_series}
use Rattle.case_input.proofs.put_field.Goals as goal

pub loop-i-init : goal.loop-i-init
loop-i-init c = taken_starts c.args.text.now c.args.out.now

pub loop-i-preserved-then-text-i-eq32 : goal.loop-i-preserved-then-text-i-eq32
loop-i-preserved-then-text-i-eq32 c =
    taken_space c.loop-i.invariant (omega arith) c.if-text-i-eq32.true

pub returns-in_err-s-clause-value : goal.returns-in_err-s-clause-value
returns-in_err-s-clause-value c =
    c.from_residual.ensures ∙ malformed_field c.loop-i.invariant (omega arith) c.if-text-i-eq32.false (sym c.in_err-s.ensures.value)

pub returns-then-out-n-clause-value : goal.returns-then-out-n-clause-value
returns-then-out-n-clause-value c =
    series_too_long c.loop-i.invariant (omega arith) c.if-text-i-eq32.false c.in_ok-s.s (sym c.in_ok-s.ensures.value) (omega arith)

pub loop-i-preserved : goal.loop-i-preserved
loop-i-preserved c =
    let l = c.loop-i in
    let s = c.in_ok-s.s in
    let many : length (take (l.n + s.count - l.n) (drop l.n l.out)) ≡ s.count =
    length-take-le (l.n + s.count - l.n) (drop l.n l.out) (omega (arith, length-drop l.n l.out)) ∙ omega arith in
    taken_series l.invariant (omega arith) c.if-text-i-eq32.false s (sym c.in_ok-s.ensures.value) c.in_ok-s.ensures.at_lt_end (omega arith)
    (put_mid-paste l.n _ l.out _ _ _ (c.put_series.ensures ∙ ap (series s.byte s.step) many) (omega arith) (sym (series-length s.byte s.step s.count)))

pub returns-clause-value : goal.returns-clause-value
returns-clause-value c = let r = taken_all c.loop-i.invariant (omega arith) in r.0

pub returns-clause-out_after : goal.returns-clause-out_after
returns-clause-out_after c = let r = taken_all c.loop-i.invariant (omega arith) in λ e. r.1
