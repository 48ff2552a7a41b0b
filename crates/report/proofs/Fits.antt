-- Every image fits in 1,056 bytes and every text in 2,376; and which text a writer's answer stands for.
-- Assumes nothing.
use mathlib.Core.Path.{◌≡◌, refl, sym, ap, ◌∙◌, subst}
use mathlib.Core.List.{List}
use mathlib.Core.Bool.{true, false}
use Prim.Native.Nat.{ℕ, ◌/◌, ◌≤◌}
use native.Mathlib.Omega.{arith}
use lib.ListN.{length, take}
use lib.Seq.{take-append_seam}
use lib.Dec.{ltb}
use borrow.Author.Tests.{le-ltb}
use Rattle.carried.specs.Convention.{Scan, stopped, complete, scan, write_scan, write, write_into}
use Rattle.carried.proofs.Buffers.{write_roomy}
use Rattle.carried.proofs.Readings.{image-length}
use Rattle.device.specs.declared.Device.TheVariants.{Fpu}
use Rattle.o32.specs.declared.State.{State}
use Rattle.o32.specs.O32.{O32, area, image_size}
use Rattle.std.specs.Prelude.{Result, Ok, Err, Option, Some, unwrap_or}
use Rattle.std.specs.Option.{IsSome}
use Rattle.answers.specs.declared.Refusal.{Refusal}
use Rattle.answers.specs.Numbers.{number}
use Rattle.answers.proofs.Numbers.{number_positive}
use Rattle.answers.specs.declared.Answer.{Answer}
use Rattle.answers.specs.Outcomes.{Outcome, done, refused, answer_of, buffer_of, in_numbers, over}
use Rattle.o32_laws.proofs.Bounds.{refusal_bound, scan_bound}
use Rattle.o32_laws.proofs.Refusing.{by_record, refused_exactly}
use Rattle.text.specs.Text.{stored_length, stored, image_text, refusal_text}
use Rattle.text.proofs.Decimal.{refusal_at-most_83}
use Rattle.text.proofs.Written.{lines-length}
use Rattle.report.specs.Report.{text_of, report_text}

-- what the writer answers for some list: an image that fits, or a refusal's number, place and argument within their bounds
abbrev Bounded : Outcome → Type 0
Bounded (done x) = length x ≤ 1056
Bounded (refused r place j) = (1 ≤ r) × (r ≤ 5) × (place ≤ 1057) × (j ≤ 33)

area_small : (end : ℕ) → end ≤ 1024 → area end ≤ 1024
area_small end h = omega arith

bounded : (list : List ℕ) → Bounded (write (O32 Fpu) list)
bounded list = go (scan (O32 Fpu) true list) refl
  where
    go : (q : Scan State) → scan (O32 Fpu) true list ≡ q → Bounded (write_scan (O32 Fpu) (λ n x. x) list q)
    go (stopped r place j) e =
        let n = by_record ((refused_exactly Fpu true list r place j).0 e).holds in
        let b = refusal_bound Fpu true list r place j e in
        (n.0, n.1, b.0, b.1)
    go (complete L last) e =
        omega (arith, image-length (image_size last.end) L list, area_small last.end (scan_bound Fpu true list L last e).fits)

-- ---- the text

text_fits : (a : Outcome) → Bounded a → length (text_of a) ≤ 2376
text_fits (done x) h = omega (arith, lines-length x (length x / 4))
text_fits (refused r place j) h = omega (arith, refusal_at-most_83 r place j (omega arith) (omega arith) (omega arith))

pub report_fits : (list : List ℕ) → length (report_text list) ≤ 2376
report_fits list = text_fits (write (O32 Fpu) list) (bounded list)

-- a text that is this report is put whole into a buffer of 2,376 bytes, and its length is answered
module _ (list text out : List ℕ) (room : length out ≡ 2376) (answer : report_text list ≡ text) where
  fits : ltb (length out) (length text) ≡ false
  fits = le-ltb (length out) (length text) (omega (arith, report_fits list, ap length answer))

  pub report_stored : {exit : List ℕ} → exit ≡ stored text out → exit ≡ over (report_text list) out
  report_stored e = e ∙ rw (fits, answer) refl

  module _ {o : Option ℕ} (e : o ≡ stored_length text (length out)) where
    whole_length : o ≡ Some (length (report_text list))
    whole_length = e ∙ rw (fits, answer) refl

    pub report_answered : IsSome o
    report_answered = rw whole_length refl

    pub report_length : {n : ℕ} → o ≡ Some n → n ≡ length (report_text list)
    report_length h = ap (λ (a : Option ℕ). unwrap_or a 0) (sym h ∙ whole_length)

-- ---- the writer's answer, with a buffer of 1,056 bytes

module _ (list : List ℕ) (r : Result ℕ Refusal) (e : in_numbers r ≡ answer_of (write_into (O32 Fpu) list 1056)) where
  unshortened : write_into (O32 Fpu) list 1056 ≡ write (O32 Fpu) list
  unshortened = write_roomy (O32 Fpu) list 1056 (λ x h. subst Bounded h (bounded list))

  answered : {a : Result ℕ Refusal} → r ≡ a → in_numbers a ≡ answer_of (write (O32 Fpu) list)
  answered h = ap in_numbers (sym h) ∙ e ∙ ap answer_of unshortened

  pub refusal_reported : {a : Refusal} {n : ℕ} → r ≡ Err a → n ≡ number a.cause → report_text list ≡ refusal_text n a.place a.argument
  refusal_reported {a} {n} h c = go (write (O32 Fpu) list) (bounded list) (answered h)
    where
      go : (x : Outcome) → Bounded x → in_numbers (Err a) ≡ answer_of x → text_of x ≡ refusal_text n a.place a.argument
      go (refused k place j) b f =
          let p : k ≡ n = ap (λ (y : Answer). y.refusal) (sym f) ∙ sym c in
          let q : place ≡ a.place = ap (λ (y : Answer). y.place) (sym f) in
          let s : j ≡ a.argument = ap (λ (y : Answer). y.argument) (sym f) in
          rw (p, q, s) refl
      go (done x) b f = absurd (omega (arith, number_positive a.cause, ap (λ (y : Answer). y.refusal) f))

  pub image_reported : (out : List ℕ) {exit : List ℕ} {n : ℕ} → exit ≡ buffer_of (write_into (O32 Fpu) list 1056) out → r ≡ Ok n → report_text list ≡ image_text (take n exit)
  image_reported out {exit} {n} g h = go (write (O32 Fpu) list) (bounded list) (answered h) (g ∙ ap (λ (x : Outcome). buffer_of x out) unshortened)
    where
      go : (x : Outcome) → Bounded x → in_numbers (Ok n) ≡ answer_of x → exit ≡ buffer_of x out → text_of x ≡ image_text (take n exit)
      go (refused k place j) b f i = absurd (omega (arith, b, ap (λ (y : Answer). y.refusal) f))
      go (done x) b f i =
          let l : n ≡ length x = ap (λ (y : Answer). y.length) f in
          rw (l, i, take-append_seam)
