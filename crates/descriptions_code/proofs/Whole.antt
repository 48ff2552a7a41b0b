-- What is answered to a whole description, by what was read of it.
-- Assumes nothing.
use mathlib.Core.Path.{◌≡◌, refl, sym, ◌∙◌}
use mathlib.Core.List.{List, [], ◌∷◌}
use Prim.Native.Nat.{ℕ, ◌+◌, ◌≤◌, ◌<◌}
use native.Mathlib.Omega.{arith}
use lib.ListN.{length, get_or}
use borrow.Author.Tests.{ne_eqb}
use Rattle.std.specs.Prelude.{Some, None, Result, Ok, Err}
use Rattle.answers.specs.declared.Refusal.{Refusal}
use Rattle.answers.specs.Numbers.{number}
use Rattle.descriptions.specs.Trees.{kind_for}
use Rattle.descriptions.specs.Describing.{start, closed, ended, refused, answered, judge, described}
use Rattle.descriptions_code.specs.declared.Member.{Member}
use Rattle.descriptions_code.specs.Reading.{from, nonzero, read_on, resumed, ListRead}
use Rattle.descriptions_code.proofs.Numbers.{nonzero_some, nonzero_none}
use Rattle.descriptions_code.proofs.Reading.{at_end, at_byte}

opened : (s : List ℕ) → get_or s 0 0 ≡ 0x10 → 0 < length s
opened [] e = absurd (omega arith)
opened (b ∷ bytes) e = omega arith

module _ (s : List ℕ) where
  from_start : from s 0 start ≡ described s
  unfolding from
  from_start = refl

  pub whole_missing : length s ≡ 0 → refused 16 0 ≡ described s
  whole_missing e = sym (at_end s (omega arith) start) ∙ from_start

  pub whole_unopened : (length s ≡ 0 → ⊥) → (get_or s 0 0 ≡ 0x10 → ⊥) → refused 16 0 ≡ described s
  unfolding judge
  whole_unopened f g = sym (at_byte s (omega arith) start ∙ simp (ne_eqb (get_or s 0 0) 0x10 g)) ∙ from_start

  module _ (e : get_or s 0 0 ≡ 0x10) where
    list-answer : {r : Result Member Refusal} → ListRead s 1 5 r → read_on (resumed s (λ (size alignment : ℕ). ended size alignment [])) r ≡ described s
    unfolding judge
    list-answer l = sym (at_byte s (opened s e) start ∙ simp e (l.reads [] refl)) ∙ from_start

    pub whole-refused : {e : Refusal} → ListRead s 1 5 (Err e) → refused (number e.cause) e.place ≡ described s
    whole-refused l = list-answer l

    module _ {m : Member} (l : ListRead s 1 5 (Ok m)) where
      pub whole_left_over : m.last + 1 < length s → refused 16 (m.last + 1) ≡ described s
      unfolding judge
      whole_left_over h = sym (at_byte s h (closed m.size m.alignment)) ∙ list-answer l

      module _ (h : length s ≤ m.last + 1) where
        whole-read : answered m.size m.alignment (kind_for m.size m.alignment) ≡ described s
        whole-read = sym (at_end s h (closed m.size m.alignment)) ∙ list-answer l

        pub whole_kindless : None ≡ nonzero (kind_for m.size m.alignment) → refused 19 0 ≡ described s
        whole_kindless n = rw (nonzero_none n) at whole-read

        pub whole_kind : {k : ℕ} → Some k ≡ nonzero (kind_for m.size m.alignment)
            → record { refusal = 0; place = 0; size = m.size; alignment = m.alignment; kind = k } ≡ described s
        whole_kind {k} n = let p = nonzero_some n in rw (sym p.0, ne_eqb k 0 (λ z. p.1 (sym p.0 ∙ z))) at whole-read
