-- What is answered from a byte on: at the end, at a 12 and its count, and at the type of a member.
-- Assumes nothing.
use mathlib.Core.Path.{◌≡◌, refl, sym, ap, ◌∙◌}
use mathlib.Core.List.{List, ◌∷◌}
use Prim.Native.Nat.{ℕ, ◌+◌, ◌-◌, ◌≤◌, ◌<◌}
use native.Mathlib.Omega.{arith}
use native.Mathlib.Numerals.{add-one}
use lib.ListN.{length, get_or, drop_of_length-le}
use lib.Seq.{drop-cons}
use borrow.Author.Tests.{lt-ltb, le-ltb, le-leb, ne_eqb}
use Rattle.std.specs.Prelude.{Result, Ok, Err}
use Rattle.answers.specs.declared.Cause.TheVariants as C
use Rattle.answers.specs.declared.Refusal.{Refusal}
use Rattle.descriptions.specs.Describing.{Open, Around, State, inside, counting, repeated, levels, scalar_bytes, finish, judge, proceed, describe_from}
use Rattle.descriptions.proofs.Reading.{scalar_most}
use Rattle.descriptions_code.specs.declared.Member.{Member}
use Rattle.descriptions_code.specs.Reading.{from, Bounds, Bounded, RepeatRead, TypeRead, ListRead}

pub at_end : (s : List ℕ) {at : ℕ} → length s ≤ at → (state : State) → from s at state ≡ finish at state
unfolding from describe_from
at_end s h state = rw (drop_of_length-le s h)

pub at_byte : (s : List ℕ) {at : ℕ} → at < length s → (state : State) → from s at state ≡ proceed at (judge (get_or s at 0) state) (from s (at + 1))
unfolding from describe_from
at_byte s {at} h state = ap (describe_from at state) (drop-cons s at 0 h) ∙ rw add-one

-- a type that was read from a later place on
pub bounded_from : (s : List ℕ) {at later : ℕ} (r : Result Member Refusal) → at ≤ later → Bounded (Bounds s later) r → Bounded (Bounds s at) r
bounded_from s (Ok m) h b = omega arith
bounded_from s (Err e) h b = b

-- ---- how often a member is there

counts : (s : List ℕ) {at : ℕ} → at < length s → get_or s at 0 ≡ 0x12 → (o : Open) (out : List Around) → from s at (inside o out) ≡ from s (at + 1) (counting o out)
unfolding judge
counts s h e o out = at_byte s h (inside o out) ∙ simp e

module _ {s : List ℕ} {at : ℕ} (h : at < length s) where
  pub repeat_none : (get_or s at 0 ≡ 0x11 → ⊥) → (get_or s at 0 ≡ 0x12 → ⊥) → RepeatRead s at (Ok (record { times = 1; next = at }))
  unfolding judge
  repeat_none f g = record {
    reads = λ o out. at_byte s h (inside o out) ∙ simp (ne_eqb (get_or s at 0) 0x11 f, ne_eqb (get_or s at 0) 0x12 g, at_byte s h (repeated 1 o out));
    bounded = omega arith;
  }

  module _ (e : get_or s at 0 ≡ 0x12) where
    pub count_missing : length s ≤ at + 1 → RepeatRead s at (Err (record { cause = C.Malformed; place = at + 1; argument = 0 }))
    count_missing k = record { reads = λ o out. counts s h e o out ∙ at_end s k (counting o out); bounded = refl }

    module _ (k : at + 1 < length s) where
      pub count-zero : get_or s (at + 1) 0 ≡ 0 → RepeatRead s at (Err (record { cause = C.Malformed; place = at + 1; argument = 0 }))
      unfolding judge
      count-zero z = record { reads = λ o out. counts s h e o out ∙ at_byte s k (counting o out) ∙ simp z; bounded = refl }

      pub count_times : (get_or s (at + 1) 0 ≡ 0 → ⊥) → get_or s (at + 1) 0 ≤ 255 → RepeatRead s at (Ok (record { times = get_or s (at + 1) 0; next = at + 1 + 1 }))
      unfolding judge
      count_times f l = record {
        reads = λ o out. counts s h e o out ∙ at_byte s k (counting o out) ∙ simp (le-leb 1 (get_or s (at + 1) 0) (omega arith), le-leb (get_or s (at + 1) 0) 255 l);
        bounded = omega arith;
      }

-- ---- the type of a member

module _ {s : List ℕ} {at depth : ℕ} where
  pub type_missing : length s ≤ at → TypeRead s at depth (Err (record { cause = C.Malformed; place = at; argument = 0 }))
  type_missing h = record { reads = λ n o out q. at_end s h (repeated n o out); bounded = refl }

  module _ (h : at < length s) where
    module _ (e : get_or s at 0 ≡ 0x10) where
      pub type_too_deep : depth ≡ 0 → TypeRead s at depth (Err (record { cause = C.TooDeep; place = at; argument = 0 }))
      unfolding judge
      type_too_deep z = record {
        reads = λ n o out q. at_byte s h (repeated n o out) ∙ simp (e, le-ltb (levels out) 6 (omega arith));
        bounded = refl;
      }

      pub type_structure : (depth ≡ 0 → ⊥) → {r : Result Member Refusal} → ListRead s (at + 1) (depth - 1) r → TypeRead s at depth r
      unfolding judge
      type_structure f {r} l = record {
        reads = λ n o out q. at_byte s h (repeated n o out)
            ∙ simp (e, lt-ltb (levels out) 6 (omega arith), l.reads (record { times = n; outer = o } ∷ out) (omega arith));
        bounded = bounded_from s {later = at + 1} r (omega arith) l.bounded;
      }

    module _ (f : get_or s at 0 ≡ 0x10 → ⊥) where
      pub type_unknown : scalar_bytes (get_or s at 0) ≡ 0 → TypeRead s at depth (Err (record { cause = C.Malformed; place = at; argument = 0 }))
      unfolding judge
      type_unknown z = record {
        reads = λ n o out q. at_byte s h (repeated n o out) ∙ simp (ne_eqb (get_or s at 0) 0x10 f, z);
        bounded = refl;
      }

      pub type_scalar : {size : ℕ} → size ≡ scalar_bytes (get_or s at 0) → (size ≡ 0 → ⊥) → TypeRead s at depth (Ok (record { size = size; alignment = size; last = at }))
      unfolding judge
      type_scalar {size} e g = record {
        reads = λ n o out q. at_byte s h (repeated n o out) ∙ simp (ne_eqb (get_or s at 0) 0x10 f, sym e, ne_eqb size 0 g);
        bounded = let l = scalar_most (get_or s at 0) in omega arith;
      }
