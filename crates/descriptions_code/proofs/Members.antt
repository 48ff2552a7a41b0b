-- The members of a structure, one after the other: what holds before each, and what is read at the closing byte.
-- Assumes nothing.
use mathlib.Core.Path.{◌≡◌, refl, sym, ◌∙◌}
use mathlib.Core.List.{List}
use mathlib.Core.Bool.{Bool, true, false, cond}
use Prim.Native.Nat.{ℕ, ◌+◌, ◌*◌, ◌≤◌, ◌<◌, max}
use native.Mathlib.Omega.{arith}
use lib.Dec.{eqb}
use lib.ListN.{length, get_or}
use borrow.Author.Tests.{le-leb, lt-leb}
use Rattle.std.specs.Prelude.{Result, Ok, Err}
use Rattle.words.specs.Words.{up}
use Rattle.answers.specs.declared.Cause.TheVariants as C
use Rattle.answers.specs.declared.Refusal.{Refusal}
use Rattle.descriptions.specs.Describing.{end_most, Open, Around, inside, empty, levels, placed, judge, proceed}
use Rattle.descriptions_code.specs.declared.Member.{Member}
use Rattle.descriptions_code.specs.declared.Repeat.{Repeat}
use Rattle.descriptions_code.specs.Reading.{from, alignment_most, Bounds, RepeatRead, TypeRead, ListRead, closed_at}
use Rattle.descriptions_code.proofs.Numbers.{up-most}
use Rattle.descriptions_code.proofs.Reading.{at_end, at_byte}

abbrev unclosed : ℕ → ℕ → Open
unclosed end strictest = record { end = end; strictest = strictest }

-- the members from start on were read up to a place; the last of them ends here, the strictest has this alignment
pub record MembersRead (s : List ℕ) (start depth end strictest at : ℕ) : Type 0 where
  reads : (out : List Around) → levels out + depth ≡ 6 → from s start (inside empty out) ≡ from s at (inside (unclosed end strictest) out)
  pub later : start ≤ at
  pub end_most_lem : end ≤ end_most
  pub strictest_least : 1 ≤ strictest
  pub strictest_most : strictest ≤ alignment_most

-- and the type of one more, which is there so many times
pub record MemberRead (s : List ℕ) (start depth end strictest at times : ℕ) (x : Member) : Type 0 where
  reads : (out : List Around) → levels out + depth ≡ 6
      → from s start (inside empty out) ≡ proceed x.last (placed times x.size x.alignment (unclosed end strictest) out) (from s (x.last + 1))
  pub members : MembersRead s start depth end strictest at
  pub times_most : times ≤ 255
  pub bounds : Bounds s at x

pub members_none : {s : List ℕ} {start depth : ℕ} → MembersRead s start depth 0 1 start
members_none = record {
  reads = λ out q. refl;
  later = omega arith;
  end_most_lem = omega arith;
  strictest_least = omega arith;
  strictest_most = omega arith;
}

module _ {s : List ℕ} {start depth end strictest at : ℕ} (m : MembersRead s start depth end strictest at) where
  pub members_missing : length s ≤ at → ListRead s start depth (Err (record { cause = C.Malformed; place = at; argument = 0 }))
  members_missing h = record { reads = λ out q. m.reads out q ∙ at_end s h (inside (unclosed end strictest) out); bounded = refl }

  pub members_closed : at < length s → get_or s at 0 ≡ 0x11 → {r : Result Member Refusal} → r ≡ closed_at end strictest at → ListRead s start depth r
  unfolding judge
  members_closed h e f = rw f (go (eqb end 0) refl)
    where
      go : (t : Bool) → eqb end 0 ≡ t
          → ListRead s start depth (cond t (Err (record { cause = C.NoKind; place = at; argument = 0 })) (Ok (record { size = up strictest end; alignment = strictest; last = at })))
      go true z = record { reads = λ out q. m.reads out q ∙ at_byte s h (inside (unclosed end strictest) out) ∙ simp (e, z); bounded = refl }
      go false z = record {
        reads = λ out q. m.reads out q ∙ at_byte s h (inside (unclosed end strictest) out) ∙ simp (e, z);
        bounded = let l = up-most m.strictest_most m.end_most_lem in omega arith;
      }

  pub members_uncounted : {e : Refusal} → RepeatRead s at (Err e) → ListRead s start depth (Err e)
  members_uncounted k = record { reads = λ out q. m.reads out q ∙ k.reads (unclosed end strictest) out; bounded = k.bounded }

  module _ {r : Repeat} (k : RepeatRead s at (Ok r)) where
    pub members_refused : {e : Refusal} → TypeRead s r.next depth (Err e) → ListRead s start depth (Err e)
    members_refused t = record {
      reads = λ out q. m.reads out q ∙ k.reads (unclosed end strictest) out ∙ t.reads r.times (unclosed end strictest) out q;
      bounded = t.bounded;
    }

    pub member_read : {x : Member} → TypeRead s r.next depth (Ok x) → MemberRead s start depth end strictest at r.times x
    member_read t = record {
      reads = λ out q. m.reads out q ∙ k.reads (unclosed end strictest) out ∙ t.reads r.times (unclosed end strictest) out q;
      members = m;
      times_most = k.bounded.times_most;
      bounds = omega (arith, k.bounded.later, t.bounded);
    }

module _ {s : List ℕ} {start depth end strictest at times : ℕ} {x : Member} (m : MemberRead s start depth end strictest at times x)
    {new-end : ℕ} (e : new-end ≡ up x.alignment end + times * x.size) where
  pub member_over : end_most < new-end → ListRead s start depth (Err (record { cause = C.TooLong; place = x.last; argument = 0 }))
  member_over h = record { reads = λ out q. m.reads out q ∙ simp (sym e, lt-leb new-end end_most h); bounded = refl }

  pub members_on : new-end ≤ end_most → {stricter : ℕ} → stricter ≡ max x.alignment strictest → MembersRead s start depth new-end stricter (x.last + 1)
  members_on h f = record {
    reads = λ out q. m.reads out q ∙ simp (sym e, le-leb new-end end_most h, f);
    later = omega arith;
    end_most_lem = h;
    strictest_least = omega arith;
    strictest_most = omega arith;
  }
