-- Laws for laying lists end to end (request (viii) of document 02, which the comments quote). A group is a list of kinds. "It holds
-- for offsets and ends before the 1,024 limit and the register choice are applied."
use Rattle.std.specs.Prelude.{◌≡◌, List, [], ◌∷◌, ◌++◌, map, true, false, ℕ, ◌+◌, ◌%◌, length, drop}
use Rattle.kinds.specs.declared.Class.TheVariants.{Unknown, Marker}
use Rattle.kinds.specs.Kinds.{kind_of, is}
use Rattle.o32_offsets.specs.Offsets.{ArgumentLayout, followed_by, lay}

-- A laying gives a layout for every start. Each group has one.
abbrev pub Laying : Type 0
Laying = ℕ → ArgumentLayout

abbrev pub laying : List ℕ → Laying
laying ks = λ start. lay start ks

-- "laying out one group and then another from where it ended"
infixl 30 ◌then◌
abbrev pub ◌then◌ : Laying → Laying → Laying
f then g = λ start. followed_by (f start) (g (f start).end)

-- Every offset and the end, moved by n.
abbrev pub moved : ℕ → ArgumentLayout → ArgumentLayout
moved n x = record { offsets = map (λ (o : ℕ). n + o) x.offsets; end = n + x.end }

-- Every kind is one of the table.
abbrev pub Known : List ℕ → Type 0
Known [] = Unit {0}
Known (k ∷ ks) = (is Unknown (kind_of k) ≡ false) × Known ks

-- Lists of kinds are a monoid by joining, layings are one by `then`, and `laying` is a homomorphism from the first to the second: so
-- groups act on ends, each from where those before it end to where it ends itself. Only `translation` asks for known kinds: an unknown
-- kind has no alignment, and the rule would put it at 0 from every start.
pub record MonoidAction : Type 0 where
  -- "laying out one group and then another from where it ended equals laying out the joined group"
  pub homomorphism : (a b : List ℕ) → laying a then laying b ≡ laying (a ++ b)
  -- "this is associative"
  pub associativity : (f g h : Laying) → (f then g) then h ≡ f then (g then h)
  -- "the empty group changes nothing", on either side
  pub left_identity : (f : Laying) → laying [] then f ≡ f
  pub right_identity : (f : Laying) → f then laying [] ≡ f
  -- nor does a marker
  pub marker : (k : ℕ) → is Marker (kind_of k) ≡ true → laying (k ∷ []) ≡ laying []
  -- "starting later by any multiple of 8 moves every offset by just that", and the end
  pub translation : (m start : ℕ) (ks : List ℕ) → m % 8 ≡ 0 → Known ks → lay (m + start) ks ≡ moved m (lay start ks)

-- The layout of the second group in the joined one: the offsets after the first group's own, and the end.
abbrev pub layout_after : ℕ → List ℕ → List ℕ → ArgumentLayout
layout_after start a b = record { offsets = drop (length (lay start a).offsets) (lay start (a ++ b)).offsets; end = (lay start (a ++ b)).end }

-- What follows for an editor that joins groups.
pub record Joining : Type 0 where
  -- Where the first group ends at a multiple of 8, the second lies as it does from 0, moved by that end; so the ends add up.
  pub second_moved : (start : ℕ) (a b : List ℕ) → (lay start a).end % 8 ≡ 0 → Known b → layout_after start a b ≡ moved (lay start a).end (lay 0 b)
  pub ends_add : (start : ℕ) (a b : List ℕ) → (lay start a).end % 8 ≡ 0 → Known b → (lay start (a ++ b)).end ≡ (lay start a).end + (lay 0 b).end
  -- Two groups may be exchanged before a third one without moving it where both orders leave the same end,
  pub exchange : (start : ℕ) (a b c : List ℕ) → (lay start (a ++ b)).end ≡ (lay start (b ++ a)).end → layout_after start (a ++ b) c ≡ layout_after start (b ++ a) c
  -- as they do where the start, and the end of each of them from 0, are multiples of 8.
  pub same_end : (start : ℕ) (a b : List ℕ) → start % 8 ≡ 0 → (lay 0 a).end % 8 ≡ 0 → (lay 0 b).end % 8 ≡ 0 → Known a → Known b
      → (lay start (a ++ b)).end ≡ (lay start (b ++ a)).end
