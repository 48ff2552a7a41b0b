-- Placement rules 1 and 2: the bytes of an argument, its offset, and where arguments lie in order. Nothing here knows of registers.
use Rattle.std.specs.Prelude.{◌≡◌, ◌⊎◌, List, [], ◌∷◌, ◌++◌, true, false, cond, ◌||◌, ℕ, ◌+◌}
use Rattle.words.specs.Words.{up, Extension, zeros, to_word}
use Rattle.kinds.specs.declared.Class.TheVariants.{Marker, Signed, Unsigned}
use Rattle.kinds.specs.declared.Kind.{Kind}
use Rattle.kinds.specs.Kinds.{kind_of, is}

-- Rule 1. "Bytes and halfwords become words"; nothing is put in front of any other body.
abbrev pub extension : Kind → Extension
extension k = cond (is Signed k) (to_word true k.size) (cond (is Unsigned k) (to_word false k.size) (zeros 0))

-- How many bytes an argument has after promotion, without fill.
abbrev pub width : Kind → ℕ
width k = cond (is Signed k || is Unsigned k) 4 k.size

-- Rule 2. "Arguments lie as members of one structure from offset 0: each at the next multiple of its alignment." The end is
-- that of the arguments before.
abbrev pub offset : Kind → ℕ → ℕ
offset k end = up k.alignment end

-- Where it ends. Rule 1: "Structures are rounded up to whole words; their bytes come first, fill after".
abbrev pub ending : Kind → ℕ → ℕ
ending k end = offset k end + up 4 (width k)

-- Where arguments lie: their offsets, in order, and where the last one ends (the start, where there is none).
pub record ArgumentLayout : Type 0 where
  pub offsets : List ℕ
  pub end : ℕ

-- Rule 2 of one kind, from the end of the arguments before it. A marker is no argument and lays nothing.
abbrev pub lay_one : ℕ → Kind → ArgumentLayout
lay_one start k = record { offsets = cond (is Marker k) [] (offset k start ∷ []); end = cond (is Marker k) start (ending k start) }

-- A layout and then another: the offsets of both, and the end of the second.
abbrev pub followed_by : ArgumentLayout → ArgumentLayout → ArgumentLayout
followed_by x y = record { offsets = x.offsets ++ y.offsets; end = y.end }

-- Rule 2 of kinds in order, from a start on: each from the end of those before it.
abbrev pub lay : ℕ → List ℕ → ArgumentLayout
lay start [] = record { offsets = []; end = start }
lay start (k ∷ ks) = followed_by (lay_one start (kind_of k)) (lay (lay_one start (kind_of k)).end ks)

-- The alignments there are: 4, 8, or none.
abbrev pub Alignment : ℕ → Type 0
Alignment a = (a ≡ 0) ⊎ (a ≡ 4) ⊎ (a ≡ 8)
