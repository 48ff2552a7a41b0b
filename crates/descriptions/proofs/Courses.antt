-- The way of bytes through the states: up to one that is refused, or to the end. The answer is that of the last state.
-- Assumes nothing.
use mathlib.Core.Path.{◌≡◌, refl, sym, ap, ◌∙◌}
use mathlib.Core.List.{List, [], ◌∷◌, ◌++◌, append-nil}
use Prim.Native.Nat.{ℕ, ◌+◌}
use native.Mathlib.Omega.{arith}
use lib.ListN.{length}
use Rattle.descriptions.specs.Describing.{State, start, Step, refuse, go, judge, refused, finish, proceed, describe_from, described}
use Rattle.descriptions.proofs.Leading.{Leads, here, by}

described-after : {st end : State} {bytes : List ℕ} → Leads st bytes end → (place : ℕ) (rest : List ℕ)
    → describe_from place st (bytes ++ rest) ≡ describe_from (place + length bytes) end rest
unfolding describe_from
described-after {st} here place rest = ap (λ (p : ℕ). describe_from p st rest) (omega arith)
described-after (by {st} {next} {end} {b} {bytes} e h) place rest =
    ap (λ (s : Step). proceed place s (λ (x : State). describe_from (place + 1) x (bytes ++ rest))) e
    ∙ described-after h (place + 1) rest ∙ ap (λ (p : ℕ). describe_from p end rest) (omega arith)

described-from : {bytes : List ℕ} {end : State} → Leads start bytes end → (rest : List ℕ) → described (bytes ++ rest) ≡ describe_from (length bytes) end rest
described-from {bytes} {end} h rest = described-after h 0 rest ∙ ap (λ (p : ℕ). describe_from p end rest) (omega arith)

pub stopped : {before : List ℕ} {end : State} → Leads start before end → (b r : ℕ) (after : List ℕ) → judge b end ≡ refuse r → described (before ++ (b ∷ after)) ≡ refused r (length before)
unfolding describe_from
stopped {before} h b r after e = described-from h (b ∷ after) ∙ ap (λ (s : Step). proceed (length before) s (λ (x : State). describe_from (length before + 1) x after)) e

pub finished : {bytes : List ℕ} {end : State} → Leads start bytes end → described bytes ≡ finish (length bytes) end
unfolding describe_from
finished {bytes} {end} h = ap described (sym (append-nil bytes)) ∙ described-from h []

pub data Course (st : State) (bytes : List ℕ) : Type 0 where
  stops : (before : List ℕ) (b : ℕ) (after : List ℕ) (end : State) (r : ℕ) → bytes ≡ before ++ (b ∷ after) → Leads st before end → judge b end ≡ refuse r → Course st bytes
  ends : (end : State) → Leads st bytes end → Course st bytes

pub course : (st : State) (bytes : List ℕ) → Course st bytes
course st [] = ends st here
course st (b ∷ bytes) = go_on (judge b st) refl (λ next. course next bytes)
  where
    go_on : (s : Step) → judge b st ≡ s → ((next : State) → Course next bytes) → Course st (b ∷ bytes)
    go_on (refuse r) e rest = stops [] b bytes st r refl here e
    go_on (go next) e rest = further (rest next)
      where
        further : Course next bytes → Course st (b ∷ bytes)
        further (stops before c after end r f h g) = stops (b ∷ before) c after end r (ap (λ (l : List ℕ). b ∷ l) f) (by e h) g
        further (ends end h) = ends end (by e h)
