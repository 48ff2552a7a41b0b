-- One kind of the reader's passes: whether its word is proper, and its body stored.
-- Assumes nothing.
use mathlib.Core.Path.{◌≡◌, refl, ap, ◌∙◌}
use mathlib.Core.List.{List}
use mathlib.Core.Bool.{Bool, true, false}
use Prim.Native.Nat.{ℕ, ◌+◌, ◌≤◌, ◌<◌}
use lib.ListN.{length, get_or, set}
use Rattle.words.specs.Words.{body, proper}
use Rattle.places.specs.Places.{gather, put, run}
use Rattle.device.specs.declared.Device.{Device}
use Rattle.kinds.specs.declared.Kind.{Kind}
use Rattle.kinds.specs.Kinds.{kind_of}
use Rattle.rules.specs.Rules.{argument}
use Rattle.answers.specs.Outcomes.{Outcome}
use Rattle.std.specs.Prelude.{Err}
use Rattle.passes.specs.Passes.{judged}
use Rattle.passes.proofs.Reading.{Checking, check_stops, check_turn, Copying, copy_room, copy_turn}
use Rattle.o32_offsets.specs.Offsets.{extension}
use Rattle.o32.specs.declared.State.{State}
use Rattle.o32.specs.declared.Placement.{Placement}
use Rattle.o32.specs.O32.{carriers, advance, placement}
use Rattle.o32_laws.proofs.Premises.{O32-premises}

module _ (d : Device) {sig img : List ℕ} {whole : ℕ → Outcome → Outcome} {st : State} {at : ℕ} (w : Checking (O32-premises d) sig img whole st at) (h : at < length sig)
    {kd : Kind} (e : kd ≡ kind_of (get_or sig at 0)) {p : Placement} (g : p ≡ placement d st kd)
    {u : Bool} (v : u ≡ proper (extension p.kind) p.kind.size (gather img (carriers p))) where
  pub word_improper : {j : ℕ} → u ≡ false → j ≡ argument st.prefix kd → (n : ℕ) (x : Outcome) → judged n (Err (record { place = at; argument = j })) x ≡ whole n x
  word_improper b j n x = ap (λ (i : ℕ). judged n (Err (record { place = at; argument = i })) x) (j ∙ rw e refl) ∙ check_stops w h (rw (g, e) at v) b n x

  pub word-proper : {st' : State} → u ≡ true → st' ≡ advance st kd → Checking (O32-premises d) sig img whole st' (at + 1)
  word-proper b o = rw (o, e) (check_turn w h (rw (g, e) at v) b)

module _ (d : Device) {sig img out₀ final : List ℕ} {st : State} {at n : ℕ} {out : List ℕ} (w : Copying (O32-premises d) sig img out₀ final st at n out) (h : at < length sig)
    {kd : Kind} (e : kd ≡ kind_of (get_or sig at 0)) {p : Placement} (g : p ≡ placement d st kd) (room : length final ≤ length out₀) where
  pub body-room : (n + 1 + kd.size ≤ length out₀) × (p.kind.size ≡ kd.size)
  body-room = (rw e (copy_room w h room), rw g refl)

  pub body-copied : {st' : State} {n' : ℕ} {out' : List ℕ} → st' ≡ advance st kd → n' ≡ n + 1 + kd.size → out' ≡ put (set out n (get_or sig at 0)) (run (n + 1) kd.size) (body p.kind.size (gather img (carriers p)))
      → Copying (O32-premises d) sig img out₀ final st' (at + 1) n' out'
  body-copied o b i = rw (o, b, e) (copy_turn w h room (rw (g, e) at i))
