-- One record of the writer's second pass: its argument's bytes are inside the list, and stored at its carriers.
-- Assumes nothing.
use mathlib.Core.Path.{◌≡◌, refl}
use mathlib.Core.List.{List}
use Prim.Native.Nat.{ℕ, ◌+◌, ◌≤◌, ◌<◌}
use lib.ListN.{length, get_or, take, drop}
use Rattle.words.specs.Words.{promote}
use Rattle.places.specs.Places.{put}
use Rattle.device.specs.declared.Device.{Device}
use Rattle.kinds.specs.declared.Kind.{Kind}
use Rattle.kinds.specs.Kinds.{kind_of}
use Rattle.passes.proofs.Ahead.{ahead_inside}
use Rattle.passes.proofs.Filling.{Filling, fill_turn}
use Rattle.o32_offsets.specs.Offsets.{extension}
use Rattle.o32.specs.declared.State.{State}
use Rattle.o32.specs.declared.Placement.{Placement}
use Rattle.o32.specs.O32.{carriers, advance, placement}
use Rattle.o32_laws.proofs.Premises.{O32-premises}

module _ (d : Device) {list : List ℕ} {m : ℕ} {final : List ℕ} {st : State} {at : ℕ} {img : List ℕ} (w : Filling (O32-premises d) list m final st at img) (h : at < length list)
    {kd : Kind} (e : kd ≡ kind_of (get_or list at 0)) {p : Placement} (g : p ≡ placement d st kd) where
  pub body_inside : (at + 1 + kd.size ≤ length list) × (p.kind.size ≡ kd.size)
  body_inside = (rw e (ahead_inside w.ahead h), rw g refl)

  pub argument-stored : {st' : State} {at' n : ℕ} {img' : List ℕ} → st' ≡ advance st kd → at' ≡ at + 1 + kd.size → img' ≡ put img (carriers p) (promote (extension p.kind) (take n (drop (at + 1) list))) → n ≡ kd.size
      → Filling (O32-premises d) list m final st' at' img'
  argument-stored o a i c = rw (o, a, e) (fill_turn w h (rw (c, g, e) at i))
