-- What the laws for laying lists end to end (request (viii) of document 02) say of arguments in images and of refusal 5.
use Rattle.std.specs.Prelude.{◌≡◌, ◌↔◌, List, [], ◌∷◌, ◌++◌, Bool, false, ℕ, ◌+◌, ◌%◌, ◌<◌, length, get_or}
use Rattle.device.specs.declared.Device.{Device}
use Rattle.kinds.specs.declared.Class.TheVariants.{Marker}
use Rattle.kinds.specs.Kinds.{kind_of, is}
use Rattle.o32_offsets.specs.Offsets.{lay}
use Rattle.o32_offsets.specs.Laying.{Known}
use Rattle.o32_laws.specs.Carrying.{offset_after, Carries, KindIn, offset_of, image_bytes}
use Rattle.o32_laws.specs.Refusing.{arguments_in, Condition}

pub record Groups : Type 0 where
  -- `lay` gives the offset of each argument, in order, and no others.
  pub offsets : (sig : List ℕ) (a : KindIn sig) → is Marker (kind_of a.kind) ≡ false → get_or (lay 0 sig).offsets (arguments_in a.before) 0 ≡ offset_of a
  pub count : (start : ℕ) (ks : List ℕ) → length (lay start ks).offsets ≡ arguments_in ks
  -- Refusal 5: some argument of the kinds "ends beyond 1,024" exactly when the last one does.
  pub beyond_exactly : (bodies : Bool) (left : ℕ) (ks : List ℕ) → Known ks → (1024 < (lay 0 ks).end) ↔ ((a : KindIn ks) × Condition bodies a.before a.kind left 5)
  -- After a group that ends at a multiple of 8, an argument of a second group lies as in the second group alone, moved by that end.
  pub offset_adds : (a before : List ℕ) (k : ℕ) → (lay 0 a).end % 8 ≡ 0 → Known (before ++ (k ∷ [])) → is Marker (kind_of k) ≡ false
      → offset_after (a ++ before) k ≡ (lay 0 a).end + offset_after before k
  -- Two groups that leave the same end in both orders may be exchanged: the image keeps its length, and each byte of what comes after
  -- them is carried where it was, on every device.
  pub same_length : (a b c : List ℕ) → (lay 0 (a ++ b)).end ≡ (lay 0 (b ++ a)).end → image_bytes (a ++ b ++ c) ≡ image_bytes (b ++ a ++ c)
  pub same_carriers : (d : Device) (a b before : List ℕ) (k i p : ℕ) → (lay 0 (a ++ b)).end ≡ (lay 0 (b ++ a)).end
      → Carries d (a ++ b ++ before) k i p ↔ Carries d (b ++ a ++ before) k i p
