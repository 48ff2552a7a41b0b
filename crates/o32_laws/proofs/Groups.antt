-- Where the arguments of known kinds lie, one after the other; and what the laws for laying lists end to end say of them and of
-- refusal 5.
-- Assumes nothing.
use mathlib.Core.Path.{◌≡◌, refl, sym, ap, ◌∙◌, subst}
use mathlib.Core.Logic.{◌↔◌}
use mathlib.Core.List.{List, [], ◌∷◌, ◌++◌, append_assoc, append-nil}
use mathlib.Core.Bool.{Bool, true, false}
use Prim.Native.Nat.{ℕ, ◌+◌, ◌%◌, ◌≤◌, ◌<◌}
use native.Mathlib.Omega.{arith}
use lib.ListN.{length, get_or, length-append}
use lib.Seq.{get_or_at}
use lib.Dec.{ltb}
use borrow.Author.Tests.{ltb-true, ltb-false}
use Rattle.device.specs.declared.Device.{Device}
use Rattle.kinds.specs.declared.Class.TheVariants.{Marker}
use Rattle.kinds.specs.Kinds.{kind_of, is}
use Rattle.carried.proofs.Splits.{Later, later}
use Rattle.o32_offsets.specs.Offsets.{ArgumentLayout, lay_one, lay, offset}
use Rattle.o32_offsets.specs.Laying.{Known}
use Rattle.o32_offsets.proofs.Laying.{Lies, lies, known_left, known_right, lay_joined, end_joined, ends_grow, offset_later, joining}
use Rattle.o32.specs.O32.{image_size}
use Rattle.o32_laws.specs.Carrying.{register_after, offset_after, Carries, low, high, single, odd, even, KindIn, end_before, offset_of}
use Rattle.o32_laws.specs.Refusing.{arguments_in, Condition, unknown, misplaced, full, cut, beyond}
use Rattle.o32_laws.specs.Groups.{Groups}
use Rattle.o32_laws.proofs.Carrying.{register_late}

-- ---- one after the other

abbrev pub end_after : {sig : List ℕ} → KindIn sig → ℕ
end_after a = (lay_one (end_before a) (kind_of a.kind)).end

-- the kind whose offsets have this one
pub record Around (sig : List ℕ) (x : ℕ) : Type 0 where
  pub argument : KindIn sig
  pub from : end_before argument ≤ x
  pub before_end : x < end_after argument

pub around : {sig : List ℕ} (ks before : List ℕ) (x : ℕ) → before ++ ks ≡ sig → (lay 0 before).end ≤ x → x < (lay 0 sig).end → Around sig x
around {sig} [] before x e h g = let z : (lay 0 before).end ≡ (lay 0 sig).end = ap (λ (ks : List ℕ). (lay 0 ks).end) (sym (append-nil before) ∙ e) in absurd (omega arith)
around {sig} (k ∷ ks) before x e h g = go (ltb x (lay_one (lay 0 before).end (kind_of k)).end) refl
    (around ks (before ++ (k ∷ [])) x (append_assoc before (k ∷ []) ks ∙ e))
  where
    go : (t : Bool) → ltb x (lay_one (lay 0 before).end (kind_of k)).end ≡ t → ((lay 0 (before ++ (k ∷ []))).end ≤ x → x < (lay 0 sig).end → Around sig x) → Around sig x
    go true f rest = record { argument = record { before = before; kind = k; after = ks; here = e }; from = h; before_end = ltb-true x (lay_one (lay 0 before).end (kind_of k)).end f }
    go false f rest = rest (omega (arith, end_joined 0 before (k ∷ []), ltb-false x (lay_one (lay 0 before).end (kind_of k)).end f)) g

module _ {sig : List ℕ} (known : Known sig) where
  of_known : (a : KindIn sig) → Known (a.before ++ (a.kind ∷ a.after))
  of_known a = subst Known (sym a.here) known

  pub argument_lies : (a : KindIn sig) → Lies (end_before a) a.kind
  argument_lies a = lies (end_before a) a.kind (known_right a.before (a.kind ∷ a.after) (of_known a)).0

  -- an earlier argument ends before a later one begins
  pub ordered : (a b : KindIn sig) → length a.before < length b.before → end_after a ≤ end_before b
  ordered a b h =
      let w : Later a.before a.kind b.before = later a.before a.kind a.after b.before b.kind b.after (a.here ∙ sym b.here) h in
      let e : end_before b ≡ (lay (end_after a) w.between).end = ap (λ (ks : List ℕ). (lay 0 ks).end) w.before ∙ end_joined 0 a.before (a.kind ∷ w.between) in
      let n : Known w.between = (known_right a.before (a.kind ∷ w.between) (subst Known w.before (known_left b.before (b.kind ∷ b.after) (of_known b)))).1 in
      omega (arith, e, ends_grow w.between (end_after a) n)

  -- and each ends before the end of all
  pub all_end : (a : KindIn sig) → end_after a ≤ (lay 0 sig).end
  all_end a =
      let e : (lay 0 sig).end ≡ (lay (end_after a) a.after).end = ap (λ (ks : List ℕ). (lay 0 ks).end) (sym a.here) ∙ end_joined 0 a.before (a.kind ∷ a.after) in
      omega (arith, e, ends_grow a.after (end_after a) (known_right a.before (a.kind ∷ a.after) (of_known a)).1)

-- ---- the offsets of arguments, in order

count : (start : ℕ) (ks : List ℕ) → length (lay start ks).offsets ≡ arguments_in ks
count start [] = refl
count start (k ∷ ks) = go (is Marker (kind_of k)) refl (count (lay_one start (kind_of k)).end ks)
  where
    go : (t : Bool) → is Marker (kind_of k) ≡ t → length (lay (lay_one start (kind_of k)).end ks).offsets ≡ arguments_in ks → length (lay start (k ∷ ks)).offsets ≡ arguments_in (k ∷ ks)
    go true e h = rw e (omega (arith, rw e at h))
    go false e h = rw e (omega (arith, rw e at h))

offsets : (sig : List ℕ) (a : KindIn sig) → is Marker (kind_of a.kind) ≡ false → get_or (lay 0 sig).offsets (arguments_in a.before) 0 ≡ offset_of a
offsets sig a e =
    let j : (lay 0 sig).offsets ≡ (lay 0 a.before).offsets ++ (offset_of a ∷ (lay (end_after a) a.after).offsets) =
    ap (λ (ks : List ℕ). (lay 0 ks).offsets) (sym a.here) ∙ ap (λ (x : ArgumentLayout). x.offsets) (lay_joined 0 a.before (a.kind ∷ a.after)) ∙ rw e refl in
    rw j (get_or_at (lay 0 a.before).offsets (offset_of a) _ 0 (arguments_in a.before) (count 0 a.before))

-- ---- refusal 5

beyond_exactly : (bodies : Bool) (left : ℕ) (ks : List ℕ) → Known ks → (1024 < (lay 0 ks).end) ↔ ((a : KindIn ks) × Condition bodies a.before a.kind left 5)
beyond_exactly bodies left ks h = (λ g. beyond_at (around ks [] 1024 refl (omega arith) g), λ x. ends_beyond x.0 x.1)
  where
    beyond_at : Around ks 1024 → (a : KindIn ks) × Condition bodies a.before a.kind left 5
    beyond_at o = go (is Marker (kind_of o.argument.kind)) refl
      where
        go : (t : Bool) → is Marker (kind_of o.argument.kind) ≡ t → (a : KindIn ks) × Condition bodies a.before a.kind left 5
        go true e = absurd (omega (arith, o.from, rw e at o.before_end))
        go false e = (o.argument, beyond refl e (omega (arith, o.before_end, end_joined 0 o.argument.before (o.argument.kind ∷ []))))

    ends_beyond : (a : KindIn ks) → Condition bodies a.before a.kind left 5 → 1024 < (lay 0 ks).end
    ends_beyond a (unknown x y) = absurd (omega arith)
    ends_beyond a (misplaced x y) = absurd (omega arith)
    ends_beyond a (full x y z) = absurd (omega arith)
    ends_beyond a (cut x y z) = absurd (omega arith)
    ends_beyond a (beyond x y z) = omega (arith, z, end_joined 0 a.before (a.kind ∷ []), all_end h a)

-- ---- joined and exchanged

offset_adds : (a before : List ℕ) (k : ℕ) → (lay 0 a).end % 8 ≡ 0 → Known (before ++ (k ∷ [])) → is Marker (kind_of k) ≡ false
    → offset_after (a ++ before) k ≡ (lay 0 a).end + offset_after before k
offset_adds a before k e h g =
    ap (offset (kind_of k)) (joining.ends_add 0 a before e (known_left before (k ∷ []) h))
    ∙ offset_later (lay 0 a).end e (lay 0 before).end k (known_right before (k ∷ []) h).0 g

-- a byte is carried by its argument's register and offset
carries_alike : {d : Device} {x y : List ℕ} {k i p : ℕ} → register_after d x k ≡ register_after d y k → offset_after x k ≡ offset_after y k → Carries d x k i p → Carries d y k i p
carries_alike r o (low z h g) = low (omega (arith, r, z)) (omega (arith, o, h)) (omega (arith, o, g))
carries_alike r o (high z h g) = high (omega (arith, r, z)) (omega (arith, o, h)) (omega (arith, o, g))
carries_alike r o (single z h g) = single (omega (arith, r, z)) h (omega (arith, r, g))
carries_alike r o (odd z h l g) = odd (omega (arith, r, z)) h l (omega (arith, r, g))
carries_alike r o (even z h l g) = even (omega (arith, r, z)) h l (omega (arith, r, g))

-- two groups that are not empty leave no floating register
register_exchanged : (d : Device) (a b before : List ℕ) (k : ℕ) → register_after d (a ++ b ++ before) k ≡ register_after d (b ++ a ++ before) k
register_exchanged d [] b before k = ap (λ (x : List ℕ). register_after d (x ++ before) k) (sym (append-nil b))
register_exchanged d (x ∷ a) [] before k = ap (λ (y : List ℕ). register_after d (y ++ before) k) (append-nil (x ∷ a))
register_exchanged d (x ∷ a) (y ∷ b) before k =
    register_late d ((x ∷ a) ++ (y ∷ b) ++ before) k (two (x ∷ a) (y ∷ b) (omega arith) (omega arith))
    ∙ sym (register_late d ((y ∷ b) ++ (x ∷ a) ++ before) k (two (y ∷ b) (x ∷ a) (omega arith) (omega arith)))
  where
    two : (a b : List ℕ) → 1 ≤ length a → 1 ≤ length b → 2 ≤ length (a ++ b ++ before)
    two a b g h = omega (arith, length-append (a ++ b) before, length-append a b)

module _ (a b : List ℕ) (e : (lay 0 (a ++ b)).end ≡ (lay 0 (b ++ a)).end) where
  end_exchanged : (c : List ℕ) → (lay 0 (a ++ b ++ c)).end ≡ (lay 0 (b ++ a ++ c)).end
  end_exchanged c = ap (λ (x : ArgumentLayout). x.end) (joining.exchange 0 a b c e)

  same_carriers : (d : Device) (before : List ℕ) (k i p : ℕ) → Carries d (a ++ b ++ before) k i p ↔ Carries d (b ++ a ++ before) k i p
  same_carriers d before k i p =
      let r = register_exchanged d a b before k in
      let o = ap (offset (kind_of k)) (end_exchanged before) in
      (carries_alike r o, carries_alike (sym r) (sym o))

-- The laws for laying lists end to end, of arguments in images and of refusal 5.
pub groups : Groups
groups = record {
  offsets = offsets;
  count = count;
  beyond_exactly = beyond_exactly;
  offset_adds = offset_adds;
  same_length = λ a b c e. ap image_size (end_exchanged a b e c);
  same_carriers = λ d a b before k i p e. same_carriers a b e d before k i p;
}
