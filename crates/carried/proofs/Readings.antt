-- The carried-bytes theorem for records that are already placed: readings and rewritings of accepted images.
-- Assumes nothing.
use mathlib.Core.Path.{◌≡◌, refl, sym, ap, ◌∙◌}
use mathlib.Core.Logic.{◌↔◌}
use mathlib.Core.List.{List, [], ◌∷◌, ◌++◌}
use mathlib.Core.Bool.{Bool, true, false, cond}
use Prim.Native.Nat.{ℕ, zero, suc, ◌-◌, ◌≤◌}
use native.Mathlib.Omega.{arith}
use lib.ListN.{length, get_or, replicate, length-append, length-drop, length-replicate}
use lib.Seq.{take_at, drop_at}
use Rattle.words.specs.Words.{promote, front, body, proper}
use Rattle.words.proofs.Bytes.{same→eq}
use Rattle.carried.specs.Image.{Placed, carried, promoted_bytes, image, reading, length_of_list, checked}
use Rattle.answers.specs.Outcomes.{Outcome, done, refused}
use Rattle.places.specs.Places.{gather, put, In}
use Rattle.carried.specs.Carried.{Sized, OneEach, AllProper, Accepted}
use Rattle.places.proofs.Places.{length-gather, gather_append, length-put, get_or-put_other, gather-put, gather_agree, agree_gather, in_left, in_right}

pub done_inj : {x y : List ℕ} → done x ≡ done y → x ≡ y
done_inj e = cc

-- the image's bytes of one record
abbrev pub bytes_in : Placed → List ℕ → List ℕ
bytes_in s img = gather img s.carriers

abbrev pub is_proper : Placed → List ℕ → Bool
is_proper s img = proper s.extension s.size (bytes_in s img)

abbrev pub rewriting : ℕ → List Placed → List ℕ → List ℕ
rewriting n L img = image n L (reading L img)

-- an image has its length
pub image-length : (n : ℕ) (L : List Placed) (l : List ℕ) → length (image n L l) ≡ n
image-length n L l = length-put (replicate n _) (carried L) (promoted_bytes L l) ∙ length-replicate n _

-- a body has its size
pub length-body : (s : Placed) (img : List ℕ) → s.size ≤ length s.carriers → length (body s.size (bytes_in s img)) ≡ s.size
length-body s img h = length-drop (length (bytes_in s img) - s.size) (bytes_in s img) ∙ rw length-gather (omega arith)

pub fits_carriers : (s : Placed) → ((b : List ℕ) → length b ≡ s.size → length (promote s.extension b) ≡ length s.carriers) → s.size ≤ length s.carriers
fits_carriers s h =
    let b : List ℕ = replicate s.size 0 in
    let e : length b ≡ s.size = length-replicate s.size 0 in
    omega (arith, h b e, length-append (front s.extension b) b)

-- a reading has the length of its records
pub reading_length : (L : List Placed) (img : List ℕ) → Sized L → length (reading L img) ≡ length_of_list L
reading_length [] img z = refl
reading_length (s ∷ L) img z =
    let b : List ℕ = body s.size (bytes_in s img) in
    omega (arith, length-append b (reading L img), length-body s img (fits_carriers s z.0), reading_length L img z.1)

-- an accepted image holds the promotion of the body in it
pub promotion_of : (s : Placed) (img : List ℕ) → is_proper s img ≡ true → promote s.extension (body s.size (bytes_in s img)) ≡ bytes_in s img
promotion_of s img e = same→eq (promote s.extension (body s.size (bytes_in s img))) (bytes_in s img) (rw e tt)

-- so the bytes of the reading's arguments after promotion are the carried bytes
pub promoted-reading : (L : List Placed) (img : List ℕ) → Sized L → AllProper L img → promoted_bytes L (reading L img) ≡ gather img (carried L)
promoted-reading [] img z t = refl
promoted-reading (s ∷ L) img z t =
    let b : List ℕ = body s.size (bytes_in s img) in
    let e : length b ≡ s.size = length-body s img (fits_carriers s z.0) in
    rw (take_at b (reading L img) s.size e, drop_at b (reading L img) s.size e, promotion_of s img t.0, gather_append)
    (ap (λ (r : List ℕ). bytes_in s img ++ r) (promoted-reading L img z.1 t.1))

-- reading and acceptance follow from the carried bytes
module _ (a b : List ℕ) where
  abbrev Agree : List Placed → Type 0
  Agree L = (p : ℕ) → In p (carried L) → get_or a p 0 ≡ get_or b p 0

  first_agrees : (s : Placed) (L : List Placed) → Agree (s ∷ L) → bytes_in s a ≡ bytes_in s b
  first_agrees s L h = gather_agree a b s.carriers (λ p m. h p (in_left s.carriers (carried L) p m))

  rest_agrees : (s : Placed) (L : List Placed) → Agree (s ∷ L) → Agree L
  rest_agrees s L h p m = h p (in_right s.carriers (carried L) p m)

  reading_agree : (L : List Placed) → Agree L → reading L a ≡ reading L b
  reading_agree [] h = refl
  reading_agree (s ∷ L) h = rw (first_agrees s L h, reading_agree L (rest_agrees s L h))

  proper_agree : (L : List Placed) → Agree L → AllProper L b → AllProper L a
  proper_agree [] h t = tt
  proper_agree (s ∷ L) h t = (rw (first_agrees s L h) t.0, proper_agree L (rest_agrees s L h) t.1)

zero-at : (n p : ℕ) → ◌≡◌ {A = ℕ} (get_or (replicate n 0) p 0) 0
zero-at zero p = refl
zero-at (suc n) zero = refl
zero-at (suc n) (suc p) = zero-at n p

module _ (n : ℕ) (L : List Placed) (w : OneEach n L) where
  rewriting-is : (a : List ℕ) → Accepted n L a → rewriting n L a ≡ put (replicate n 0) (carried L) (gather a (carried L))
  rewriting-is a o = rw (promoted-reading L a w.sized o.promoted)

  pub keeps : (a : List ℕ) → Accepted n L a → (p : ℕ) → In p (carried L) → get_or (rewriting n L a) p 0 ≡ get_or a p 0
  keeps a o = agree_gather (rewriting n L a) a (carried L)
      (rw (rewriting-is a o)
      (gather-put (replicate n 0) (carried L) (gather a (carried L)) w.distinct
      (λ p m. rw length-replicate (w.inside p m)) (length-gather a (carried L))))

  pub clears : (a : List ℕ) (p : ℕ) → (In p (carried L) → ⊥) → get_or (rewriting n L a) p 0 ≡ 0
  clears a p h = get_or-put_other (replicate n 0) (carried L) (promoted_bytes L (reading L a)) p h ∙ zero-at n p

  pub accepted : (a : List ℕ) → Accepted n L a → Accepted n L (rewriting n L a)
  accepted a o = record {
    whole = image-length n L (reading L a);
    promoted = proper_agree (rewriting n L a) a L (keeps a o) o.promoted;
  }

  pub reads_same : (a : List ℕ) → Accepted n L a → reading L (rewriting n L a) ≡ reading L a
  reads_same a o = reading_agree (rewriting n L a) a L (keeps a o)

  pub read_same : (a b : List ℕ) → Accepted n L a → Accepted n L b
      → (reading L a ≡ reading L b) ↔ ((p : ℕ) → In p (carried L) → get_or a p 0 ≡ get_or b p 0)
  read_same a b oa ob = (
    (λ e. agree_gather a b (carried L)
        (sym (promoted-reading L a w.sized oa.promoted) ∙ ap (promoted_bytes L) e ∙ promoted-reading L b w.sized ob.promoted)),
    reading_agree a b L,
  )

  pub same_rewriting : (a b : List ℕ) → Accepted n L a → Accepted n L b → (rewriting n L a ≡ rewriting n L b) ↔ (reading L a ≡ reading L b)
  same_rewriting a b oa ob = (
    (λ e. sym (reads_same a oa) ∙ ap (reading L) e ∙ reads_same b ob),
    ap (image n L),
  )

-- ---- what the reader answers, of an accepted image

abbrev pub Passed : List Placed → List ℕ → Outcome → List ℕ → Type 0
Passed L img (refused r at j) x = Unit {0}
Passed L img (done y) x = AllProper L img × (x ≡ y)

pub checked_accepts : (L : List Placed) (img x : List ℕ) (at : ℕ) → AllProper L img → checked 8 at L img (done x) ≡ done x
checked_accepts [] img x at t = refl
checked_accepts (s ∷ L) img x at t = rw t.0 (checked_accepts L img x (suc at) t.1)

pub checked_passes : (L : List Placed) (img x : List ℕ) (at : ℕ) → Passed L img (checked 8 at L img (done x)) x
checked_passes [] img x at = (tt, refl)
checked_passes (s ∷ L) img x at = go (is_proper s img) refl (checked 8 (suc at) L img (done x)) (checked_passes L img x (suc at))
  where
    go : (t : Bool) → is_proper s img ≡ t → (a : Outcome) → Passed L img a x → Passed (s ∷ L) img (cond t a (refused 8 at s.argument)) x
    go false e a h = tt
    go true e (refused r at' j) h = tt
    go true e (done y) h = ((e, h.0), h.1)
