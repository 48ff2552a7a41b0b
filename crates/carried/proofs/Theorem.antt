-- The carried-bytes theorem, of the writer and the reader of every convention whose steps give it.
-- Assumes nothing.
use mathlib.Core.Path.{◌≡◌, refl, sym, ap, ◌∙◌, subst}
use mathlib.Core.List.{List}
use mathlib.Core.Bool.{Bool, true, false, cond}
use Prim.Native.Nat.{ℕ}
use lib.ListN.{length}
use lib.Dec.{eqb}
use borrow.Author.Tests.{eqb-true, eq-eqb}
use Rattle.carried.specs.Image.{Placed, image, reading, checked}
use Rattle.answers.specs.Outcomes.{Outcome, done, refused}
use Rattle.carried.specs.Convention.{Convention, complete, scan, write, read}
use Rattle.carried.specs.Carried.{OneEach, Carried, Accepted}
use Rattle.carried.proofs.Readings as R
use Rattle.carried.proofs.Readings.{done_inj, Passed, checked_accepts, checked_passes}
use Rattle.carried.proofs.Walks.{Laws, Walk, walk_of, walk-kinds, walk_one_each}
use Rattle.carried.proofs.Wholeness.{scan_reading}

-- what an image that the reader accepts is, and that such an image is accepted
abbrev Reads : ℕ → List Placed → List ℕ → Outcome → Type 0
Reads n L img (refused r at j) = Unit {0}
Reads n L img (done x) = Accepted n L img × (reading L img ≡ x)

reads : (n : ℕ) (L : List Placed) (img : List ℕ) → Reads n L img (cond (eqb (length img) n) (checked 8 0 L img (done (reading L img))) (refused 6 0 0))
reads n L img = go (eqb (length img) n) refl (checked 8 0 L img (done (reading L img))) (checked_passes L img (reading L img) 0)
  where
    go : (t : Bool) → eqb (length img) n ≡ t → (a : Outcome) → Passed L img a (reading L img) → Reads n L img (cond t a (refused 6 0 0))
    go false e a h = tt
    go true e (refused r at j) h = tt
    go true e (done x) h = (record { whole = eqb-true (length img) n e; promoted = h.0 }, h.1)

module _ (c : Convention) (laws : Laws c) (sig : List ℕ) (L : List Placed) (last : c.State) (ok : scan c false sig ≡ complete L last) where
  abbrev n : ℕ
  n = c.image_length last

  signature-walk : Walk c laws c.start sig L last
  signature-walk = walk_of c laws sig c.start L last 0 ok

  one_each : OneEach n L
  one_each = walk_one_each c laws signature-walk

  from-read : (a x : List ℕ) → read c sig a ≡ done x → Accepted n L a × (reading L a ≡ x)
  from-read a x e = subst (Reads n L a) (rw ok at e) (reads n L a)

  to_read : (a : List ℕ) → Accepted n L a → read c sig a ≡ done (reading L a)
  to_read a o = rw (ok, eq-eqb (length a) n o.whole) (checked_accepts L a (reading L a) 0 o.promoted)

  write-reading : (a x : List ℕ) → reading L a ≡ x → write c x ≡ done (image n L x)
  write-reading a x e = rw (← e, scan_reading c laws signature-walk a 0)

  rewritten : (a x r : List ℕ) → reading L a ≡ x → write c x ≡ done r → R.rewriting n L a ≡ r
  rewritten a x r e w = ap (image n L) e ∙ done_inj (sym (write-reading a x e) ∙ w)

  pub theorem : Carried c sig L (c.image_length last)
  theorem = record {
    signature = walk-kinds c laws signature-walk;
    one_each = one_each;
    accepts = to_read;
    accepted = λ a x e. (from-read a x e).0;
    carries = λ a x e. rw (← (from-read a x e).1) (R.promoted-reading L a one_each.sized (from-read a x e).0.promoted);
    read_same = λ a b x y ea eb.
        rw (← (from-read a x ea).1, ← (from-read b y eb).1) (R.read_same n L one_each a b (from-read a x ea).0 (from-read b y eb).0);
    rewrites = λ a x e.
        let o : Accepted n L a = (from-read a x e).0 in
        let is : reading L a ≡ x = (from-read a x e).1 in
        rw (← is) (record {
          rewriting = R.rewriting n L a;
          written = write-reading a (reading L a) refl;
          whole = (R.accepted n L one_each a o).whole;
          keeps = R.keeps n L one_each a o;
          clears = R.clears n L one_each a;
          reads = to_read (R.rewriting n L a) (R.accepted n L one_each a o) ∙ ap done (R.reads_same n L one_each a o);
          fixed = λ y s e₁ e₂.
              sym (rewritten (R.rewriting n L a) y s (from-read (R.rewriting n L a) y e₁).1 e₂) ∙ ap (image n L) (R.reads_same n L one_each a o);
        });
    same_rewriting = λ a b x y r s ea eb er es.
        rw (← (rewritten a x r (from-read a x ea).1 er), ← (rewritten b y s (from-read b y eb).1 es), ← (from-read a x ea).1, ← (from-read b y eb).1)
        (R.same_rewriting n L one_each a b (from-read a x ea).0 (from-read b y eb).0);
  }
