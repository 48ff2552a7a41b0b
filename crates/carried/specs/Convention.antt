-- The writer and the reader of any calling convention ("The list and its kinds", "Refusal numbers").
use Rattle.std.specs.Prelude.{List, [], ◌∷◌, Bool, true, false, cond, ℕ, zero, suc, length, eqb, ltb}
use Rattle.answers.specs.Outcomes.{Outcome, done, refused, check_room}
use Rattle.carried.specs.Image.{Placed, image, reading, checked}

-- What a kind byte gets: a refusal, or a placement and the state after it; and in both the number of the argument that it is or
-- would be, from 1, or 0 where it is none (request (iv) of document 02). A refusal's own number comes first.
pub data Step (Placement State : Type 0) : Type 0 where
  refuse : ℕ → ℕ → Step Placement State
  next : ℕ → Placement → State → Step Placement State

-- A calling convention: what it keeps of the arguments before (State), and what it gives to one (Placement).
pub record Convention : Type 1 where
  pub State : Type 0
  pub Placement : Type 0
  pub start : State
  -- refusals 1 to 3, or the placement of this kind byte, with its argument's number
  pub step : State → ℕ → Step Placement State
  -- this kind byte's record, as the argument of this number, so placed
  pub placed_at : ℕ → ℕ → Placement → Placed
  -- whether the arguments so far end within the limit (refusal 5)
  pub fits : State → Bool
  -- the length of the image of the arguments so far
  pub image_length : State → ℕ

-- All records of a list or a signature: stopped by a refusal, with its number, place and argument; or complete, placed, and the
-- last state.
pub data Scan (State : Type 0) : Type 0 where
  stopped : ℕ → ℕ → ℕ → Scan State
  complete : List Placed → State → Scan State

abbrev pub prepend : {State : Type 0} → Placed → Scan State → Scan State
prepend s (stopped r at n) = stopped r at n
prepend s (complete L st) = complete (s ∷ L) st

-- What comes of a scan: its refusal, or else what is made of its records and the last state. A check on the last state stands there.
abbrev pub resolve : {State : Type 0} → Scan State → (List Placed → State → Outcome) → Outcome
resolve (stopped r at n) then = refused r at n
resolve (complete L st) then = then L st

-- How many bytes follow a kind byte: in a list the body, in a signature none ("The signature is the kind bytes alone").
abbrev pub body_length : Bool → ℕ → ℕ
body_length bodies size = cond bodies size 0

module _ (c : Convention) where
  -- A record with so many bytes left after its kind byte. "At each record the order is 1 to 5": the convention has refused 1
  -- to 3, or 4 is next (body cut off), then 5.
  abbrev pub limited : Bool → ℕ → ℕ → Step c.Placement c.State → Step c.Placement c.State
  limited bodies left k (refuse r n) = refuse r n
  limited bodies left k (next n p st) =
      cond (ltb left (body_length bodies (c.placed_at k n p).size)) (refuse 4 n) (cond (c.fits st) (next n p st) (refuse 5 n))

  -- One record, with all its refusals.
  abbrev pub taken : Bool → ℕ → c.State → ℕ → Step c.Placement c.State
  taken bodies left st k = limited bodies left k (c.step st k)

  -- The scan from a record on, by its answer: stopped at its place and as this argument, or its record and then the rest.
  abbrev pub proceed : ℕ → ℕ → Step c.Placement c.State → (ℕ → c.State → Scan c.State) → Scan c.State
  proceed at k (refuse r n) rest = stopped r at n
  proceed at k (next n p st) rest = prepend (c.placed_at k n p) (rest (c.placed_at k n p).size st)

  -- "records are checked left to right": from the byte at this place on, with so many bytes of a body still to pass.
  abbrev pub scan_from : Bool → ℕ → c.State → ℕ → List ℕ → Scan c.State
  scan_from bodies at st n [] = complete [] st
  scan_from bodies at st zero (k ∷ l) = proceed at k (taken bodies (length l) st k) (λ size st'. scan_from bodies (suc at) st' (body_length bodies size) l)
  scan_from bodies at st (suc n) (b ∷ l) = scan_from bodies (suc at) st n l

  -- The scan of a list (true) or of a signature (false).
  abbrev pub scan : Bool → List ℕ → Scan c.State
  scan bodies l = scan_from bodies 0 c.start 0 l

  -- The writer, with a check of the room for the image: refusals 1 to 5, then 7, else the image.
  abbrev pub write_scan : (ℕ → Outcome → Outcome) → List ℕ → Scan c.State → Outcome
  write_scan room l q = resolve q (λ L st. room (length (image (c.image_length st) L l)) (done (image (c.image_length st) L l)))

  -- "After the last: 6, 7, 8": an image of these records and this last state, with a check of the room for what is answered; else
  -- these bytes.
  abbrev pub check_image : (ℕ → Outcome → Outcome) → List ℕ → List Placed → c.State → List ℕ → Outcome
  check_image room img L st x = cond (eqb (length img) (c.image_length st)) (room (length x) (checked 8 0 L img (done x))) (refused 6 0 0)

  -- The reader, with a check of the room for the list: refusals 1, 2, 3 and 5, then those of the image, else the reading.
  abbrev pub read_scan : (ℕ → Outcome → Outcome) → List ℕ → Scan c.State → Outcome
  read_scan room img q = resolve q (λ L st. check_image room img L st (reading L img))

  -- Both where there is room for anything,
  abbrev pub write : List ℕ → Outcome
  write l = write_scan (λ n x. x) l (scan true l)

  abbrev pub read : List ℕ → List ℕ → Outcome
  read sig img = read_scan (λ n x. x) img (scan false sig)

  -- and with a lent buffer of so many bytes.
  abbrev pub write_into : List ℕ → ℕ → Outcome
  write_into l room = write_scan (check_room 7 room) l (scan true l)

  abbrev pub read_into : List ℕ → List ℕ → ℕ → Outcome
  read_into sig img room = read_scan (check_room 7 room) img (scan false sig)
