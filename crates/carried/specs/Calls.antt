-- What a caller gets from a reader and a writer with lent buffers, and the clauses of demand 3 on images, readings and rewritings, said
-- of that. Nothing here belongs to one convention. Demand 3 as a whole, with its text, is o32_laws/specs/Demand.antt.
use Rattle.std.specs.Prelude.{◌≡◌, ◌⊎◌, ◌↔◌, List, ℕ, ◌≤◌, length, get_or, take}
use Rattle.carried.specs.Convention.{Convention, read_into, write_into}
use Rattle.answers.specs.declared.Answer.{Answer}
use Rattle.answers.specs.Outcomes.{answer_of, buffer_of}

-- What a caller gets from a call: the numbers of its answer, and its buffer afterwards.
pub record Result : Type 0 where
  pub refusal : ℕ
  pub place : ℕ
  pub argument : ℕ
  pub length : ℕ
  pub buffer : List ℕ

-- What the call has put into the buffer: its first bytes (of a buffer for a plan, words), as many as it answers.
abbrev pub output : Result → List ℕ
output r = take r.length r.buffer

-- A reader, of a signature and an image into a buffer for the list; and a writer, of a list into a buffer for the image.
pub record Functions : Type 0 where
  pub read : List ℕ → List ℕ → List ℕ → Result
  pub write : List ℕ → List ℕ → Result

abbrev pub result_of : Answer → List ℕ → Result
result_of a out = record { refusal = a.refusal; place = a.place; argument = a.argument; length = a.length; buffer = out }

-- The functions that contracts with `answer_of` and `buffer_of` describe, as those of `read` and `write` do for O32.
abbrev pub functions_of : Convention → Functions
functions_of c = record {
  read = λ sig img out. result_of (answer_of (read_into c sig img (length out))) (buffer_of (read_into c sig img (length out)) out);
  write = λ list out. result_of (answer_of (write_into c list (length out))) (buffer_of (write_into c list (length out)) out);
}

-- Success, or a refusal of the image (6, 8) or of the buffer (7).
abbrev pub PastSignature : ℕ → Type 0
PastSignature r = (r ≡ 0) ⊎ (r ≡ 6) ⊎ (r ≡ 7) ⊎ (r ≡ 8)

-- "a signature is accepted when none of the reader's checks on signatures refuses it": the reader answers one of these, whatever the
-- image and the buffer.
abbrev pub AcceptedSignature : Functions → List ℕ → Type 0
AcceptedSignature f sig = (img out : List ℕ) → PastSignature (f.read sig img out).refusal

-- Two buffers that are long enough, one for lists of m bytes and one for images of n, whatever they hold.
pub record LentBuffers (m n : ℕ) : Type 0 where
  pub list : List ℕ
  pub image : List ℕ
  pub list_long : m ≤ length list
  pub image_long : n ≤ length image

module _ (f : Functions) (sig : List ℕ) {m n : ℕ} where
  -- An image is accepted for the signature: the reader, with a buffer that is long enough, so that 7 cannot hold, answers success.
  abbrev pub Accepts : LentBuffers m n → List ℕ → Type 0
  Accepts u a = (f.read sig a u.list).refusal ≡ 0

  -- "The reading is the list that the reader writes".
  abbrev pub reading_of : LentBuffers m n → List ℕ → List ℕ
  reading_of u a = output (f.read sig a u.list)

  -- "The rewriting is the image that the writer gives for the reading."
  abbrev pub rewrite : LentBuffers m n → List ℕ → Result
  rewrite u a = f.write (reading_of u a) u.image

  abbrev pub rewriting_of : LentBuffers m n → List ℕ → List ℕ
  rewriting_of u a = output (rewrite u a)

-- Two images agree on these bytes, whatever the rest holds.
abbrev pub Agree : (ℕ → Type 0) → List ℕ → List ℕ → Type 0
Agree IsCarried a b = (p : ℕ) → IsCarried p → get_or a p 0 ≡ get_or b p 0

-- At one accepted signature, whose lists have m bytes and whose images n; IsCarried says which image bytes are carried. Each image is
-- read and rewritten in buffers of its own, u or v. The comments quote demand 3.
pub record AcceptedImages (f : Functions) (sig : List ℕ) (m n : ℕ) (IsCarried : ℕ → Type 0) : Type 0 where
  -- (Some image is accepted, and which are, and what they read as, does not depend on what the buffers hold.)
  pub some_accepted : (u : LentBuffers m n) → (a : List ℕ) × Accepts f sig u a
  pub same_in_all_buffers : (u v : LentBuffers m n) (a : List ℕ) → Accepts f sig u a → Accepts f sig v a × (reading_of f sig u a ≡ reading_of f sig v a)
  -- "Two accepted images read as the same list exactly when they agree on all carried bytes, whatever the rest holds."
  pub read_same : (u v : LentBuffers m n) (a b : List ℕ) → Accepts f sig u a → Accepts f sig v b
      → (reading_of f sig u a ≡ reading_of f sig v b) ↔ Agree IsCarried a b
  -- "The writer accepts the reading of every accepted image; the image it then gives (the rewriting) ..
  pub rewrites : (u : LentBuffers m n) (a : List ℕ) → Accepts f sig u a → (rewrite f sig u a).refusal ≡ 0
  pub rewriting_length : (u : LentBuffers m n) (a : List ℕ) → Accepts f sig u a → ((rewrite f sig u a).length ≡ n) × (length (rewriting_of f sig u a) ≡ n)
  -- .. has the first one's carried bytes
  pub keeps_carried : (u : LentBuffers m n) (a : List ℕ) → Accepts f sig u a → Agree IsCarried (rewriting_of f sig u a) a
  -- and zero elsewhere,
  pub zero_elsewhere : (u : LentBuffers m n) (a : List ℕ) → Accepts f sig u a → (p : ℕ) → (IsCarried p → ⊥) → get_or (rewriting_of f sig u a) p 0 ≡ 0
  -- is accepted,
  pub accepted_again : (u v : LentBuffers m n) (a : List ℕ) → Accepts f sig u a → Accepts f sig v (rewriting_of f sig u a)
  -- reads the same,
  pub reads_the_same : (u v : LentBuffers m n) (a : List ℕ) → Accepts f sig u a → reading_of f sig v (rewriting_of f sig u a) ≡ reading_of f sig u a
  -- is a fixed point;
  pub fixed_point : (u v : LentBuffers m n) (a : List ℕ) → Accepts f sig u a → rewriting_of f sig v (rewriting_of f sig u a) ≡ rewriting_of f sig u a
  -- two images have the same rewriting exactly when they read as the same list."
  pub same_rewriting : (u v : LentBuffers m n) (a b : List ℕ) → Accepts f sig u a → Accepts f sig v b
      → (rewriting_of f sig u a ≡ rewriting_of f sig v b) ↔ (reading_of f sig u a ≡ reading_of f sig v b)
