-- The bytes of a series, one by one, and of a field, series by series.
-- Assumes nothing.
use Rattle.std.proofs.Common.{◌≡◌, ℕ, zero, suc, ◌+◌, ◌-◌, ◌%◌, ◌^◌, ◌<◌, ◌≤◌, List, [], ◌∷◌, ◌++◌, length, get_or, set, take, drop, Option, Some, None, option_map, sym, refl, ap, ◌∙◌, append_assoc, append-nil, arith, length-append, le-ltb, lt-ltb, eq-eqb, ne_eqb, le-leb}
use Rattle.std.proofs.lemmas.List.{take_more_set}
use borrow.Author.Tests.{lt-leb}
use lib.Seq.{paste, take_all, take-append_seam, take-length, drop-append-add, drop-drop}
use Rattle.case_input.specs.declared.Series.{Series}
use Rattle.case_input.specs.Lines.{series, series_at, bytes_of, field_from, field, field_length, with_field}

pub series-length : (byte step n : ℕ) → length (series byte step n) ≡ n
unfolding series
series-length byte step zero = refl
series-length byte step (suc n) = ap suc (series-length ((byte + step) % 2 ^ 8) step n)

-- where i bytes are stored, the next one, and what is after it
pub series_step : (l : List ℕ) (i n byte step : ℕ) → i < length l → length l ≡ n
    → take (i + 1) (set l i byte) ++ series ((byte + step) % 2 ^ 8) step (n - (i + 1)) ≡ take i l ++ series byte step (n - i)
unfolding series
series_step l i n byte step h e =
    let m : n - i ≡ suc (n - (i + 1)) = omega arith in
    rw (take_more_set l i byte h, m) (append_assoc (take i l) (byte ∷ []) (series ((byte + step) % 2 ^ 8) step (n - (i + 1))))

pub series_stored : (l : List ℕ) (i byte step : ℕ) → length l ≤ i → take i l ++ series byte step (length l - i) ≡ l
unfolding series
series_stored l i byte step h = let e : length l - i ≡ 0 = omega arith in rw e (append-nil (take i l) ∙ take_all i l h)

-- ---- one step of a field

module _ (text : List ℕ) where
  field-ends : (most i : ℕ) → length text ≤ i → field_from most text i ≡ Some []
  field-ends zero i h = refl
  field-ends (suc most) i h = rw (le-leb (length text) i h)

  field_space : (most i : ℕ) → 1 ≤ most → i < length text → get_or text i 0 ≡ 32 → field_from most text i ≡ field_from (most - 1) text (i + 1)
  field_space zero i g h e = absurd (omega arith)
  field_space (suc most) i g h e = let m : suc most - 1 ≡ most = omega arith in rw (m, lt-leb (length text) i h, eq-eqb (get_or text i 0) 32 e)

  field-malformed : (most i : ℕ) → 1 ≤ most → i < length text → (get_or text i 0 ≡ 32 → ⊥) → series_at text i ≡ None → field_from most text i ≡ None
  field-malformed zero i g h e f = absurd (omega arith)
  field-malformed (suc most) i g h e f = rw (lt-leb (length text) i h, ne_eqb (get_or text i 0) 32 e, f)

  field-series : (most i : ℕ) (t : Series) → 1 ≤ most → i < length text → (get_or text i 0 ≡ 32 → ⊥) → series_at text i ≡ Some t
      → field_from most text i ≡ option_map (λ l. bytes_of t ++ l) (field_from (most - 1) text t.end)
  field-series zero i t g h e f = absurd (omega arith)
  field-series (suc most) i t g h e f = let m : suc most - 1 ≡ most = omega arith in rw (m, lt-leb (length text) i h, ne_eqb (get_or text i 0) 32 e, f)

-- ---- what `put_field` has stored

pub record Taken (text out₀ out : List ℕ) (n i : ℕ) : Type 0 where
  bytes : List ℕ
  most : ℕ
  many : n ≡ length bytes
  held : out ≡ bytes ++ drop (length bytes) out₀
  pub fits : n ≤ length out₀
  enough : length text ≤ i + most
  rest : option_map (λ l. bytes ++ l) (field_from most text i) ≡ field text

pub taken_starts : (text out : List ℕ) → Taken text out out 0 0
taken_starts text out = record {
  bytes = [];
  most = length text;
  many = refl;
  held = refl;
  fits = omega arith;
  enough = omega arith;
  rest = all_of (field text);
}
  where
    all_of : (o : Option (List ℕ)) → option_map (λ l. [] ++ l) o ≡ o
    all_of None = refl
    all_of (Some l) = refl

-- bytes after others
pub laid_after : (a b : List ℕ) (o : Option (List ℕ)) → option_map (λ l. (a ++ b) ++ l) o ≡ option_map (λ l. a ++ l) (option_map (λ l. b ++ l) o)
laid_after a b None = refl
laid_after a b (Some l) = ap Some (append_assoc a b l)

held_after : (out₀ a b : List ℕ) → paste (a ++ drop (length a) out₀) (length a) b (length b) ≡ (a ++ b) ++ drop (length (a ++ b)) out₀
held_after out₀ a b = rw (take-append_seam, take-length, drop-append-add, drop-drop, length-append)

pub too_long : (a b : List ℕ) (o : Option (List ℕ)) (room : ℕ) → room < length a + length b → None ≡ field_length (option_map (λ l. a ++ l) (option_map (λ l. b ++ l) o)) room
too_long a b None room h = refl
too_long a b (Some l) room h = rw (lt-ltb room (length (a ++ (b ++ l))) (omega (arith, length-append a (b ++ l), length-append b l))) refl

module _ {text out₀ out : List ℕ} {n i : ℕ} (w : Taken text out₀ out n i) where
  pub taken_space : i < length text → get_or text i 0 ≡ 32 → Taken text out₀ out n (i + 1)
  taken_space h e = record {
    bytes = w.bytes;
    most = w.most - 1;
    many = w.many;
    held = w.held;
    fits = w.fits;
    enough = omega (arith, w.enough);
    rest = ap (option_map (λ l. w.bytes ++ l)) (sym (field_space text w.most i (omega (arith, w.enough)) h e)) ∙ w.rest;
  }

  pub taken_all : length text ≤ i → (Some n ≡ field_length (field text) (length out₀)) × (out ≡ with_field (field text) out₀)
  taken_all h =
      let f : Some w.bytes ≡ field text = ap Some (sym (append-nil w.bytes)) ∙ ap (option_map (λ l. w.bytes ++ l)) (sym (field-ends text w.most i h)) ∙ w.rest in
      rw (← f, le-ltb (length out₀) (length w.bytes) (omega (arith, w.fits, w.many))) (ap Some w.many, w.held)

  module _ (h : i < length text) (e : get_or text i 0 ≡ 32 → ⊥) where
    pub malformed_field : series_at text i ≡ None → None ≡ field_length (field text) (length out₀)
    malformed_field f =
        let g : None ≡ field text = ap (option_map (λ l. w.bytes ++ l)) (sym (field-malformed text w.most i (omega (arith, w.enough)) h e f)) ∙ w.rest in
        rw (← g) refl

    module _ (t : Series) (f : series_at text i ≡ Some t) where
      split : option_map (λ l. (w.bytes ++ bytes_of t) ++ l) (field_from (w.most - 1) text t.end) ≡ field text
      split =
          laid_after w.bytes (bytes_of t) (field_from (w.most - 1) text t.end)
          ∙ ap (option_map (λ l. w.bytes ++ l)) (sym (field-series text w.most i t (omega (arith, w.enough)) h e f))
          ∙ w.rest

      pub series_too_long : length out₀ - n < t.count → None ≡ field_length (field text) (length out₀)
      series_too_long x =
          let g = sym (laid_after w.bytes (bytes_of t) (field_from (w.most - 1) text t.end)) ∙ split in
          too_long w.bytes (bytes_of t) (field_from (w.most - 1) text t.end) (length out₀) (omega (arith, w.many, w.fits, x, series-length t.byte t.step t.count))
          ∙ ap (λ o. field_length o (length out₀)) g

      pub taken_series : {next : List ℕ} → i < t.end → t.count ≤ length out₀ - n → next ≡ paste out n (bytes_of t) t.count → Taken text out₀ next (n + t.count) t.end
      taken_series {next} k room put =
          let m = series-length t.byte t.step t.count in record {
            bytes = w.bytes ++ bytes_of t;
            most = w.most - 1;
            many = omega (arith, w.many, length-append w.bytes (bytes_of t));
            held =
                put ∙ ap (paste out n (bytes_of t)) (sym m)
                ∙ ap (λ (l : List ℕ). paste l n (bytes_of t) (length (bytes_of t))) w.held
                ∙ ap (λ (k : ℕ). paste (w.bytes ++ drop (length w.bytes) out₀) k (bytes_of t) (length (bytes_of t))) w.many
                ∙ held_after out₀ w.bytes (bytes_of t);
            fits = omega (arith, w.fits);
            enough = omega (arith, w.enough);
            rest = split;
          }
