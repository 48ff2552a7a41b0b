-- Why a list is reported as its first 2,048 bytes are: a longer list is refused, at byte 1,057 or before it, and of what stands after
-- that byte only whether it has 512 bytes, the longest body, decides.
-- Assumes nothing.
use mathlib.Core.Path.{◌≡◌, refl, ap, ◌∙◌}
use mathlib.Core.List.{List}
use mathlib.Core.Bool.{Bool, true, false}
use Prim.Native.Nat.{ℕ, ◌+◌, ◌-◌, ◌≤◌}
use native.Mathlib.Omega.{arith}
use lib.ListN.{length, get_or, take}
use lib.Seq.{length-take-le, get_or-take, take-take, take_all}
use lib.Dec.{leb}
use borrow.Author.Tests.{le-ltb, leb-true, leb-false}
use Rattle.carried.specs.Convention.{Step, refuse, next, Scan, stopped, complete, scan, limited, taken, write_scan, write}
use Rattle.carried.proofs.Refusals.{StopsAt, scan_stops}
use Rattle.device.specs.declared.Device.TheVariants.{Fpu}
use Rattle.o32.specs.declared.State.{State}
use Rattle.o32.specs.declared.Placement.{Placement}
use Rattle.o32.specs.O32.{O32}
use Rattle.o32_laws.proofs.Bounds.{refusal_bound, scan_bound}
use Rattle.kinds.proofs.KindFacts.{kind_facts}
use Rattle.o32_laws.proofs.Steps.{step-described}
use Rattle.report.specs.Report.{text_of, report_text, read_limit, ReadLimit}

-- with 512 bytes or more after a kind byte, it does not matter how many
enough_left : (st : State) (k left fewer : ℕ) → 512 ≤ left → 512 ≤ fewer → taken (O32 Fpu) true left st k ≡ taken (O32 Fpu) true fewer st k
enough_left st k left fewer h g = go ((O32 Fpu).step st k) refl
  where
    go : (s : Step Placement State) → (O32 Fpu).step st k ≡ s → limited (O32 Fpu) true left k s ≡ limited (O32 Fpu) true fewer k s
    go (refuse r j) e = refl
    go (next j p st') e =
        let size : p.kind.size ≤ 512 = rw (step-described Fpu st k j p st' e).at (kind_facts k).small in
        rw (le-ltb left p.kind.size (omega arith), le-ltb fewer p.kind.size (omega arith))

module _ (n : ℕ) (enough : 1570 ≤ n) (list : List ℕ) where
  stops_in_first : n ≤ length list → (r place j : ℕ) → place ≤ 1057 → StopsAt (O32 Fpu) true list r place j → StopsAt (O32 Fpu) true (take n list) r place j
  stops_in_first long r place j b w =
      let m : length (take n list) ≡ n = length-take-le n list long in
      record {
        inside = omega arith;
        before = w.before;
        last = w.last;
        accepted = ap (scan (O32 Fpu) true) (take-take place n list (omega arith)) ∙ w.accepted;
        refusal = ap (taken (O32 Fpu) true (length (take n list) - (place + 1)) w.last) (get_or-take n list place 0 (omega arith))
            ∙ enough_left w.last (get_or list place 0) (length (take n list) - (place + 1)) (length list - (place + 1)) (omega arith) (omega arith) ∙ w.refusal;
      }

  written_by_first : n ≤ length list → write (O32 Fpu) (take n list) ≡ write (O32 Fpu) list
  written_by_first long = go (scan (O32 Fpu) true list) refl
    where
      go : (q : Scan State) → scan (O32 Fpu) true list ≡ q → write (O32 Fpu) (take n list) ≡ write_scan (O32 Fpu) (λ n x. x) list q
      go (complete L last) e = absurd (omega (arith, (scan_bound Fpu true list L last e).long))
      go (stopped r place j) e =
          let w = stops_in_first long r place j (refusal_bound Fpu true list r place j e).0 ((scan_stops (O32 Fpu) true list r place j).0 e) in
          ap (write_scan (O32 Fpu) (λ n x. x) (take n list)) ((scan_stops (O32 Fpu) true (take n list) r place j).1 w)

  reported_by_first : report_text (take n list) ≡ report_text list
  reported_by_first = go (leb n (length list)) refl
    where
      go : (t : Bool) → leb n (length list) ≡ t → report_text (take n list) ≡ report_text list
      go true e = ap text_of (written_by_first (leb-true n (length list) e))
      go false e = ap report_text (take_all n list (omega (arith, leb-false n (length list) e)))

pub read_limit_lem : ReadLimit
read_limit_lem = reported_by_first read_limit (omega arith)
