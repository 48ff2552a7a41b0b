-- `put_plain` meets its contract: the bytes lie together in the area, or in the block, or are split at offset 16.
use mathlib.Core.Path.{◌≡◌, ap, ◌∙◌}
use mathlib.Core.List.{List, map}
use Prim.Native.Nat.{ℕ, ◌+◌, ◌-◌}
use native.Mathlib.Omega.{arith}
use lib.ListN.{length, take, drop}
use Rattle.std.proofs.lemmas.List.{set-get_or, take_all}
use lib.Seq.{length-take-le}
use Rattle.words.specs.Words.{bytes_of_words}
use Rattle.places.specs.Places.{put, run}
use Rattle.places.proofs.Stores.{run-written}
use Rattle.o32.specs.O32.{carrier}
use Rattle.o32_store.specs.Block.{whole}
use Rattle.o32_store.proofs.Image.{laid_low, laid_high, laid_split}
use Rattle.o32_store.proofs.put_plain.Goals as goal

pub returns-then-o-ge16 : goal.returns-then-o-ge16
returns-then-o-ge16 c =
    let h : length c.args.block ≡ 8 = omega (arith, c.well_formed) in
    let body : List ℕ = c.args.body.now in
    let n : ℕ = length body in
    let stored = laid_high c.args.block h c.args.out.now _ n c.args.o body (omega arith)
    (run-written c.args.out.now (32 + c.args.o) n (omega arith) c.copy.new.out body c.copy.auto.out c.copy.ensures) in
    search (arith, set-get_or, stored)

pub returns-then-size-low : goal.returns-then-size-low
returns-then-size-low c =
    let h : length c.args.block ≡ 8 = omega (arith, c.well_formed) in
    laid_low c.args.block h c.put_low.result c.args.out.now (length c.args.body.now) c.args.o c.args.body.now (omega arith) c.put_low.ensures

pub returns : goal.returns
returns c =
    let h : length c.args.block ≡ 8 = omega (arith, c.well_formed) in
    let g : length c.put_low-2.result ≡ 8 = omega (arith, c.put_low-2.type_inv) in
    let body : List ℕ = c.args.body.now in
    let n : ℕ = length body in
    let o : ℕ = c.args.o in
    let low : ℕ = 16 - o in
    let rest : List ℕ = take (n - low) (drop low body) in
    laid_split c.args.block c.put_low-2.result c.args.out.now _ body n o 0 h g (omega arith) (omega arith) (omega arith)
    (c.put_low-2.ensures ∙ ap (λ (k : ℕ). put (bytes_of_words c.args.block) (run o k) (take low body)) (length-take-le low body (omega arith)))
    (run-written c.args.out.now 48 (n - low) (omega arith) c.copy-2.new.out rest c.copy-2.auto.out c.copy-2.ensures
    ∙ ap (λ (k : ℕ). put c.args.out.now (run 48 (n - low)) (take (n - low) (drop k body))) {y = 0 + low} (omega arith))
    ∙ ap (put (whole c.args.block c.args.out.now) (map carrier (run o n))) (take_all n body (omega arith))
