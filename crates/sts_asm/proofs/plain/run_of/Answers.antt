use Rattle.std.proofs.Common.{◌≡◌, ℕ, cond, ltb, eqb, not, List, length, map, replicate, bit_or, bit_and, refl, arith}
use Rattle.std.proofs.lemmas.Simd.{zip2_splat, zip2_splat_left, length-chunk}
use Rattle.sts_asm.specs.Outline.{is_allowed, is_plain}
use Rattle.sts_asm.proofs.LaneLemmas.{joined, run_passes}
use lib.Lanes.{chunk, zip2}
use Rattle.sts_asm.proofs.plain.run_of.Goals as goal

abbrev below : ℕ → ℕ → ℕ
below a b = cond (ltb a b) 255 0

-- the lanes of bytes that are not from the space to `~`
unprinted : (v : List ℕ) → length v ≡ 16 → zip2 bit_or (zip2 below v (replicate 16 32)) (zip2 below (replicate 16 126) v) ≡ map (λ x. bit_or (below x 32) (below 126 x)) v
unprinted v long = joined bit_or _ _ v (zip2_splat {Y = ℕ} below v 16 32 long) (zip2_splat_left {X = ℕ} below 126 16 v long)

pub returns-in-Plain : goal.returns-in-Plain
returns-in-Plain c =
    let v = chunk c.args.from 16 c.args.text.now in
    let long = length-chunk c.args.from 16 c.args.text.now c.requires in
    let h = run_passes is_plain c.args.text.now c.args.from 16 _ _ c.requires (omega arith) c.type_inv.text c.lowest_of.ensures _
    (joined bit_or _ _ v (unprinted v long) (zip2_splat {Y = ℕ} (λ a b. cond (eqb a b) 255 0) v 16 59 long)) refl in
    record { few = h.0; inside = rw c.in-Plain.is h.1 }

pub returns-in-Allowed : goal.returns-in-Allowed
returns-in-Allowed c =
    let v = chunk c.args.from 16 c.args.text.now in
    let long = length-chunk c.args.from 16 c.args.text.now c.requires in
    let other = joined bit_and _ _ v (zip2_splat {Y = ℕ} (λ a b. cond (not (eqb a b)) 255 0) v 16 9 long)
    (zip2_splat {Y = ℕ} (λ a b. cond (not (eqb a b)) 255 0) v 16 13 long) in
    let h = run_passes is_allowed c.args.text.now c.args.from 16 _ _ c.requires (omega arith) c.type_inv.text c.lowest_of-in-Allowed.ensures _
    (joined bit_and _ _ v (unprinted v long) other) refl in
    record { few = h.0; inside = rw c.in-Allowed.is h.1 }
