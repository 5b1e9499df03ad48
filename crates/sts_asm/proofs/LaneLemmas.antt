-- From the marks of one load to the bytes of a text.
use Rattle.std.proofs.Common.{◌≡◌, ℕ, ◌+◌, ◌%◌, ◌^◌, ◌<◌, ◌≤◌, eqb, Bool, true, not, cond, List, map, length, get_or, Fits, w8, sym, ap, ◌∙◌, arith}
use Rattle.std.specs.List.{prefix_len}
use Rattle.std.proofs.lemmas.Bool.{agree_below, agree_below_at, not-false}
use Rattle.std.proofs.lemmas.List.{length-map}
use Rattle.std.proofs.lemmas.Simd.{map-map, mask_l-mod, length-chunk, first_set_mask_l, zip2_of_maps, run_in_chunk_le, run_in_chunk_fails}
use lib.Count.{count_trailing_zeros}
use lib.Lanes.{chunk, mask_l, top, zip2}

-- an operation on two vectors that were computed lane by lane from v
pub joined : (h : ℕ → ℕ → ℕ) (f g : ℕ → ℕ) (v : List ℕ) {a b : List ℕ} → a ≡ map f v → b ≡ map g v → zip2 h a b ≡ map (λ x. h (f x) (g x)) v
joined h f g v p q = zip2_of_maps h f g v p q

-- z marks the lanes of n bytes from i on where the test fails, and r is the place of the first mark
module _ (test : ℕ → Bool) (d : List ℕ) (i n r : ℕ) (z : List ℕ) (room : i + n ≤ length d) (few : n ≤ 64)
    (fits : (k : ℕ) → Fits w8 (get_or d k 0))
    (found : r ≡ cond (eqb (mask_l (map (top 7) z) % 2 ^ 64) 0) n (count_trailing_zeros 64 (mask_l (map (top 7) z) % 2 ^ 64)))
    (f : ℕ → ℕ) (lanes : z ≡ map f (chunk i n d)) where
  abbrev stops : ℕ → Bool
  stops x = top 7 (f x)

  counted : r ≡ prefix_len (λ x. not (stops x)) (chunk i n d)
  counted =
      let v = chunk i n d in
      let long = length-chunk i n d room in
      let mask = ap (λ l. mask_l l % 2 ^ 64) (ap (map (top 7)) lanes ∙ map-map (top 7) f v) ∙ mask_l-mod (map stops v) 64 (omega (arith, length-map v stops, long)) in
      found ∙ ap (λ m. cond (eqb m 0) n (count_trailing_zeros 64 m)) mask ∙ first_set_mask_l stops v n long few

  -- so the bytes before it pass the test
  pub run_passes : agree_below stops (λ x. not (test x)) 256 ≡ true → (r ≤ n) × ((k : ℕ) → i ≤ k → k < i + r → test (get_or d k 0) ≡ true)
  run_passes all = (
    run_in_chunk_le stops d i n r 0 room counted,
    λ k from to. not-false _ (sym (agree_below_at stops (λ x. not (test x)) 256 (get_or d k 0) all (fits k).fits) ∙ run_in_chunk_fails stops d i n r 0 room counted k from to),
  )
