use Rattle.std.proofs.Common.{◌≡◌, ℕ, ◌-◌, ◌≤◌, ℤ, pos, List, ◌++◌, length, take, drop, reverse, replicate, arith, sym, ◌∙◌, ap}
use Rattle.std.proofs.lemmas.List.{drop-replicate, take_rest, reverse-reverse, length-take, length-reverse}
use Rattle.sts_model.proofs.ListLemmas.{reverse_take}
use Rattle.sts_frames.proofs.beginning.entry_locals.Goals as goal

-- the last of the values, which are the operands from the lowest on
last : (ops vals : List ℤ) (n : ℕ) → vals ≡ reverse ops → n ≤ length ops → drop (length vals - n) vals ≡ reverse (take n ops)
last ops vals n back enough =
    ap (λ (l : List ℤ). drop (length l - n) l) back
    ∙ sym (reverse_take ops (length (reverse ops) - n) n (omega (arith, length-reverse ops, enough)))

pub returns : goal.returns
returns c =
    let ops : List ℤ = c.args.forker.now.operands in
    let vals = c.as_slice-operands.result.now in
    let n = c.args.args in
    let back : vals ≡ reverse ops = sym (reverse-reverse vals) ∙ ap reverse c.as_slice-operands.ensures in
    let copied : c.copy_from_slice.new.self ≡ reverse (take n ops) =
    c.copy_from_slice.ensures.after ∙ take_rest vals (length vals - n) ∙ last ops vals n back c.requires.enough in
    let size : length (reverse (take n ops)) ≡ n = simp (length-reverse, length-take) (omega arith) in
    ap (λ (l : List ℤ). l ++ drop n (replicate 16 (pos 0))) copied
    ∙ ap (λ (z : List ℤ). reverse (take n ops) ++ z) (drop-replicate n 16 (pos 0) ∙ ap (λ (k : ℕ). replicate (16 - k) (pos 0)) (sym size))
