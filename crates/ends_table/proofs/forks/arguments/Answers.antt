use Rattle.std.proofs.Common.{◌≡◌, ℕ, ◌-◌, ◌≤◌, ℤ, List, ◌++◌, length, take, drop, reverse, arith, refl, sym, ◌∙◌, ap}
use Rattle.std.specs.List.{between}
use Rattle.std.proofs.Math.Seq.{drop-append_seam}
use Rattle.std.proofs.lemmas.List.{take-append-drop, reverse-append, reverse-reverse, length-drop, length-reverse}
use Rattle.std.proofs.lemmas.Slice.{between_to_end}
use Rattle.ends_table.proofs.forks.arguments.Goals as goal

-- the first n, in reverse order, are the last n of the reverse order
last : (xs : List ℤ) (n : ℕ) → n ≤ length xs → drop (length (reverse xs) - n) (reverse xs) ≡ reverse (take n xs)
last xs n h =
    let back = reverse (drop n xs) in
    let whole : reverse xs ≡ back ++ reverse (take n xs) = ap reverse (sym (take-append-drop n xs)) ∙ reverse-append (take n xs) (drop n xs) in
    let size : length (reverse xs) - n ≡ length back = simp (length-reverse, length-drop) refl in
    rw (size, whole) (drop-append_seam back (reverse (take n xs)))

arguments : (vals ops : List ℤ) (n : ℕ) → reverse vals ≡ ops → n ≤ length vals → between (length vals - n) (length vals) vals ≡ reverse (take n ops)
arguments vals ops n same enough =
    let back : vals ≡ reverse ops = sym (reverse-reverse vals) ∙ ap reverse same in
    let size : length ops ≡ length vals = ap length (sym same) ∙ length-reverse vals in
    between_to_end vals (length vals - n) (length vals) (omega arith)
    ∙ ap (λ (l : List ℤ). drop (length l - n) l) back
    ∙ last ops n (omega (arith, size, enough))

pub returns : goal.returns
returns c =
    let enough : c.args-count.result ≤ length c.as_slice-operands.result.now = c.if-operands-count.false in
    c.in_ok-listed.ensures
    ∙ arguments c.as_slice-operands.result.now c.args.own.now.frame.operands c.args-count.result c.as_slice-operands.ensures enough
    ∙ ap (λ (n : ℕ). reverse (take n c.args.own.now.frame.operands)) c.args-count.ensures.value
