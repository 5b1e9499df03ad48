-- Lemmas on the bytes that are taken from a reader.
use Rattle.std.proofs.Common.{◌≡◌, ℕ, ◌+◌, ◌≤◌, List, ◌++◌, None, Some, Option, IfSome, Result, Ok, Err, OnErr, length-append, length-take, length, take}
use Rattle.std.proofs.Common.{take_all, sym, ap, ◌∙◌, append-nil, arith, subst}
use Rattle.std.proofs.Math.Seq.{take-append_seam}
use Rattle.std.specs.Io.KnownBytes.{Consumes, IsAtEnd}
use Rattle.sts_output.specs.Taking.{Gives, IsTakenOf, LosesUpTo}
use Rattle.std.proofs.KnownBytes.{Consumes-trans}

-- a reader at its end gave all its bytes, at most `most`
pub whole : (most : ℕ) (a b : Option (List ℕ)) (bs : List ℕ) → Consumes a b bs → IsAtEnd b → length bs ≤ most → IfSome a (λ xs. bs ≡ take most xs)
whole most None b bs read end short = tt
whole most (Some xs) None bs read end short = absurd read
whole most (Some xs) (Some ys) bs read end short =
    let e : xs ≡ bs = read ∙ ap (λ l. bs ++ l) end ∙ append-nil bs in
    rw e (sym (take_all most bs short))

-- `most` bytes that the reader gave are its first
pub first : (most : ℕ) (a b : Option (List ℕ)) (bs : List ℕ) → Consumes a b bs → length bs ≡ most → IfSome a (λ xs. bs ≡ take most xs)
first most None b bs read long = tt
first most (Some xs) None bs read long = absurd read
first most (Some xs) (Some ys) bs read long = rw (read, ← long) (sym (take-append_seam bs ys))

-- what was taken, and a piece after it
pub Consumes-piece : (a b c : Option (List ℕ)) (taken piece more : List ℕ) → Consumes a b taken → more ≡ taken ++ piece → Consumes b c piece → Consumes a c more
Consumes-piece a b c taken piece more before e after = rw e (Consumes-trans a b c taken piece before after)

-- the bytes that were taken are lost, and so are those that a failed piece lost after them
pub LosesUpTo-piece : {E X : Type 0} (r : Result X E) (most room : ℕ) (a b c : Option (List ℕ)) (taken : List ℕ) → length taken + room ≤ most → Consumes a b taken → LosesUpTo room b c
    → OnErr r (LosesUpTo most a c)
LosesUpTo-piece (Ok x) most room a b c taken fits before after = tt
LosesUpTo-piece (Err e) most room a b c taken fits before (bs, short, read) = (taken ++ bs, omega (arith, length-append taken bs), Consumes-trans a b c taken bs before read)

-- a piece of at most `room` bytes fits if there is room for it
pub piece_fits : (taken more : List ℕ) (n room most : ℕ) (piece : List ℕ) → more ≡ taken ++ take n piece → n ≤ room → length taken + room ≤ most → length more ≤ most
piece_fits taken more n room most piece e short fits = rw e (omega (arith, length-append taken (take n piece), length-take n piece))

-- the bytes taken from a reader are those of its source
pub gives_taken : (known remaining : Option (List ℕ)) (most : ℕ) (taken : List ℕ) → Gives known remaining → IfSome remaining (λ xs. taken ≡ take most xs) → IsTakenOf known most taken
gives_taken None remaining most taken gives is = tt
gives_taken (Some xs) remaining most taken gives is = subst (λ o. IfSome o (λ ys. taken ≡ take most ys)) gives is
