-- Reading a key in one environment after another.
use Rattle.std.proofs.Common.{◌≡◌, ℕ, List, [], ◌∷◌, ◌++◌, Bool, true, false, Some, eqb, refl, is_some}
use Rattle.sts_model.specs.declared.record.Bound.{Bound}
use Rattle.sts_model.specs.Environment.{read}

pub read_own : (xs ys : List Bound) (k : ℕ) → is_some (read xs k) ≡ true → read (xs ++ ys) k ≡ read xs k
read_own [] ys k e = cc
read_own (x ∷ xs) ys k e = by_test (eqb x.key k) refl e (read_own xs ys k)
  where
    by_test : (b : Bool) → eqb x.key k ≡ b → is_some (read (x ∷ xs) k) ≡ true → (is_some (read xs k) ≡ true → read (xs ++ ys) k ≡ read xs k) → read ((x ∷ xs) ++ ys) k ≡ read (x ∷ xs) k
    by_test true h e ih = rw h refl
    by_test false h e ih = rw h (ih (rw h at e))

pub read_kept : (xs ys : List Bound) (k : ℕ) → is_some (read xs k) ≡ false → read (xs ++ ys) k ≡ read ys k
read_kept [] ys k e = refl
read_kept (x ∷ xs) ys k e = by_test (eqb x.key k) refl e (read_kept xs ys k)
  where
    by_test : (b : Bool) → eqb x.key k ≡ b → is_some (read (x ∷ xs) k) ≡ false → (is_some (read xs k) ≡ false → read (xs ++ ys) k ≡ read ys k) → read ((x ∷ xs) ++ ys) k ≡ read ys k
    by_test true h e ih = let f : is_some (Some x.value) ≡ false = rw h at e in cc
    by_test false h e ih = rw h (ih (rw h at e))

pub ruleset reads = (read_own, read_kept)
