-- Raising the flags of the subtasks one by one raises those of all living subtasks.
use Rattle.std.proofs.Common.{◌≡◌, ℕ, ◌+◌, List, [], ◌∷◌, ◌++◌, length, map, Bool, true, false, refl, ap, ◌∙◌, arith, append_assoc, get_or, set}
use Rattle.std.proofs.lemmas.List.{length-append}
use Rattle.sts_model.specs.declared.record.Task.{Task}
use Rattle.sts_model.specs.World.{no_task}
use Rattle.sts_model.specs.Living.{is_subtask}
use Rattle.sts_model.specs.Cancelling.{raise, raised}
use Rattle.sts_world.specs.Lines.{line}
use Rattle.sts_world.specs.Kept.{births_from, births}
use Rattle.sts_world.specs.Raising.{raise_at, raise_each}

read_at : (done : List Task) (x : Task) (xs : List Task) → get_or (done ++ x ∷ xs) (length done) no_task ≡ x
read_at [] x xs = refl
read_at (y ∷ ys) x xs = read_at ys x xs

write_at : (done : List Task) (x y : Task) (xs : List Task) → set (done ++ x ∷ xs) (length done) y ≡ done ++ y ∷ xs
write_at [] x y xs = refl
write_at (z ∷ zs) x y xs = ap (λ (ts : List Task). z ∷ ts) (write_at zs x y xs)

raise_rest : (s n : ℕ) (done xs : List Task) → n ≡ length done → raise_each s (done ++ xs) (births_from s n (map line xs)) ≡ done ++ raised s xs
raise_rest s n done [] e = refl
raise_rest s n done (x ∷ xs) e = by_test (is_subtask s x) refl (λ y. raise_rest s (n + 1) (done ++ y ∷ []) xs (rw e (simp length-append (omega arith))))
  where
    by_test : (b : Bool) → is_subtask s x ≡ b → ((y : Task) → raise_each s ((done ++ y ∷ []) ++ xs) (births_from s (n + 1) (map line xs)) ≡ (done ++ y ∷ []) ++ raised s xs) → raise_each s (done ++ x ∷ xs) (births_from s n (map line (x ∷ xs))) ≡ done ++ raised s (x ∷ xs)
    by_test true h next =
        let at : raise_at s (done ++ x ∷ xs) n ≡ (done ++ raise s x ∷ []) ++ xs = rw (e, read_at done x xs, write_at done x (raise s x) xs) (simp append_assoc) in
        let first : births_from s n (map line (x ∷ xs)) ≡ n ∷ births_from s (n + 1) (map line xs) = rw h refl in
        ap (raise_each s (done ++ x ∷ xs)) first
        ∙ ap (λ (ts : List Task). raise_each s ts (births_from s (n + 1) (map line xs))) at
        ∙ next (raise s x)
        ∙ append_assoc done (raise s x ∷ []) (raised s xs)
    by_test false h next = rw h (simp append_assoc at (next x))

pub raises_all : (s : ℕ) (xs : List Task) → raise_each s xs (births s (map line xs)) ≡ raised s xs
raises_all s xs = raise_rest s 0 [] xs refl
