-- The words of a scope's subtasks are those of all tasks: a task in no scope, or in another one, has
-- none.
use Rattle.std.proofs.Common.{◌≡◌, ℕ, suc, ◌+◌, List, [], ◌∷◌, ◌++◌, Bool, true, false, cond, refl, arith, ap, sym, ◌∙◌, get_or, map}
use Rattle.std.specs.List.{flat_map}
use Rattle.sts_model.specs.declared.record.Task.{Task}
use Rattle.sts_model.specs.Living.{is_in}
use Rattle.sts_model.specs.World.{World, no_task, task_at}
use Rattle.sts_world.specs.Kept.{births_from}
use Rattle.sts_world.specs.Lines.{line}
use Rattle.look_run.specs.Lines.{subtask_word, subtask_words}

-- a task that isn't in the scope has no word
other : (w : World) (s t : ℕ) → is_in s (task_at w t).scope ≡ false → subtask_word w s t ≡ []
other w s t out = rw out refl

-- one task more, by whether it is in the scope
one_more : (w : World) (s t : ℕ) (b : Bool) (rest : List ℕ) → is_in s (task_at w t).scope ≡ b → flat_map (subtask_word w s) (cond b (t ∷ rest) rest) ≡ subtask_word w s t ++ flat_map (subtask_word w s) rest
one_more w s t true rest here = refl
one_more w s t false rest here = ap (λ (word : List ℕ). word ++ flat_map (subtask_word w s) rest) (sym (other w s t here))

words_from : (w : World) (s : ℕ) (xs : List Task) (t : ℕ) → ((i : ℕ) → get_or xs i no_task ≡ task_at w (t + i)) → flat_map (subtask_word w s) (births_from s t (map line xs)) ≡ subtask_words w s xs t
words_from w s [] t same = refl
words_from w s (x ∷ xs) t same =
    let here : t + 0 ≡ t = omega arith in
    let task : x ≡ task_at w t = same 0 ∙ ap (task_at w) here in
    let scope : is_in s (task_at w t).scope ≡ is_in s x.scope = ap (λ (y : Task). is_in s y.scope) (sym task) in
    one_more w s t (is_in s x.scope) (births_from s (t + 1) (map line xs)) scope
    ∙ ap (λ (words : List ℕ). subtask_word w s t ++ words) (words_from w s xs (t + 1) (λ i. same (suc i) ∙ ap (task_at w) (later t i)))
  where
    later : (t i : ℕ) → t + suc i ≡ t + 1 + i
    later t i = omega arith

-- the words of all subtasks
pub births_words : (w : World) (s : ℕ) → flat_map (subtask_word w s) (births_from s 0 (map line w.tasks)) ≡ subtask_words w s w.tasks 0
births_words w s = words_from w s w.tasks 0 (λ i. ap (task_at w) (from_none i))
  where
    from_none : (i : ℕ) → i ≡ 0 + i
    from_none i = omega arith
