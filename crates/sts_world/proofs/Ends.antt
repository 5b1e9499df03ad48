-- Each change of the tasks and scopes keeps the list of told ends right.
use Rattle.std.proofs.Common.{◌≡◌, ℕ, zero, suc, ◌<◌, List, [], ◌∷◌, ◌++◌, length, Bool, true, false, cond, ◌&&◌, Option, Some, None, is_none, eqb, refl, ap}
use Rattle.std.proofs.Common.{sym, ◌∙◌, arith, get_or, set}
use Rattle.std.specs.Prelude.{◌==◌, option_map}
use Rattle.std.specs.Option.{option_or}
use Rattle.std.proofs.lemmas.Bool.{eqb-true, eqb-false, eq-eqb, ne_eqb}
use Rattle.std.proofs.lemmas.List.{get_or-set_same, get_or-set_other, length-append, length-set, length-map}
use Rattle.std.proofs.Math.Bool.{and-false}
use Rattle.sts_code.proofs.OptionLemmas.{or_none}
use Rattle.sts_code.specs.Program.{Program}
use Rattle.sts_code.specs.declared.instr.Joiner.{Joiner}
use Rattle.sts_model.specs.declared.event.End.{End}
use Rattle.sts_model.specs.declared.record.Completion.{Completion}
use Rattle.sts_model.specs.declared.record.Frame.{Frame}
use Rattle.sts_model.specs.declared.record.Scope.{Scope}
use Rattle.sts_model.specs.declared.record.Task.{Task}
use Rattle.sts_model.specs.World.{World, task_at, scope_at, with_task, with_scope, no_task, no_scope}
use Rattle.sts_model.specs.Living.{lives, completion_of, is_living_subtask}
use Rattle.sts_model.specs.Cancelling.{cancel, marked, raised}
use Rattle.sts_model.specs.Effect.{open_scope, fork_task, ended, subtask_of, told}
use Rattle.sts_world.specs.Ends.{KnowsEnds, end_in}

-- ---- lists

-- an item is replaced by another with the same reading
alike_set : {X Y : Type 0} (f : X → Y) (xs : List X) (t u : ℕ) (x d : X) → f x ≡ f (get_or xs t d) → f (get_or (set xs t x) u d) ≡ f (get_or xs u d)
alike_set f [] t u x d e = refl
alike_set f (y ∷ ys) zero zero x d e = e
alike_set f (y ∷ ys) zero (suc u) x d e = refl
alike_set f (y ∷ ys) (suc t) zero x d e = refl
alike_set f (y ∷ ys) (suc t) (suc u) x d e = alike_set f ys t u x d e

-- an item is added that has the reading of the default
alike_push : {X Y : Type 0} (f : X → Y) (xs : List X) (u : ℕ) (x d : X) → f x ≡ f d → f (get_or (xs ++ x ∷ []) u d) ≡ f (get_or xs u d)
alike_push f [] zero x d e = e
alike_push f [] (suc u) x d e = refl
alike_push f (y ∷ ys) zero x d e = refl
alike_push f (y ∷ ys) (suc u) x d e = alike_push f ys u x d e

-- ---- changes that tell nobody

-- v has the ends and the completions of w
record SameEnds (w v : World) : Type 0 where
  tasks : (s t : ℕ) (b : Bool) → end_in s (task_at v t) b ≡ end_in s (task_at w t) b
  scopes : (s : ℕ) → (scope_at v s).completions ≡ (scope_at w s).completions

ends_same : (w v : World) (bs cs : List Bool) → length cs ≡ length v.tasks → ((t : ℕ) → get_or cs t false ≡ get_or bs t false) → SameEnds w v → KnowsEnds w bs → KnowsEnds v cs
ends_same w v bs cs as_many alike same k =
    record {
      as_many = as_many;
      ends = λ s t. ap (λ (xs : List Completion). completion_of xs t) (same.scopes s) ∙ k.ends s t ∙ ap (end_in s (task_at w t)) (sym (alike t)) ∙ sym (same.tasks s t (get_or cs t false));
    }

pub ends_task : (w v : World) (bs : List Bool) (t : ℕ) (x : Task) → v ≡ with_task w t x → x.scope ≡ (task_at w t).scope → x.outcome ≡ (task_at w t).outcome → KnowsEnds w bs → KnowsEnds v bs
ends_task w v bs t x e scope outcome k =
    let same : SameEnds w (with_task w t x) = record { tasks = λ s u b. alike_set (λ (y : Task). end_in s y b) w.tasks t u x no_task (rw (scope, outcome) refl); scopes = λ s. refl } in
    rw e (ends_same w (with_task w t x) bs bs (k.as_many ∙ sym (length-set w.tasks t x)) (λ u. refl) same k)

pub ends_scope : (w v : World) (bs : List Bool) (s : ℕ) (x : Scope) → v ≡ with_scope w s x → x.completions ≡ (scope_at w s).completions → KnowsEnds w bs → KnowsEnds v bs
ends_scope w v bs s x e same k =
    rw e (ends_same w (with_scope w s x) bs bs k.as_many (λ u. refl) (record { tasks = λ r u b. refl; scopes = λ r. alike_set (λ (y : Scope). y.completions) w.scopes s r x no_scope same }) k)

flag_alike : (x : Task) (s : ℕ) (b c : Bool) → end_in s (cond c (record x { flag = true }) x) b ≡ end_in s x b
flag_alike x s b true = refl
flag_alike x s b false = refl

raised_alike : (r : ℕ) (xs : List Task) (s u : ℕ) (b : Bool) → end_in s (get_or (raised r xs) u no_task) b ≡ end_in s (get_or xs u no_task) b
raised_alike r [] s u b = refl
raised_alike r (x ∷ xs) s zero b = flag_alike x s b (is_living_subtask r x)
raised_alike r (x ∷ xs) s (suc u) b = raised_alike r xs s u b

ends_marked : (w : World) (bs : List Bool) (s : ℕ) → KnowsEnds w bs → KnowsEnds (marked w s) bs
ends_marked w bs s k =
    let same : SameEnds w (marked w s) = record { tasks = raised_alike s w.tasks; scopes = λ r. alike_set (λ (y : Scope). y.completions) w.scopes s r (record (scope_at w s) { cancelled = true }) no_scope refl } in
    ends_same w (marked w s) bs bs (simp length-map k.as_many) (λ u. refl) same k

pub ends_cancel : (w v : World) (bs : List Bool) (s : ℕ) → v ≡ cancel w s → KnowsEnds w bs → KnowsEnds v bs
ends_cancel w v bs s e k = rw e (by_test (scope_at w s).cancelled refl)
  where
    by_test : (b : Bool) → (scope_at w s).cancelled ≡ b → KnowsEnds (cancel w s) bs
    by_test true h = rw h k
    by_test false h = rw h (ends_marked w bs s k)

-- ---- births

pub ends_open : (w v : World) (bs : List Bool) (t : ℕ) (f : Frame) (x : ℕ) (joiner : Joiner) (timed : Bool) → v ≡ open_scope w t f x joiner timed → KnowsEnds w bs → KnowsEnds v bs
unfolding open_scope
ends_open w v bs t f x joiner timed e k =
    let same : SameEnds w (open_scope w t f x joiner timed) = record { tasks = λ s u b. alike_set (λ (y : Task). end_in s y b) w.tasks t u _ no_task refl; scopes = λ s. alike_push (λ (y : Scope). y.completions) w.scopes s _ no_scope refl } in
    rw e (ends_same w (open_scope w t f x joiner timed) bs bs (simp length-set k.as_many) (λ u. refl) same k)

none_either : (b : Bool) → cond {A = Option End} b None None ≡ None
none_either true = refl
none_either false = refl

pub ends_fork : (p : Program) (w v : World) (bs : List Bool) (t : ℕ) (f : Frame) (s g : ℕ) (h : Option ℕ) → v ≡ fork_task p w t f s g h → KnowsEnds w bs → KnowsEnds v (bs ++ false ∷ [])
unfolding fork_task
ends_fork p w v bs t f s g h e k =
    let child : Task = subtask_of p w f s g in
    let born : List Task = w.tasks ++ child ∷ [] in
    let same : SameEnds w (fork_task p w t f s g h) = record { tasks = λ r u b. alike_set (λ (y : Task). end_in r y b) born t u _ no_task refl ∙ alike_push (λ (y : Task). end_in r y b) w.tasks u child no_task (none_either _); scopes = λ r. refl } in
    rw e (ends_same w (fork_task p w t f s g h) bs (bs ++ false ∷ []) (simp (length-append, length-set) (omega (arith, k.as_many))) (λ u. alike_push (λ (b : Bool). b) bs u false false refl) same k)

-- ---- the end of a task

no_end : (b : Bool) (o : Option End) → b && is_none o ≡ true → o ≡ None
no_end true None e = refl
no_end true (Some end) e = cc
no_end false o e = cc

-- no joiner was told of a task that lives
untold : (w : World) (bs : List Bool) (s t : ℕ) → lives (task_at w t) ≡ true → KnowsEnds w bs → completion_of (scope_at w s).completions t ≡ None
untold w bs s t alive k = k.ends s t ∙ rw (no_end (task_at w t).started (task_at w t).outcome alive) (none_either _)

-- no joiner is told
pub ends_end : (w v : World) (bs : List Bool) (t : ℕ) (f : Frame) (end : End) → v ≡ ended w t f end → t < length w.tasks → lives (task_at w t) ≡ true → KnowsEnds w bs → KnowsEnds v (set bs t false)
ends_end w v bs t f end e born alive k =
    rw e (record { as_many = simp length-set k.as_many; ends = λ s u. by_test s u (eqb u t) refl })
  where
    by_test : (s u : ℕ) (b : Bool) → eqb u t ≡ b → completion_of (scope_at w s).completions u ≡ end_in s (task_at (ended w t f end) u) (get_or (set bs t false) u false)
    by_test s u true h =
        let same : u ≡ t = eqb-true u t h in
        rw (same, get_or-set_same bs t false false (omega (arith, k.as_many)), and-false) (untold w bs s t alive k)
    by_test s u false h =
        rw (get_or-set_other w.tasks t u _ no_task (eqb-false u t h), get_or-set_other bs t u false false (eqb-false u t h)) (k.ends s u)

-- one more completion
completion_more : (cs : List Completion) (c : Completion) (u : ℕ) → completion_of (cs ++ c ∷ []) u ≡ option_or (completion_of cs u) (cond (c.task == u) (Some c.end) None)
completion_more [] c u = by_test (c.task == u)
  where
    by_test : (b : Bool) → option_map (λ (x : Completion). x.end) (cond b (Some c) None) ≡ cond b (Some c.end) None
    by_test true = refl
    by_test false = refl
completion_more (x ∷ cs) c u = by_test (x.task == u) refl (completion_more cs c u)
  where
    by_test : (b : Bool) → (x.task == u) ≡ b → completion_of (cs ++ c ∷ []) u ≡ option_or (completion_of cs u) (cond (c.task == u) (Some c.end) None) → completion_of ((x ∷ cs) ++ c ∷ []) u ≡ option_or (completion_of (x ∷ cs) u) (cond (c.task == u) (Some c.end) None)
    by_test true h next = rw h refl
    by_test false h next = rw h next

completion_new : (cs : List Completion) (t : ℕ) (end : End) → completion_of cs t ≡ None → completion_of (cs ++ record { task = t; end = end } ∷ []) t ≡ Some end
completion_new cs t end e = completion_more cs (record { task = t; end = end }) t ∙ rw (e, eq-eqb t t refl) refl

completion_other : (cs : List Completion) (t u : ℕ) (end : End) → eqb t u ≡ false → completion_of (cs ++ record { task = t; end = end } ∷ []) u ≡ completion_of cs u
completion_other cs t u end e = completion_more cs (record { task = t; end = end }) u ∙ rw e (or_none (completion_of cs u))

-- the joiner of its scope is told
pub ends_told : (w v : World) (bs : List Bool) (t s : ℕ) (f : Frame) (end : End) → v ≡ ended (with_scope w s (told (scope_at w s) t end)) t f end → t < length w.tasks → s < length w.scopes → lives (task_at w t) ≡ true → (task_at w t).scope ≡ Some s → KnowsEnds w bs → KnowsEnds v (set bs t true)
ends_told w v bs t s f end e born bound alive inside k =
    rw e (record { as_many = simp length-set k.as_many; ends = λ r u. by_scope r u (eqb r s) refl })
  where
    u : World
    u = ended (with_scope w s (told (scope_at w s) t end)) t f end

    here : (i : ℕ) (b : Bool) → eqb i t ≡ b → completion_of (told (scope_at w s) t end).completions i ≡ end_in s (task_at u i) (get_or (set bs t true) i false)
    here i true h =
        let same : i ≡ t = eqb-true i t h in
        rw (same, get_or-set_same w.tasks t _ no_task born, get_or-set_same bs t true false (omega (arith, k.as_many)), inside, eq-eqb s s refl) (completion_new (scope_at w s).completions t end (untold w bs s t alive k))
    here i false h =
        rw (get_or-set_other w.tasks t i _ no_task (eqb-false i t h), get_or-set_other bs t i true false (eqb-false i t h))
        (completion_other (scope_at w s).completions t i end (ne_eqb t i (λ x. eqb-false i t h (sym x))) ∙ k.ends s i)

    there : (r i : ℕ) → eqb r s ≡ false → (b : Bool) → eqb i t ≡ b → completion_of (scope_at w r).completions i ≡ end_in r (task_at u i) (get_or (set bs t true) i false)
    there r i g true h =
        let same : i ≡ t = eqb-true i t h in
        rw (same, get_or-set_same w.tasks t _ no_task born, inside, ne_eqb s r (λ x. eqb-false r s g (sym x))) (untold w bs r t alive k)
    there r i g false h =
        rw (get_or-set_other w.tasks t i _ no_task (eqb-false i t h), get_or-set_other bs t i true false (eqb-false i t h)) (k.ends r i)

    by_scope : (r i : ℕ) (b : Bool) → eqb r s ≡ b → completion_of (scope_at u r).completions i ≡ end_in r (task_at u i) (get_or (set bs t true) i false)
    by_scope r i true g =
        let same : r ≡ s = eqb-true r s g in
        rw (same, get_or-set_same w.scopes s _ no_scope bound) (here i (eqb i t) refl)
    by_scope r i false g = rw (get_or-set_other w.scopes s r _ no_scope (eqb-false r s g)) (there r i g (eqb i t) refl)
