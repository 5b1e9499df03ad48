-- The counters after each change of the tasks and scopes.
use Rattle.std.proofs.Common.{◌≡◌, pos, subst, count_by, take, ℕ, zero, suc, ◌+◌, ◌-◌, ◌<◌, ◌≤◌, nat_lt, List, [], ◌∷◌, ◌++◌, length, map, Bool, true, false}
use Rattle.std.proofs.Common.{cond, not, Option, Some, None, inl, inr, ◌⊎◌, refl, ap, sym, ◌∙◌, arith, get_or, set}
use Rattle.std.proofs.Math.Seq.{map-set_same, take-append_seam}
use Rattle.std.proofs.lemmas.List.{map-set, map-append, get_or-map, get_or_past, get_or-set_same, length-map, length-append}
use Rattle.std.proofs.lemmas.Bool.{cases_lt}
use Rattle.std.proofs.Math.Bool.{and-false, and-true}
use Rattle.sts_code.specs.Program.{Program}
use Rattle.sts_code.specs.declared.limits.TheConstants.{MAX_STANDING}
use Rattle.sts_code.specs.declared.instr.Joiner.{Joiner}
use Rattle.sts_model.specs.declared.event.End.{End}
use Rattle.sts_model.specs.declared.event.Phase.{Phase}
use Rattle.sts_model.specs.declared.record.Frame.{Frame}
use Rattle.sts_model.specs.declared.event.End.TheVariants.{Success}
use Rattle.sts_model.specs.declared.record.Completion.{Completion}
use Rattle.sts_model.specs.declared.record.Task.{Task}
use Rattle.sts_model.specs.declared.record.Scope.{Scope}
use Rattle.sts_model.specs.World.{World, task_at, scope_at, with_task, with_scope, no_task, no_scope}
use Rattle.sts_model.specs.Joining.{is_success, is_failure}
use Rattle.sts_model.specs.Local.{steps}
use Rattle.sts_model.specs.Living.{is_closed, lives, subtask_count, any_lives, ends}
use Rattle.sts_model.specs.Cancelling.{cancel, marked}
use Rattle.sts_model.specs.Effect.{with_phase, open_scope, fork_task, ended, subtask_of, told}
use Rattle.sts_model.specs.Standing as standing
use Rattle.sts_joiners.specs.Tallied.{Tallied, tallied, with_end, ends_told}
use Rattle.sts_joiners.proofs.TellLemmas.{is_enough}
use Rattle.sts_world.specs.Lines.{Line, Lines, line, is_shut, tally_of, lines}
use Rattle.sts_world.specs.Kept.{IsKept, Family, births, count_in, lives_in, no_family, no_tally, with_child, with_death}
use Rattle.sts_world.proofs.Counting.{births-le-length}
use Rattle.sts_world.proofs.Finds.{finds_subtasks, finds_living, finds_tasks, finds_scopes}
use Rattle.sts_world.proofs.Keeping.{kept_same, kept_shut, kept_fork, kept_open, kept_end, kept_end_in, kept_told, room_to_tell, lives_at, less_tasks}
use Rattle.sts_world.proofs.Keeping.{less_scopes}
use Rattle.sts_world.proofs.Same.{same_task, same_scope, same_raised}

pub kept_task : (w v : World) (fs : List Family) (ts : List Tallied) (n m t : ℕ) (x : Task) → v ≡ with_task w t x → line x ≡ line (task_at w t) → IsKept (lines w) fs ts n m → IsKept (lines v) fs ts n m
kept_task w v fs ts n m t x e same k = kept_same (lines v) (lines w) fs ts n m (ap lines e ∙ same_task w t x same) k

pub kept_scope : (w v : World) (fs : List Family) (ts : List Tallied) (n m s : ℕ) (x : Scope) → v ≡ with_scope w s x → is_shut x ≡ is_shut (scope_at w s) → tally_of x ≡ tally_of (scope_at w s) → IsKept (lines w) fs ts n m → IsKept (lines v) fs ts n m
kept_scope w v fs ts n m s x e same tally k = kept_same (lines v) (lines w) fs ts n m (ap lines e ∙ same_scope w s x same tally) k

same_marked : (w : World) (s : ℕ) → lines (marked w s) ≡ lines w
same_marked w s = rw (same_raised s w.tasks) (same_scope w s (record (scope_at w s) { cancelled = true }) refl refl)

same_cancel : (w : World) (s : ℕ) (b : Bool) → (scope_at w s).cancelled ≡ b → lines (cancel w s) ≡ lines w
same_cancel w s true e = rw e refl
same_cancel w s false e = rw e (same_marked w s)

pub kept_cancel : (w v : World) (fs : List Family) (ts : List Tallied) (n m s : ℕ) → v ≡ cancel w s → IsKept (lines w) fs ts n m → IsKept (lines v) fs ts n m
kept_cancel w v fs ts n m s e k = kept_same (lines v) (lines w) fs ts n m (ap lines e ∙ same_cancel w s (scope_at w s).cancelled refl) k

read_shut : (w : World) (s : ℕ) → s < length w.scopes → is_shut (scope_at w s) ≡ get_or (map is_shut w.scopes) s true
read_shut w s h = sym (get_or-map is_shut w.scopes s no_scope true h)

after_phase : (w v : World) (s : ℕ) (phase : Phase) → v ≡ with_phase w s phase → lines v ≡ record (lines w) { closed = set (lines w).closed s (is_closed phase) }
after_phase w v s phase e =
    ap lines e ∙ rw (map-set is_shut w.scopes s (record (scope_at w s) { phase = phase }), map-set_same tally_of w.scopes s (record (scope_at w s) { phase = phase }) no_scope refl) refl

pub kept_phase : (w v : World) (fs : List Family) (ts : List Tallied) (n m tasks scopes s : ℕ) (phase : Phase) → v ≡ with_phase w s phase → s < length w.scopes → tasks ≡ standing.standing_tasks w → scopes ≡ standing.standing_scopes w → IsKept (lines w) fs ts n m → IsKept (lines v) fs ts (tasks + cond (is_closed phase) 0 (subtask_count w s) - cond (is_closed (scope_at w s).phase) 0 (subtask_count w s)) (scopes + cond (is_closed phase) 0 1 - cond (is_closed (scope_at w s).phase) 0 1)
kept_phase w v fs ts n m tasks scopes s phase e h et es k =
    let same_tasks : tasks ≡ n = et ∙ finds_tasks w ∙ sym k.tasks in
    let same_scopes : scopes ≡ m = es ∙ finds_scopes w ∙ sym k.scopes in
    rw (after_phase w v s phase e, same_tasks, same_scopes, finds_subtasks s 0 w.tasks, read_shut w s h) (kept_shut (lines w) fs ts n m s (is_closed phase) k (rw length-map h))

-- what a closing takes away was there
pub enough : (w : World) (fs : List Family) (ts : List Tallied) (n m tasks scopes s : ℕ) (b : Bool) → s < length w.scopes → tasks ≡ standing.standing_tasks w → scopes ≡ standing.standing_scopes w → IsKept (lines w) fs ts n m → (cond (is_closed (scope_at w s).phase) 0 (subtask_count w s) ≤ tasks + cond b 0 (subtask_count w s)) × (cond (is_closed (scope_at w s).phase) 0 1 ≤ scopes + cond b 0 1)
enough w fs ts n m tasks scopes s b h et es k =
    let same_tasks : tasks ≡ n = et ∙ finds_tasks w ∙ sym k.tasks in
    let same_scopes : scopes ≡ m = es ∙ finds_scopes w ∙ sym k.scopes in
    let bound : s < length (map is_shut w.scopes) = rw length-map h in
    rw (same_tasks, same_scopes, finds_subtasks s 0 w.tasks, read_shut w s h) (omega (arith, less_tasks (lines w) fs ts n m s b k bound), omega (arith, less_scopes (lines w) fs ts n m s b k bound))

-- a scope that is not closed was born
pub born_open : (w : World) (s : ℕ) → is_shut (scope_at w s) ≡ false → s < length w.scopes
born_open w s e = by_bound (cases_lt s (length w.scopes))
  where
    by_bound : (s < length w.scopes) ⊎ (length w.scopes ≤ s) → s < length w.scopes
    by_bound (inl h) = h
    by_bound (inr h) = let shut : true ≡ false = ap is_shut (sym (get_or_past w.scopes s no_scope h)) ∙ e in cc

pub kept_child : (p : Program) (w v : World) (fs : List Family) (ts : List Tallied) (n m t : ℕ) (f : Frame) (s g : ℕ) (h : Option ℕ) → v ≡ fork_task p w t f s g h → s < length w.scopes → is_shut (scope_at w s) ≡ false → n < MAX_STANDING → IsKept (lines w) fs ts n m → IsKept (lines v) (set fs s (with_child (get_or fs s no_family) (length w.tasks) (not (scope_at w s).cancelled))) ts (n + 1) m
unfolding fork_task
kept_child p w v fs ts n m t f s g h e bound open_now room k =
    let born : World = record w { tasks = w.tasks ++ subtask_of p w f s g ∷ [] } in
    let alive : lives (subtask_of p w f s g) ≡ not (scope_at w s).cancelled = and-true (not (scope_at w s).cancelled) in
    let one_more : lines born ≡ record (lines w) { tasks = map line w.tasks ++ record { scope = Some s; lives = not (scope_at w s).cancelled } ∷ [] } = rw (map-append, alive) refl in
    let after : lines v ≡ record (lines w) { tasks = map line w.tasks ++ record { scope = Some s; lives = not (scope_at w s).cancelled } ∷ [] } = ap lines e ∙ same_task born t _ refl ∙ one_more in
    let as_many : length (map line w.tasks) ≡ length w.tasks = length-map w.tasks line in
    rw (after, ← as_many) (kept_fork (lines w) fs ts n m s (not (scope_at w s).cancelled) k (rw length-map bound) (sym (read_shut w s bound) ∙ open_now) room)

pub kept_scope_born : (w v : World) (fs : List Family) (ts : List Tallied) (n m t : ℕ) (f : Frame) (x : ℕ) (joiner : Joiner) (timed : Bool) → v ≡ open_scope w t f x joiner timed → IsKept (lines w) fs ts n m → IsKept (lines v) (fs ++ no_family ∷ []) (ts ++ tallied joiner [] ∷ []) n (m + 1)
unfolding open_scope
kept_scope_born w v fs ts n m t f x joiner timed e k =
    let after : lines v ≡ record (lines w) { closed = map is_shut w.scopes ++ false ∷ []; tallies = map tally_of w.scopes ++ tallied joiner [] ∷ [] } = ap lines e ∙ same_task _ t _ refl ∙ rw (map-append is_shut, map-append tally_of) refl in
    rw after (kept_open (lines w) fs ts n m joiner k)

-- the line of a living task, and after it has ended
alive : (w : World) (t : ℕ) → t < length w.tasks → lives (task_at w t) ≡ true → get_or (map line w.tasks) t (line no_task) ≡ record { scope = (task_at w t).scope; lives = true }
alive w t h e = get_or-map line w.tasks t no_task (line no_task) h ∙ rw e refl

after_end : (w v : World) (t : ℕ) (f : Frame) (end : End) → v ≡ ended w t f end → lines v ≡ record (lines w) { tasks = set (map line w.tasks) t (record { scope = (task_at w t).scope; lives = false }) }
after_end w v t f end e = ap lines e ∙ rw (map-set, and-false) refl

-- a task's own end is that end in the world
pub ended_at : (w : World) (t : ℕ) (task x : Task) (end : End) → x ≡ record task { frame = steps task.frame 1 []; outcome = Some end } → task ≡ task_at w t → with_task w t x ≡ ended w t (task_at w t).frame end
ended_at w t task x end e was = ap (with_task w t) (e ∙ ap (λ (y : Task). record y { frame = steps y.frame 1 []; outcome = Some end }) was)

pub kept_root_end : (w v : World) (fs : List Family) (ts : List Tallied) (n m t : ℕ) (f : Frame) (end : End) → v ≡ ended w t f end → t < length w.tasks → lives (task_at w t) ≡ true → (task_at w t).scope ≡ None → IsKept (lines w) fs ts n m → IsKept (lines v) fs ts n m
kept_root_end w v fs ts n m t f end e h living root k =
    rw (after_end w v t f end e, root) (kept_end (lines w) fs ts n m t (line no_task) k (rw length-map h) (alive w t h living ∙ rw root refl))

-- a living subtask is one of its scope's family
pub task_family : (w : World) (fs : List Family) (ts : List Tallied) (n m t s : ℕ) → t < length w.tasks → lives (task_at w t) ≡ true → (task_at w t).scope ≡ Some s → IsKept (lines w) fs ts n m → (s < length fs) × (0 < (get_or fs s no_family).living)
task_family w fs ts n m t s h living in_scope k =
    lives_at (lines w) fs ts n m t s (line no_task) k (rw length-map h) (alive w t h living ∙ rw in_scope refl)

-- a living subtask of the scope, which has a family
pub record IsSubtask (w : World) (fs : List Family) (t s : ℕ) : Type 0 where
  pub born : t < length w.tasks
  pub living : lives (task_at w t) ≡ true
  pub in_scope : (task_at w t).scope ≡ Some s
  pub bound : s < length fs
  pub more : 0 < (get_or fs s no_family).living

pub subtask_there : (w seen : World) (fs : List Family) (ts : List Tallied) (n m t s : ℕ) → w ≡ seen → t < length seen.tasks → lives (task_at seen t) ≡ true → (task_at seen t).scope ≡ Some s → IsKept (lines w) fs ts n m → IsSubtask w fs t s
subtask_there w seen fs ts n m t s same born living in_scope kept =
    let born_in : t < length w.tasks = rw same born in
    let living_in : lives (task_at w t) ≡ true = rw same living in
    let in_scope_in : (task_at w t).scope ≡ Some s = rw same in_scope in
    let family = task_family w fs ts n m t s born_in living_in in_scope_in kept in
    record { born = born_in; living = living_in; in_scope = in_scope_in; bound = family.0; more = family.1 }

pub kept_task_end : (w v : World) (fs : List Family) (ts : List Tallied) (n m t s : ℕ) (f : Frame) (end : End) → v ≡ ended w t f end → t < length w.tasks → lives (task_at w t) ≡ true → (task_at w t).scope ≡ Some s → IsKept (lines w) fs ts n m → IsKept (lines v) (set fs s (with_death (get_or fs s no_family))) ts n m
kept_task_end w v fs ts n m t s f end e h living in_scope k =
    rw (after_end w v t f end e, in_scope)
    (kept_end_in (lines w) fs ts n m t s (line no_task) k (rw length-map h) (task_family w fs ts n m t s h living in_scope k).0 (alive w t h living ∙ rw in_scope refl))

-- the tally of a scope whose joiner is told of an end
tally_told : (scope : Scope) (t : ℕ) (end : End) → tally_of (told scope t end) ≡ with_end (tally_of scope) end
tally_told scope t end = rw (map-append, (is_enough scope.joiner (ends scope) end 0).more) refl

pub read_tally : (ss : List Scope) (s : ℕ) → get_or (map tally_of ss) s no_tally ≡ tally_of (get_or ss s no_scope)
read_tally [] s = refl
read_tally (x ∷ xs) zero = refl
read_tally (x ∷ xs) (suc s) = read_tally xs s

pub kept_complete : (w v : World) (fs : List Family) (ts : List Tallied) (n m t s : ℕ) (f : Frame) (end : End) → v ≡ ended (with_scope w s (told (scope_at w s) t end)) t f end → t < length w.tasks → lives (task_at w t) ≡ true → (task_at w t).scope ≡ Some s → IsKept (lines w) fs ts n m → IsKept (lines v) (set fs s (with_death (get_or fs s no_family))) (set ts s (with_end (get_or ts s no_tally) end)) n m
kept_complete w v fs ts n m t s f end e h living in_scope k =
    let u : World = ended w t f end in
    let dead : IsKept (lines u) (set fs s (with_death (get_or fs s no_family))) ts n m = kept_task_end w u fs ts n m t s f end refl h living in_scope k in
    let bound : s < length (map tally_of w.scopes) = omega (arith, (task_family w fs ts n m t s h living in_scope k).0, k.as_many, length-map w.scopes is_shut, length-map w.scopes tally_of) in
    let room = room_to_tell (lines w) fs ts n m t s (line no_task) k (rw length-map h) (alive w t h living ∙ rw in_scope refl) in
    let after : lines v ≡ record (lines u) { tallies = set (map tally_of w.scopes) s (with_end (get_or (map tally_of w.scopes) s no_tally) end) } = ap lines e ∙ rw (map-set_same is_shut w.scopes s (told (scope_at w s) t end) no_scope refl, map-set tally_of w.scopes s (told (scope_at w s) t end), tally_told (scope_at w s) t end, read_tally w.scopes s) refl in
    let ended_tasks : (lines u).tasks ≡ set (map line w.tasks) t (record { scope = Some s; lives = false }) = ap (λ (l : Lines). l.tasks) (after_end w u t f end refl) ∙ rw in_scope refl in
    let has_room : ends_told (get_or (map tally_of w.scopes) s no_tally) + count_by (lives_in s) (lines u).tasks + 1 ≤ count_in s (lines u).tasks = subst (λ (xs : List Line). ends_told (get_or (map tally_of w.scopes) s no_tally) + count_by (lives_in s) xs + 1 ≤ count_in s xs) (sym ended_tasks) room in
    rw after (kept_told (lines u) _ ts n m s end dead bound has_room)

-- the scope afterwards
pub after_complete : (w v : World) (t s : ℕ) (f : Frame) (end : End) → v ≡ ended (with_scope w s (told (scope_at w s) t end)) t f end → s < length w.scopes → tally_of (scope_at v s) ≡ with_end (tally_of (scope_at w s)) end
after_complete w v t s f end e h =
    ap (λ (x : World). tally_of (scope_at x s)) e ∙ ap tally_of (get_or-set_same w.scopes s (told (scope_at w s) t end) no_scope h) ∙ tally_told (scope_at w s) t end

-- ---- what is found in what is kept

pub found_births : (w : World) (fs : List Family) (ts : List Tallied) (n m s : ℕ) → IsKept (lines w) fs ts n m → (get_or fs s no_family).births ≡ births s (lines w).tasks
found_births w fs ts n m s k = ap (λ (f : Family). f.births) (k.families s)

pub found_count : (w : World) (fs : List Family) (ts : List Tallied) (n m s : ℕ) → IsKept (lines w) fs ts n m → length (get_or fs s no_family).births ≡ subtask_count w s
found_count w fs ts n m s k = ap length (found_births w fs ts n m s k) ∙ sym (finds_subtasks s 0 w.tasks)

pub found_bound : (w : World) (fs : List Family) (ts : List Tallied) (n m s : ℕ) → IsKept (lines w) fs ts n m → length (get_or fs s no_family).births ≤ length w.tasks
found_bound w fs ts n m s k = omega (arith, ap length (found_births w fs ts n m s k), births-le-length s (map line w.tasks), length-map w.tasks line)

pub found_living : (w : World) (fs : List Family) (ts : List Tallied) (n m s : ℕ) → IsKept (lines w) fs ts n m → nat_lt 0 (get_or fs s no_family).living ≡ any_lives w s
found_living w fs ts n m s k = ap (λ (f : Family). nat_lt 0 f.living) (k.families s) ∙ sym (finds_living s w.tasks)

pub found_tally : (w : World) (fs : List Family) (ts : List Tallied) (n m s : ℕ) → IsKept (lines w) fs ts n m → get_or ts s no_tally ≡ tally_of (scope_at w s)
found_tally w fs ts n m s k = ap (λ (xs : List Tallied). get_or xs s no_tally) k.tallies ∙ read_tally w.scopes s

-- each completion of a scope is a success or a failure
pub count_told : (scope : Scope) → count_by is_success (ends scope) + count_by is_failure (ends scope) ≡ length scope.completions
count_told scope = (is_enough scope.joiner (ends scope) (Success (pos 0)) 0).count ∙ length-map scope.completions (λ (c : Completion). c.end)

-- no joiner was told of too many ends
pub told_bound : (w : World) (fs : List Family) (ts : List Tallied) (n m s : ℕ) → IsKept (lines w) fs ts n m → ends_told (get_or ts s no_tally) < MAX_STANDING
told_bound w fs ts n m s k = omega (arith, ap (λ (xs : List Tallied). ends_told (get_or xs s no_tally)) k.tallies, k.told s, k.few s)

pub tallies_bound : (w : World) (fs : List Family) (ts : List Tallied) (n m s : ℕ) → IsKept (lines w) fs ts n m → s < length fs → (s < length ts) × (s < length w.scopes)
tallies_bound w fs ts n m s k h =
    let born : s < length w.scopes = omega (arith, k.as_many, length-map w.scopes is_shut) in
    (omega (arith, born, ap length k.tallies, length-map w.scopes tally_of), born)

-- ---- a subtask that is taken back

set_back : (fs : List Family) (s : ℕ) (x d : Family) → set (set fs s x) s (get_or fs s d) ≡ fs
set_back [] s x d = refl
set_back (f ∷ fs) zero x d = refl
set_back (f ∷ fs) (suc s) x d = ap (λ (gs : List Family). f ∷ gs) (set_back fs s x d)

all_but_last : (xs : List ℕ) (t : ℕ) → take (length (xs ++ t ∷ []) - 1) (xs ++ t ∷ []) ≡ xs
all_but_last xs t =
    let one : length (xs ++ t ∷ []) - 1 ≡ length xs = simp length-append (omega arith) in
    rw one (take-append_seam xs (t ∷ []))

less_again : (b : Bool) (n : ℕ) → n + cond b 1 0 - cond b 1 0 ≡ n
less_again true n = omega arith
less_again false n = omega arith

pub taken_back : (f : Family) (t : ℕ) (b : Bool) → record { births = take (length (with_child f t b).births - 1) (with_child f t b).births; living = (with_child f t b).living - cond b 1 0 } ≡ f
taken_back f t b = rw (all_but_last f.births t, less_again b f.living) refl

pub child_some : (f g : Family) (t : ℕ) (b : Bool) → g ≡ with_child f t b → 0 < length g.births
child_some f g t b e = omega (arith, ap (λ (x : Family). length x.births) e, length-append f.births (t ∷ []))

pub child_fits : (f g : Family) (t : ℕ) (b : Bool) → g ≡ with_child f t b → f.living ≤ length f.births → g.living - cond b 1 0 ≤ length g.births - 1
child_fits f g t b e few = omega (arith, ap (λ (x : Family). length x.births) e, ap (λ (x : Family). x.living) e, length-append f.births (t ∷ []))

pub kept_back : (l : Lines) (fs : List Family) (ts : List Tallied) (n m s : ℕ) (x g d : Family) → g ≡ get_or fs s d → IsKept l fs ts n m → IsKept l (set (set fs s x) s g) ts n m
kept_back l fs ts n m s x g d e k = rw (e, set_back fs s x d) k
