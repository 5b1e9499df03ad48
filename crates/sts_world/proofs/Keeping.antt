-- The counters after each change of the lines.
use Rattle.std.proofs.Common.{◌≡◌, ℕ, zero, suc, ◌+◌, ◌-◌, ◌<◌, ◌≤◌, List, [], ◌∷◌, ◌++◌, length, count_by, Bool, true, false, cond, not, Option, Some, None}
use Rattle.std.proofs.Common.{inl, inr, ◌⊎◌, eqb, refl, ap, sym, ◌∙◌, arith, get_or, set, ◌&&◌}
use Rattle.std.proofs.lemmas.Bool.{eqb-true, eqb-false, eq-eqb, cases_lt}
use Rattle.std.proofs.lemmas.List.{get_or-set_same, get_or-set_other, get_or_append_left, length-append, length-set, append-nil, get_or_past}
use Rattle.std.proofs.lemmas.List.Sums.{sum_by-set, sum_by_push, get_or-le-sum_by}
use Rattle.sts_model.specs.Living.{is_in}
use Rattle.sts_code.specs.declared.instr.Joiner.{Joiner}
use Rattle.sts_code.specs.declared.limits.TheConstants.{MAX_STANDING}
use Rattle.sts_joiners.specs.Tallied.{Tallied, tallied, with_end, ends_told}
use Rattle.sts_model.specs.declared.event.End.{End}
use Rattle.sts_world.specs.Lines.{Line, Lines}
use Rattle.sts_world.specs.Kept.{IsKept, Family, no_line, no_tally, count_in, births, lives_in, family_of, no_family, with_child, with_death, stands}
use Rattle.sts_world.specs.Kept.{standing_tasks, standing_scopes}
use Rattle.sts_world.proofs.Counting.{as_one, births_count, births-set, births_push, stands-set, stands_push, root_besides, and_le}
use Rattle.sts_joiners.proofs.TellLemmas.{one_told}

-- the lines are as they were
pub kept_same : (a b : Lines) (fs : List Family) (ts : List Tallied) (n m : ℕ) → a ≡ b → IsKept b fs ts n m → IsKept a fs ts n m
kept_same a b fs ts n m e k = rw e k

-- ---- bounds

-- ---- a scope is closed, or opened again

pub less_tasks : (l : Lines) (fs : List Family) (ts : List Tallied) (n m s : ℕ) (b : Bool) → IsKept l fs ts n m → s < length l.closed → standing_tasks (record l { closed = set l.closed s b }) + cond (get_or l.closed s true) 0 (length (births s l.tasks)) ≡ n + cond b 0 (length (births s l.tasks))
less_tasks l fs ts n m s b k h = rw (births_count s 0 l.tasks, k.tasks) (stands-set s l.closed b l.tasks h)

as_scope : (b : Bool) → cond {A = ℕ} (not b) 1 0 ≡ cond {A = ℕ} b 0 1
as_scope true = refl
as_scope false = refl

pub less_scopes : (l : Lines) (fs : List Family) (ts : List Tallied) (n m s : ℕ) (b : Bool) → IsKept l fs ts n m → s < length l.closed → standing_scopes (record l { closed = set l.closed s b }) + cond (get_or l.closed s true) 0 1 ≡ m + cond b 0 1
less_scopes l fs ts n m s b k h =
    let sum = sum_by-set (as_one not) l.closed s b true h in
    omega (arith, sum, k.scopes, as_scope b, as_scope (get_or l.closed s true))

pub kept_shut : (l : Lines) (fs : List Family) (ts : List Tallied) (n m s : ℕ) (b : Bool) → IsKept l fs ts n m → s < length l.closed → IsKept (record l { closed = set l.closed s b }) fs ts (n + cond b 0 (length (births s l.tasks)) - cond (get_or l.closed s true) 0 (length (births s l.tasks))) (m + cond b 0 1 - cond (get_or l.closed s true) 0 1)
kept_shut l fs ts n m s b k h =
    record {
      as_many = k.as_many ∙ sym (length-set l.closed s b);
      families = k.families;
      tasks = omega (arith, less_tasks l fs ts n m s b k h);
      scopes = omega (arith, less_scopes l fs ts n m s b k h);
      tallies = k.tallies;
      some = k.some;
      root = k.root;
      told = k.told;
      few = k.few;
    }

-- ---- a task is born

child : (b lives : Bool) (xs : List ℕ) (n m : ℕ) → record { births = xs ++ cond b (m ∷ []) []; living = n + cond (b && lives) 1 0 } ≡ cond {A = Family} b (with_child (record { births = xs; living = n }) m lives) (record { births = xs; living = n })
child true lives xs n m = refl
child false lives xs n m = let no_more : n + 0 ≡ n = omega arith in rw (append-nil, no_more) refl

family_push : (r : ℕ) (xs : List Line) (y : Line) → family_of r (xs ++ y ∷ []) ≡ cond (is_in r y.scope) (with_child (family_of r xs) (length xs) y.lives) (family_of r xs)
family_push r xs y =
    rw (births_push r 0 (length xs) xs y (omega arith), sum_by_push (as_one (lives_in r)) xs y)
    (child (is_in r y.scope) y.lives (births r xs) (count_by (lives_in r) xs) (length xs))

-- one family is another one
set_family : (fs : List Family) (s : ℕ) (f : Family) (found : ℕ → Family) → s < length fs → found s ≡ f → ((r : ℕ) → eqb s r ≡ false → get_or fs r no_family ≡ found r) → (r : ℕ) → get_or (set fs s f) r no_family ≡ found r
set_family fs s f found h here others r = by_test (eqb s r) refl
  where
    by_test : (b : Bool) → eqb s r ≡ b → get_or (set fs s f) r no_family ≡ found r
    by_test true e = let same : s ≡ r = eqb-true s r e in rw (← same) (get_or-set_same fs s f no_family h ∙ sym here)
    by_test false e = get_or-set_other fs s r f no_family (λ same. eqb-false s r e (sym same)) ∙ others r e

-- a scope that is open has room for one subtask more
fork_room : (l : Lines) (fs : List Family) (ts : List Tallied) (n m s r : ℕ) → IsKept l fs ts n m → get_or l.closed s true ≡ false → n < MAX_STANDING → (b : Bool) → eqb s r ≡ b → count_in r l.tasks + cond b 1 0 < MAX_STANDING
fork_room l fs ts n m s r k open_now room true e =
    let same : s ≡ r = eqb-true s r e in
    let besides : count_in s l.tasks + 1 ≤ n = rw k.tasks (root_besides l.closed s l.tasks open_now k.some k.root) in
    rw (← same) (omega (arith, besides))
fork_room l fs ts n m s r k open_now room false e = omega (arith, k.few r)

pub kept_fork : (l : Lines) (fs : List Family) (ts : List Tallied) (n m s : ℕ) (lives : Bool) → IsKept l fs ts n m → s < length l.closed → get_or l.closed s true ≡ false → n < MAX_STANDING → IsKept (record l { tasks = l.tasks ++ record { scope = Some s; lives = lives } ∷ [] }) (set fs s (with_child (get_or fs s no_family) (length l.tasks) lives)) ts (n + 1) m
kept_fork l fs ts n m s lives k h open_now room =
    let y : Line = record { scope = Some s; lives = lives } in
    let here : family_of s (l.tasks ++ y ∷ []) ≡ with_child (get_or fs s no_family) (length l.tasks) lives = rw (family_push s l.tasks y, eq-eqb s s refl, k.families s) refl in
    let others : (r : ℕ) → eqb s r ≡ false → get_or fs r no_family ≡ family_of r (l.tasks ++ y ∷ []) = λ r e. rw (family_push r l.tasks y, e) (k.families r) in
    record {
      as_many = length-set fs s _ ∙ k.as_many;
      families = set_family fs s _ (λ r. family_of r (l.tasks ++ y ∷ [])) (omega (arith, k.as_many)) here others;
      tallies = k.tallies;
      tasks = rw (sum_by_push (as_one (λ (x : Line). stands l.closed x.scope)) l.tasks y, open_now, k.tasks) refl;
      scopes = k.scopes;
      some = simp length-append (omega arith);
      root = rw (get_or_append_left l.tasks (y ∷ []) no_line 0 k.some) k.root;
      told = λ r. rw (sum_by_push (as_one (lives_in r)) l.tasks y, sum_by_push (as_one (λ (x : Line). is_in r x.scope)) l.tasks y) (omega (arith, k.told r, and_le (is_in r y.scope) lives));
      few = λ r. rw (sum_by_push (as_one (λ (x : Line). is_in r x.scope)) l.tasks y) (fork_room l fs ts n m s r k open_now room (eqb s r) refl);
    }

-- ---- a scope is born

past_family : (fs : List Family) (r : ℕ) → get_or (fs ++ no_family ∷ []) r no_family ≡ get_or fs r no_family
past_family [] zero = refl
past_family [] (suc r) = refl
past_family (f ∷ fs) zero = refl
past_family (f ∷ fs) (suc r) = past_family fs r

past_tally : (ts : List Tallied) (r : ℕ) (joiner : Joiner) → ends_told (get_or (ts ++ tallied joiner [] ∷ []) r no_tally) ≡ ends_told (get_or ts r no_tally)
past_tally [] zero joiner = refl
past_tally [] (suc r) joiner = refl
past_tally (t ∷ ts) zero joiner = refl
past_tally (t ∷ ts) (suc r) joiner = past_tally ts r joiner

pub kept_open : (l : Lines) (fs : List Family) (ts : List Tallied) (n m : ℕ) (joiner : Joiner) → IsKept l fs ts n m → IsKept (record l { closed = l.closed ++ false ∷ []; tallies = l.tallies ++ tallied joiner [] ∷ [] }) (fs ++ no_family ∷ []) (ts ++ tallied joiner [] ∷ []) n (m + 1)
kept_open l fs ts n m joiner k =
    let none : births (length l.closed) l.tasks ≡ [] = ap (λ (f : Family). f.births) (sym (k.families (length l.closed)) ∙ get_or_past fs (length l.closed) no_family (omega (arith, k.as_many))) in
    record {
      as_many = simp length-append (omega (arith, k.as_many));
      families = λ r. past_family fs r ∙ k.families r;
      tasks = k.tasks ∙ sym (stands_push l.closed 0 l.tasks none);
      scopes = rw (sum_by_push (as_one not) l.closed false, k.scopes) refl;
      tallies = ap (λ (xs : List Tallied). xs ++ tallied joiner [] ∷ []) k.tallies;
      some = k.some;
      root = k.root;
      told = λ r. rw (past_tally l.tallies r joiner) (k.told r);
      few = k.few;
    }

-- ---- a task ends

death : (b c : Bool) (xs : List ℕ) (n old : ℕ) → n + cond (b && true) 1 0 ≡ old + cond (c && false) 1 0 → record { births = xs; living = n } ≡ cond {A = Family} b (with_death (record { births = xs; living = old })) (record { births = xs; living = old })
death true true xs n old e = let less : n ≡ old - 1 = omega arith in rw less refl
death true false xs n old e = let less : n ≡ old - 1 = omega arith in rw less refl
death false true xs n old e = let same : n ≡ old = omega arith in rw same refl
death false false xs n old e = let same : n ≡ old = omega arith in rw same refl

family_set : (r : ℕ) (xs : List Line) (t : ℕ) (o : Option ℕ) (d : Line) → t < length xs → get_or xs t d ≡ record { scope = o; lives = true } → family_of r (set xs t (record { scope = o; lives = false })) ≡ cond (is_in r o) (with_death (family_of r xs)) (family_of r xs)
family_set r xs t o d h e =
    let y : Line = record { scope = o; lives = false } in
    let same : births r (set xs t y) ≡ births r xs = births-set r 0 xs t y d (rw e refl) in
    let fewer : count_by (lives_in r) (set xs t y) + cond (is_in r o && true) 1 0 ≡ count_by (lives_in r) xs + cond (is_in r o && false) 1 0 = rw e at (sum_by-set (as_one (lives_in r)) xs t y d h) in
    rw same (death (is_in r o) (is_in r o) (births r xs) _ _ fewer)

same_standing : (closed : List Bool) (xs : List Line) (t : ℕ) (o : Option ℕ) (d : Line) → t < length xs → get_or xs t d ≡ record { scope = o; lives = true } → count_by (λ (x : Line). stands closed x.scope) (set xs t (record { scope = o; lives = false })) ≡ count_by (λ (x : Line). stands closed x.scope) xs
same_standing closed xs t o d h e =
    let sums = rw e at (sum_by-set (as_one (λ (x : Line). stands closed x.scope)) xs t (record { scope = o; lives = false }) d h) in
    omega (arith, sums)

scope_set : (xs : List Line) (t i : ℕ) (y d e : Line) → y.scope ≡ (get_or xs t d).scope → (get_or (set xs t y) i e).scope ≡ (get_or xs i e).scope
scope_set [] t i y d e h = refl
scope_set (x ∷ xs) zero zero y d e h = h
scope_set (x ∷ xs) zero (suc i) y d e h = refl
scope_set (x ∷ xs) (suc t) zero y d e h = refl
scope_set (x ∷ xs) (suc t) (suc i) y d e h = scope_set xs t i y d e h

same_in : (r : ℕ) (xs : List Line) (t : ℕ) (y d : Line) → y.scope ≡ (get_or xs t d).scope → count_in r (set xs t y) ≡ count_in r xs
same_in r xs t y d h = sym (births_count r 0 (set xs t y)) ∙ ap length (births-set r 0 xs t y d h) ∙ births_count r 0 xs

less_one : (b : Bool) (n old : ℕ) → n + cond (b && true) 1 0 ≡ old + cond (b && false) 1 0 → n + cond b 1 0 ≡ old
less_one true n old e = omega arith
less_one false n old e = omega arith

-- one subtask less lives in its scope
fewer_live : (r : ℕ) (xs : List Line) (t : ℕ) (o : Option ℕ) (d : Line) → t < length xs → get_or xs t d ≡ record { scope = o; lives = true } → count_by (lives_in r) (set xs t (record { scope = o; lives = false })) + cond (is_in r o) 1 0 ≡ count_by (lives_in r) xs
fewer_live r xs t o d h e =
    less_one (is_in r o) _ _ (rw e at (sum_by-set (as_one (lives_in r)) xs t (record { scope = o; lives = false }) d h))

-- a task without a scope ends
pub kept_end : (l : Lines) (fs : List Family) (ts : List Tallied) (n m t : ℕ) (d : Line) → IsKept l fs ts n m → t < length l.tasks → get_or l.tasks t d ≡ record { scope = None; lives = true } → IsKept (record l { tasks = set l.tasks t (record { scope = None; lives = false }) }) fs ts n m
kept_end l fs ts n m t d k h e =
    record {
      as_many = k.as_many;
      families = λ r. k.families r ∙ sym (family_set r l.tasks t None d h e);
      tallies = k.tallies;
      tasks = k.tasks ∙ sym (same_standing l.closed l.tasks t None d h e);
      scopes = k.scopes;
      some = rw length-set k.some;
      root = scope_set l.tasks t 0 _ d no_line (rw e refl) ∙ k.root;
      told = λ r. omega (arith, k.told r, fewer_live r l.tasks t None d h e, same_in r l.tasks t (record { scope = None; lives = false }) d (rw e refl));
      few = λ r. rw (same_in r l.tasks t (record { scope = None; lives = false }) d (rw e refl)) (k.few r);
    }

-- a subtask ends
pub kept_end_in : (l : Lines) (fs : List Family) (ts : List Tallied) (n m t s : ℕ) (d : Line) → IsKept l fs ts n m → t < length l.tasks → s < length fs → get_or l.tasks t d ≡ record { scope = Some s; lives = true } → IsKept (record l { tasks = set l.tasks t (record { scope = Some s; lives = false }) }) (set fs s (with_death (get_or fs s no_family))) ts n m
kept_end_in l fs ts n m t s d k h g e =
    let after : List Line = set l.tasks t (record { scope = Some s; lives = false }) in
    let here : family_of s after ≡ with_death (get_or fs s no_family) = rw (family_set s l.tasks t (Some s) d h e, eq-eqb s s refl, k.families s) refl in
    let others : (r : ℕ) → eqb s r ≡ false → get_or fs r no_family ≡ family_of r after = λ r f. rw (family_set r l.tasks t (Some s) d h e, f) (k.families r) in
    record {
      as_many = length-set fs s _ ∙ k.as_many;
      families = set_family fs s _ (λ r. family_of r after) g here others;
      tallies = k.tallies;
      tasks = k.tasks ∙ sym (same_standing l.closed l.tasks t (Some s) d h e);
      scopes = k.scopes;
      some = rw length-set k.some;
      root = scope_set l.tasks t 0 _ d no_line (rw e refl) ∙ k.root;
      told = λ r. omega (arith, k.told r, fewer_live r l.tasks t (Some s) d h e, same_in r l.tasks t (record { scope = Some s; lives = false }) d (rw e refl));
      few = λ r. rw (same_in r l.tasks t (record { scope = Some s; lives = false }) d (rw e refl)) (k.few r);
    }

-- the tally of the task's scope has room for one more end
pub room_to_tell : (l : Lines) (fs : List Family) (ts : List Tallied) (n m t s : ℕ) (d : Line) → IsKept l fs ts n m → t < length l.tasks → get_or l.tasks t d ≡ record { scope = Some s; lives = true } → ends_told (get_or l.tallies s no_tally) + count_by (lives_in s) (set l.tasks t (record { scope = Some s; lives = false })) + 1 ≤ count_in s (set l.tasks t (record { scope = Some s; lives = false }))
room_to_tell l fs ts n m t s d k h e =
    let fewer = fewer_live s l.tasks t (Some s) d h e in
    let less : count_by (lives_in s) (set l.tasks t (record { scope = Some s; lives = false })) + 1 ≡ count_by (lives_in s) l.tasks = rw (eq-eqb s s refl) at fewer in
    omega (arith, k.told s, less, same_in s l.tasks t (record { scope = Some s; lives = false }) d (rw e refl))

-- the joiner of a scope is told of an end
pub kept_told : (l : Lines) (fs : List Family) (ts : List Tallied) (n m s : ℕ) (end : End) → IsKept l fs ts n m → s < length l.tallies → ends_told (get_or l.tallies s no_tally) + count_by (lives_in s) l.tasks + 1 ≤ count_in s l.tasks → IsKept (record l { tallies = set l.tallies s (with_end (get_or l.tallies s no_tally) end) }) fs (set ts s (with_end (get_or ts s no_tally) end)) n m
kept_told l fs ts n m s end k h room =
    record {
      as_many = k.as_many;
      families = k.families;
      tallies = rw k.tallies refl;
      tasks = k.tasks;
      scopes = k.scopes;
      some = k.some;
      root = k.root;
      told = λ r. by_test r (eqb r s) refl;
      few = k.few;
    }
  where
    by_test : (r : ℕ) (b : Bool) → eqb r s ≡ b → ends_told (get_or (set l.tallies s (with_end (get_or l.tallies s no_tally) end)) r no_tally) + count_by (lives_in r) l.tasks ≤ count_in r l.tasks
    by_test r true e =
        let same : r ≡ s = eqb-true r s e in
        let now_told : ends_told (get_or (set l.tallies s (with_end (get_or l.tallies s no_tally) end)) s no_tally) ≡ ends_told (get_or l.tallies s no_tally) + 1 = ap ends_told (get_or-set_same l.tallies s (with_end (get_or l.tallies s no_tally) end) no_tally h) ∙ one_told (get_or l.tallies s no_tally) end in
        rw same (omega (arith, now_told, room))
    by_test r false e = rw (get_or-set_other l.tallies s r (with_end (get_or l.tallies s no_tally) end) no_tally (eqb-false r s e)) (k.told r)

-- a task that lives in a scope is one of its family
pub lives_at : (l : Lines) (fs : List Family) (ts : List Tallied) (n m t s : ℕ) (d : Line) → IsKept l fs ts n m → t < length l.tasks → get_or l.tasks t d ≡ record { scope = Some s; lives = true } → (s < length fs) × (0 < (get_or fs s no_family).living)
lives_at l fs ts n m t s d k h e =
    let one : cond (is_in s (Some s) && true) 1 0 ≤ count_by (lives_in s) l.tasks = rw e at (get_or-le-sum_by (as_one (lives_in s)) l.tasks t d h) in
    let some : 0 < count_by (lives_in s) l.tasks = rw (eq-eqb s s refl) at one in
    let found : (get_or fs s no_family).living ≡ count_by (lives_in s) l.tasks = ap (λ (f : Family). f.living) (k.families s) in
    (by_bound (cases_lt s (length fs)) (omega (arith, some, found)), omega (arith, some, found))
  where
    by_bound : (s < length fs) ⊎ (length fs ≤ s) → 0 < (get_or fs s no_family).living → s < length fs
    by_bound (inl g) some = g
    by_bound (inr g) some = absurd (omega (arith, ap (λ (f : Family). f.living) (get_or_past fs s no_family g)))
