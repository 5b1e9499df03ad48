-- In every state of every run of an accepted program each living task is typed.
use Rattle.std.proofs.Common.{◌≡◌, ℕ, zero, suc, ◌+◌, ◌-◌, ◌<◌, ◌≤◌, List, [], ◌∷◌, length, Bool, true, false, Option, Some, None, refl, sym, ◌∙◌, ap, subst}
use Rattle.std.proofs.Common.{cond, get_or, arith, nat_lt, length-set, length-append, get_or-set_same, get_or-set_other}
use Rattle.std.specs.Prelude.{ℤ, ◌==◌, reverse, take}
use Rattle.std.proofs.lemmas.Bool.Decides.{nat_tests}
use Rattle.std.proofs.Math.Seq.{get_or-append_seam}
use Rattle.std.proofs.Math.Bool.{and-false}
use Rattle.laws_words.proofs.BoolLemmas.{other_false}
use Rattle.sts_code.specs.Checks.{program_fault}
use Rattle.sts_code.specs.Program.{Program, routine}
use Rattle.sts_code.specs.declared.instr.Instr.{Instr}
use Rattle.sts_code.specs.declared.instr.Instr.TheVariants.{Open, Fork, Ret, Fail}
use Rattle.sts_model.specs.declared.event.Event.{Event}
use Rattle.sts_model.specs.declared.event.End.{End}
use Rattle.sts_model.specs.declared.event.End.TheVariants.{Success, Failed}
use Rattle.sts_model.specs.declared.record.Frame.{Frame}
use Rattle.sts_model.specs.declared.record.Task.{Task}
use Rattle.sts_model.specs.declared.record.Slot.TheVariants as slots
use Rattle.sts_rules.specs.declared.typing.SlotKind.TheVariants as kind_of
use Rattle.sts_code.specs.declared.instr.Joiner.{Joiner}
use Rattle.sts_model.specs.World.{World, task_at, scope_at, no_task, opening, entry_frame}
use Rattle.sts_model.specs.Local.{operand}
use Rattle.sts_model.specs.Living.{lives}
use Rattle.sts_model.specs.Misuse.{slot}
use Rattle.sts_rules.specs.TypeState.{TypeState, kind, entry, first_slot}
use Rattle.sts_rules.specs.Causes as cause
use Rattle.sts_model.specs.Effect.{effect, named, open_scope, fork_task, subtask_of, ended, end_task}
use Rattle.sts_rules.specs.Flow.{first}
use Rattle.sts_model.specs.Outside.{interrupt, expire}
use Rattle.sts_rules.specs.Promises.{TypingPromises}
use Rattle.sts_rules.specs.Refusal.{IsAccepted}
use Rattle.sts_model.specs.Run.{after}
use Rattle.laws_runs.specs.Runs.{In, Does, Leads}
use Rattle.laws_runs.specs.Later.{Later}
use Rattle.laws_runs.proofs.KeptLemmas.{dead_later}
use Rattle.laws_runs.proofs.FrameLemmas.{own_slot}
use Rattle.laws_runs.proofs.EffectLemmas.{first_no, still-effect, kept-tell, kept-end, still-interrupt, still-expire}
use Rattle.laws_runs.proofs.SoundLemmas.{Sound}
use Rattle.laws_runs.proofs.BirthLemmas.{more_tasks, born_alive}
use Rattle.laws_runs.proofs.EventLemmas.{Also, next-leads, main, also-kept}
use Rattle.laws_accepted.proofs.TimelyLemmas.{timely-leads, timely-opening}
use Rattle.laws_accepted.specs.Typed.{Covers, FitsSlot, IsTyped, AllTyped}
use Rattle.laws_accepted.proofs.Quiet.{Quiet, quiet-effect, quiet-interrupt, quiet-expire}
use Rattle.laws_accepted.proofs.Others.{environment-later, typed-other}
use Rattle.laws_accepted.proofs.Stands.{Stands, Lands, stands-typed}
use Rattle.laws_accepted.proofs.Keys.{covers-scope, covers-child}
use Rattle.laws_accepted.proofs.Checked.{instr_checked, main_needs_nothing}
use Rattle.laws_accepted.proofs.BirthRows.{fits-beginning}
use Rattle.laws_accepted.proofs.FrameRows.{kind-own}
use Rattle.laws_accepted.proofs.JoinRows.{own-scope}
use Rattle.laws_accepted.proofs.Steps.{Sure, also-timely, landed}

-- an accepted program
pub record Accepted (p : Program) : Type 0 where
  pub checked : program_fault p.routines ≡ None
  pub accepted : IsAccepted p
  pub promises : TypingPromises p

-- the program under another name
pub accepted_as : (p q : Program) → p ≡ q → program_fault p.routines ≡ None → IsAccepted q → TypingPromises p → Accepted p
accepted_as p q same checked accepted promises = record { checked = checked; accepted = subst IsAccepted (sym same) accepted; promises = promises }

-- ---- one step, of the tasks that were there

-- what lives lived before
lived : (w v : World) (u : ℕ) → Later w v → u < length w.tasks → lives (task_at v u) ≡ true → lives (task_at w u) ≡ true
lived w v u l less e = by (lives (task_at w u)) refl
  where
    by : (b : Bool) → lives (task_at w u) ≡ b → b ≡ true
    by true h = refl
    by false h = let d = dead_later (task_at w u) (task_at v u) (l.task u less) h in cc

-- the task that steps, if it lands or lives no more, and the others
all-there : (p : Program) (w v : World) (t : ℕ) → Sound w → AllTyped p w → Later w v → Quiet w v (Some t) → (lives (task_at v t) ≡ true → Lands p v (task_at w t).frame (task_at v t).frame) → (u : ℕ) → u < length w.tasks → lives (task_at v u) ≡ true → IsTyped p v (task_at v u).frame (task_at v u).scope
all-there p w v t sound typed l q lands u less alive = by (t == u) refl
  where
    by : (b : Bool) → (t == u) ≡ b → IsTyped p v (task_at v u).frame (task_at v u).scope
    by false e =
        let never : Some t ≡ Some u → ⊥ = λ d. let same : t ≡ u = cc in let yes : (t == u) ≡ true = grind (arith, nat_tests) in cc in
        typed-other p w v (Some t) u sound l q never less (typed u (lived w v u l less alive))
    by true e =
        let same : t ≡ u = grind (arith, nat_tests) in
        let h = typed u (lived w v u l less alive) in
        let g : Lands p v (task_at w u).frame (task_at v u).frame = subst (λ (i : ℕ). lives (task_at v i) ≡ true → Lands p v (task_at w i).frame (task_at v i).frame) same lands alive in
        record {
          function = rw (g.function) h.function;
          state = g.state;
          reached = rw (g.function) g.reached;
          fits = g.fits;
          bound = rw (g.function, environment-later w v u sound l less) h.bound;
        }

-- ---- how many tasks there are

tasks-open : (w : World) (t x : ℕ) (joiner : Joiner) (timed : Bool) → length (open_scope w t (task_at w t).frame x joiner timed).tasks ≡ length w.tasks
unfolding open_scope
tasks-open w t x joiner timed = length-set w.tasks t _

-- only `fork` makes a task
pub is_fork : Instr → Bool
is_fork (Fork s g h) = true
is_fork _ = false

as_many : (p : Program) (w : World) (t : ℕ) (i : Instr) → Sound w → Does p w t i → is_fork i ≡ false → length (effect p w t (task_at w t).frame i).tasks ≡ length w.tasks
unfolding is_fork
as_many p w t (Open x timed joiner) o d e = tasks-open w t x joiner timed
as_many p w t (Fork x g h) o d e = cc
as_many p w t Ret o d e = (kept-end w t (Success (operand (task_at w t).frame 0)) d.alive d.fine.structure).tasks
as_many p w t Fail o d e = (kept-end w t (Failed (operand (task_at w t).frame 0)) d.alive d.fine.structure).tasks
as_many p w t i o d e = (still-effect p w t i o d.fine refl).kept.tasks

-- ---- the end of a task

end-dies : (w : World) (t : ℕ) (end : End) → lives (task_at w t) ≡ true → lives (task_at (end_task w t (task_at w t).frame end) t) ≡ true → ⊥
unfolding end_task
end-dies w t end alive still =
    let v : World = ended w t (task_at w t).frame end in
    let x : Task = task_at v t in
    let now : (task_at v t).outcome ≡ Some end = ap (λ (y : Task). y.outcome) (get_or-set_same w.tasks t _ no_task (born_alive w t alive)) in
    let k = (kept-tell v t (task_at w t).scope end).task t in
    let dead : lives (task_at v t) ≡ false = rw now (and-false (task_at v t).started) in
    let later = dead_later (task_at v t) (task_at (end_task w t (task_at w t).frame end) t) k dead in
    let no : true ≡ false = sym still ∙ later in
    cc

-- ---- the child of a fork

begins-lent : (p : Program) (w : World) (a n : ℕ) (args : List ℤ) → a + 1 < length p.routines → FitsSlot w (entry_frame a args (slots.Lent n)) (slots.Lent n) (first_slot p a)
begins-lent p w a n args less = by (a + 1 == length p.routines) (grind (arith, nat_tests))
  where
    by : (b : Bool) → b ≡ false → FitsSlot w (entry_frame a args (slots.Lent n)) (slots.Lent n) (cond b kind_of.Empty kind_of.Lent)
    by false e = tt
    by true e = cc

-- the needs of a forked function are bound in the environment that the scope keeps
child-bound : (p : Program) (w : World) (f : Frame) (x a n : ℕ) (h : Option ℕ) (s : TypeState) → Stands p w f (Fork x a h) s → slot f x ≡ slots.Own n → Covers p a [] (scope_at w n).environment
child-bound p w f x a n h s st own =
    let r = own-scope p w f s x n cause.is_opened st.fits own st.clear.legal in
    let after : cause.binds_after x s.entries ≡ false = other_false (cause.is_own (kind s x)) (cause.binds_after x s.entries) st.clear.structure (kind-own w f (slot f x) (kind s x) n (st.fits.slots x) own) in
    covers-child p f.function a s.entries (scope_at w n).environment st.clear.bound (covers-scope p w f f.entries s.entries x n r.0 st.fits.entries after r.1.0 own)

-- the new task is typed
child-typed : (p : Program) (w : World) (t x a n : ℕ) (h : Option ℕ) (s : TypeState) → Accepted p → t < length w.tasks → Stands p w (task_at w t).frame (Fork x a h) s → slot (task_at w t).frame x ≡ slots.Own n → IsTyped p (fork_task p w t (task_at w t).frame n a h) (task_at (fork_task p w t (task_at w t).frame n a h) (length w.tasks)).frame (task_at (fork_task p w t (task_at w t).frame n a h) (length w.tasks)).scope
unfolding fork_task
child-typed p w t x a n h s ok alive st own =
    let f : Frame = (task_at w t).frame in
    let child : Task = subtask_of p w f n a in
    let m : World = more_tasks w child in
    let v : World = fork_task p w t f n a h in
    let args : List ℤ = reverse (take (routine p a).args f.operands) in
    let other : length w.tasks ≡ t → ⊥ = λ e. omega (arith, e, alive) in
    let is : task_at v (length w.tasks) ≡ child = get_or-set_other m.tasks t (length w.tasks) _ no_task other ∙ get_or-append_seam w.tasks child [] no_task in
    let checks = instr_checked p f (Fork x a h) ok.checked st.inside st.at in
    let earlier : a < f.function = grind (arith, nat_tests, checks.0) in
    let inside = st.inside in
    subst (λ (y : Task). IsTyped p v y.frame y.scope) (sym is)
    (record {
      function = omega (arith, earlier, inside);
      state = entry p a;
      reached = first;
      fits = fits-beginning p v a args (slots.Lent n) (begins-lent p v a n args (omega (arith, earlier, inside))) (λ r e. cc);
      bound = child-bound p w f x a n h s st own;
    })

-- ---- one event

tasks-fork : (p : Program) (w : World) (t n a : ℕ) (h : Option ℕ) → length (fork_task p w t (task_at w t).frame n a h).tasks ≡ length w.tasks + 1
unfolding fork_task
tasks-fork p w t n a h =
    let child : Task = subtask_of p w (task_at w t).frame n a in
    let m : World = more_tasks w child in
    let l = length-append w.tasks (child ∷ []) in
    length-set m.tasks t _ ∙ omega (arith, l)

lands-effect : (p : Program) (w : World) (t : ℕ) (i : Instr) → Accepted p → Also (Sure p) w → Does p w t i → Later w (effect p w t (task_at w t).frame i) → lives (task_at (effect p w t (task_at w t).frame i) t) ≡ true → Lands p (effect p w t (task_at w t).frame i) (task_at w t).frame (task_at (effect p w t (task_at w t).frame i) t).frame
lands-effect p w t Ret ok h d later still = absurd (end-dies w t (Success (operand (task_at w t).frame 0)) d.alive still)
lands-effect p w t Fail ok h d later still = absurd (end-dies w t (Failed (operand (task_at w t).frame 0)) d.alive still)
lands-effect p w t i ok h d later still =
    let typed = h.also.typed t d.alive in
    landed p w t i typed.state ok.checked h d.alive d.fine (stands-typed p w (task_at w t).frame (task_at w t).scope i ok.accepted ok.promises typed d.at) typed.bound refl later

-- the tasks that were there before any instruction
before-effect : (p : Program) (w : World) (t : ℕ) (i : Instr) → Accepted p → Also (Sure p) w → Does p w t i → (u : ℕ) → u < length w.tasks → lives (task_at (effect p w t (task_at w t).frame i) u) ≡ true → IsTyped p (effect p w t (task_at w t).frame i) (task_at (effect p w t (task_at w t).frame i) u).frame (task_at (effect p w t (task_at w t).frame i) u).scope
before-effect p w t i ok h d =
    let later = ((next-leads p).effect w t i h.right d).later in
    all-there p w (effect p w t (task_at w t).frame i) t h.right.sound h.also.typed later (quiet-effect p w t i h.right.sound d.fine) (lands-effect p w t i ok h d later)

all-fork : (p : Program) (w : World) (t x a : ℕ) (q : Option ℕ) → Accepted p → Also (Sure p) w → Does p w t (Fork x a q) → AllTyped p (effect p w t (task_at w t).frame (Fork x a q))
all-fork p w t x a q ok h d u alive = by (nat_lt u (length w.tasks)) refl
  where
    f : Frame
    f = (task_at w t).frame

    n : ℕ
    n = named (slot (task_at w t).frame x)

    v : World
    v = fork_task p w t (task_at w t).frame (named (slot (task_at w t).frame x)) a q

    by : (b : Bool) → nat_lt u (length w.tasks) ≡ b → IsTyped p (fork_task p w t (task_at w t).frame (named (slot (task_at w t).frame x)) a q) (task_at (fork_task p w t (task_at w t).frame (named (slot (task_at w t).frame x)) a q) u).frame (task_at (fork_task p w t (task_at w t).frame (named (slot (task_at w t).frame x)) a q) u).scope
    by true e = before-effect p w t (Fork x a q) ok h d u (grind (arith, nat_tests)) alive
    by false e =
        let more : length w.tasks ≤ u = grind (arith, nat_tests) in
        let born = born_alive v u alive in
        let long = tasks-fork p w t n a q in
        let is : length w.tasks ≡ u = omega (arith, more, born, long) in
        let mine : slot f x ≡ slots.Own n = own_slot (slot f x) (first_no _ _ (first_no _ _ d.fine.slots)) d.fine.own in
        let typed = h.also.typed t d.alive in
        let st = stands-typed p w f (task_at w t).scope (Fork x a q) ok.accepted ok.promises typed d.at in
        subst (λ (y : ℕ). IsTyped p v (task_at v y).frame (task_at v y).scope) is (child-typed p w t x a n q typed.state ok (born_alive w t d.alive) st mine)

all-effect : (p : Program) (w : World) (t : ℕ) (i : Instr) → Accepted p → Also (Sure p) w → Does p w t i → AllTyped p (effect p w t (task_at w t).frame i)
unfolding is_fork
all-effect p w t (Fork x a q) ok h d u alive = all-fork p w t x a q ok h d u alive
all-effect p w t i ok h d u alive =
    let born = born_alive (effect p w t (task_at w t).frame i) u alive in
    let long = as_many p w t i h.right.sound d refl in
    before-effect p w t i ok h d u (omega (arith, born, long)) alive

all-outside : (p : Program) (w v : World) → Sound w → AllTyped p w → Later w v → Quiet w v None → length v.tasks ≡ length w.tasks → AllTyped p v
all-outside p w v sound typed l q long u alive =
    let born = born_alive v u alive in
    let less : u < length w.tasks = omega (arith, born, long) in
    typed-other p w v None u sound l q (λ e. cc) less (typed u (lived w v u l less alive))

sure-leads : (p : Program) → Accepted p → Leads p (Also (Sure p)) (λ w v. Sure p v)
sure-leads p ok =
    record {
      nothing = λ w h. h.also;
      effect = λ w t i h d.
          record {
            timely = (timely-leads p).effect w t i (also-timely p w h) d;
            typed = all-effect p w t i ok h d;
          };
      interrupt = λ w t h.
          record {
            timely = (timely-leads p).interrupt w t (also-timely p w h);
            typed = all-outside p w (interrupt w t) h.right.sound h.also.typed ((next-leads p).interrupt w t h.right).later (quiet-interrupt w t) (still-interrupt w t).kept.tasks;
          };
      expire = λ w s h.
          record {
            timely = (timely-leads p).expire w s (also-timely p w h);
            typed = all-outside p w (expire w s) h.right.sound h.also.typed ((next-leads p).expire w s h.right).later (quiet-expire w s) (still-expire w s).kept.tasks;
          };
    }

-- ---- the beginning

begins-root : (p : Program) (w : World) (g : ℕ) → g + 1 ≡ length p.routines → FitsSlot w (entry_frame g [] slots.Empty) slots.Empty (first_slot p g)
begins-root p w g is = by (g + 1 == length p.routines) (grind (arith, nat_tests))
  where
    by : (b : Bool) → b ≡ true → FitsSlot w (entry_frame g [] slots.Empty) slots.Empty (cond b kind_of.Empty kind_of.Lent)
    by true e = tt
    by false e = cc

root-typed : (p : Program) → Accepted p → (w : World) → IsTyped p w (entry_frame (length p.routines - 1) [] slots.Empty) None
root-typed p ok w =
    let main = main_needs_nothing p ok.checked in
    let some = main.0 in
    record {
      function = main.0;
      state = entry p (length p.routines - 1);
      reached = first;
      fits = fits-beginning p w (length p.routines - 1) [] slots.Empty (begins-root p w (length p.routines - 1) (omega (arith, some))) (λ r e. cc);
      bound = λ k less due. let none = main.1 k in cc;
    }

sure-opening : (p : Program) → Accepted p → In (Sure p) (opening p)
sure-opening p ok =
    record {
      timely = timely-opening p;
      typed = all;
    }
  where
    w : World
    w = record { tasks = main p ∷ []; scopes = [] }

    all : (u : ℕ) → lives (get_or (main p ∷ []) u no_task) ≡ true → IsTyped p (record { tasks = main p ∷ []; scopes = [] }) (get_or (main p ∷ []) u no_task).frame (get_or (main p ∷ []) u no_task).scope
    all zero alive = root-typed p ok (record { tasks = main p ∷ []; scopes = [] })
    all (suc u) alive = cc

-- ---- whole runs

pub sure-after : (p : Program) → Accepted p → (events : List Event) → In (Also (Sure p)) (after p events)
sure-after p ok events = also-kept p (Sure p) (sure-opening p ok) (sure-leads p ok) events
