-- The own step of a task is taken first. If it comes later in a list of events, it is left out
-- there. The rest of the list leads to a state that shows the same.
use Rattle.std.proofs.Common.{◌≡◌, ℕ, ◌+◌, ◌<◌, ◌≤◌, List, [], ◌∷◌, Bool, true, false}
use Rattle.std.proofs.Common.{refl, sym, ◌∙◌, ap, subst, length, arith, get_or, set, cond, fold, count_by}
use Rattle.std.specs.List.{sum_by}
use Rattle.std.proofs.lemmas.Bool.Decides.{nat_tests}
use Rattle.std.proofs.lemmas.List.Sums.{sum_by-set}
use Rattle.std.proofs.lemmas.Bool.{eqb-false}
use Rattle.laws_words.proofs.ListLemmas.{count-cons}
use Rattle.sts_code.specs.Program.{Program, routine}
use Rattle.sts_model.specs.declared.event.Event.{Event}
use Rattle.sts_model.specs.declared.event.Event.TheVariants as event
use Rattle.sts_model.specs.declared.record.Frame.{Frame}
use Rattle.sts_model.specs.declared.record.Task.{Task}
use Rattle.sts_model.specs.World.{World, State, Running, Faulted, task_at, no_task, with_frame, code}
use Rattle.sts_model.specs.Run.{apply, step}
use Rattle.laws_runs.proofs.RunLemmas.{fault-fold}
use Rattle.laws_names.specs.Names.{Names, IsAlike, live_part, named_task}
use Rattle.laws_names.proofs.NameLemmas.{sum_same}
use Rattle.laws_names.proofs.AlikeLemmas.{part_alive}
use Rattle.ends_plain.specs.Configs.{is_step_of}
use Rattle.ends_plain.specs.Own.{has_own_step}
use Rattle.laws_runs.proofs.BirthLemmas.{born_alive}
use Rattle.ends_plain.proofs.FuelLemmas.{frame_fuel, frame_fuel_named}
use Rattle.ends_plain.proofs.OwnLemmas.{OwnStep, own_step, goes_on, IsRun, run_on, Swaps, swaps}

-- ---- the list without the step

pub is_step : (t : ℕ) (e : Event) → is_step_of t e ≡ true → e ≡ event.Step t
is_step t (event.Step u) e = let same : u ≡ t = grind (arith, nat_tests) in ap event.Step same
is_step t (event.Interrupt u) e = cc
is_step t (event.Expire s) e = cc

step_number : Event → ℕ
step_number (event.Step u) = u
step_number (event.Interrupt u) = u
step_number (event.Expire s) = s

not_step : (t : ℕ) (e : Event) → is_step_of t e ≡ false → e ≡ event.Step t → ⊥
unfolding step_number
not_step t (event.Step u) e same = eqb-false u t e (ap step_number same)
not_step t (event.Interrupt u) e same = cc
not_step t (event.Expire s) e same = cc

-- the events without the first step of this task
pub without : ℕ → List Event → List Event
without t [] = []
without t (e ∷ es) = cond (is_step_of t e) es (e ∷ without t es)

pub without_shorter : (t : ℕ) (es : List Event) → length (without t es) ≤ length es
unfolding without
without_shorter t [] = omega arith
without_shorter t (e ∷ es) = by (is_step_of t e) (without_shorter t es)
  where
    by : (b : Bool) → length (without t es) ≤ length es → length (cond b es (e ∷ without t es)) ≤ length (e ∷ es)
    by true h = omega arith
    by false h = omega (arith, h)

pub without_counts : (q : Event → Bool) (t : ℕ) → q (event.Step t) ≡ false → (es : List Event) → count_by q (without t es) ≡ count_by q es
unfolding without
without_counts q t other [] = refl
without_counts q t other (e ∷ es) = by (is_step_of t e) refl (without_counts q t other es)
  where
    by : (b : Bool) → is_step_of t e ≡ b → count_by q (without t es) ≡ count_by q es → count_by q (cond b es (e ∷ without t es)) ≡ count_by q (e ∷ es)
    by true is h =
        let none : q e ≡ false = ap q (is_step t e is) ∙ other in
        let all : count_by q (e ∷ es) ≡ cond (q e) 1 0 + count_by q es = count-cons q e es in
        let one : Bool → ℕ = λ (b : Bool). cond b 1 0 in
        let nothing : one (q e) ≡ one false = ap one none in
        omega (arith, all, nothing)
    by false is h = count-cons q e (without t es) ∙ ap (λ (n : ℕ). cond (q e) 1 0 + n) h ∙ sym (count-cons q e es)

-- ---- the same is shown

-- something that is read of a state, but not of frames
pub record IsOutward {X : Type 0} (read : State → X) : Type 0 where
  pub blind : (w : World) (t : ℕ) (g : Frame) → read (Running (with_frame w t g)) ≡ read (Running w)

-- what is to be shown of the events after the first
abbrev Rest : {X : Type 0} (read : State → X) → Program → List Event → ℕ → Type 0
Rest read p es t = (v : World) → IsRun p (Running v) → has_own_step p v t ≡ true → read (fold (apply p) (step p v t) (without t es)) ≡ read (fold (apply p) (Running v) es)

later : {X : Type 0} (read : State → X) → (p : Program) (e : Event) (es : List Event) (w : World) (t : ℕ) → IsRun p (Running w) → Rest read p es t → (y : State) → apply p (Running w) e ≡ y → Swaps p t (apply p (step p w t) e) y
    → read (fold (apply p) (apply p (step p w t) e) (without t es)) ≡ read (fold (apply p) y es)
later read p e es w t run rest (Running v) is s =
    let ran : IsRun p (Running v) = subst (λ (x : State). IsRun p x) is (run_on p (Running w) e run) in
    ap (λ (x : State). read (fold (apply p) x (without t es))) s.1 ∙ rest v ran s.0
later read p e es w t run rest (Faulted kind u f pc) is s =
    ap (λ (x : State). read (fold (apply p) x (without t es))) s
    ∙ ap read (fault-fold p (without t es) kind u f pc) ∙ sym (ap read (fault-fold p es kind u f pc))

first : {X : Type 0} (read : State → X) → (p : Program) (e : Event) (es : List Event) (w : World) (t : ℕ) → IsRun p (Running w) → has_own_step p w t ≡ true → Rest read p es t → (b : Bool) → is_step_of t e ≡ b
    → read (fold (apply p) (step p w t) (cond b es (e ∷ without t es))) ≡ read (fold (apply p) (apply p (Running w) e) es)
first read p e es w t run own rest true is = ap (λ (x : Event). read (fold (apply p) (apply p (Running w) x) es)) (sym (is_step t e is))
first read p e es w t run own rest false is = later read p e es w t run rest (apply p (Running w) e) refl (swaps p w t e run own (not_step t e is))

pub shows_same : {X : Type 0} (read : State → X) → IsOutward read → (p : Program) (es : List Event) (w : World) (t : ℕ) → IsRun p (Running w) → has_own_step p w t ≡ true
    → read (fold (apply p) (step p w t) (without t es)) ≡ read (fold (apply p) (Running w) es)
unfolding without
shows_same read h p [] w t run own = let o = own_step p w t own in ap read o.leads ∙ h.blind w t (goes_on p w t)
shows_same read h p (e ∷ es) w t run own = first read p e es w t run own (λ v ran still. shows_same read h p es v t ran still) (is_step_of t e) refl

-- ---- how many own steps can still follow one another

task_fuel : Program → Task → ℕ
task_fuel p task = frame_fuel (code p task.frame) task.frame

pub fuel : Program → World → ℕ
fuel p w = sum_by (λ x. task_fuel p (live_part x)) w.tasks

-- states that are alike have as much
pub fuel_same : (p : Program) (n : Names) (w v : World) → IsAlike n w v → fuel p v ≡ fuel p w
unfolding fuel task_fuel
fuel_same p n w v a =
    a.task_sums (task_fuel p)
    ∙ sum_same (λ x. task_fuel p (named_task n (live_part x))) (λ x. task_fuel p (live_part x)) (λ x. let f = (live_part x).frame in frame_fuel_named n (code p f) f) w.tasks

pub fuel_less : (p : Program) (w : World) (t : ℕ) → OwnStep p w t → fuel p (with_frame w t (goes_on p w t)) < fuel p w
unfolding fuel task_fuel
fuel_less p w t o =
    let f = (task_at w t).frame in
    let g = goes_on p w t in
    let y : Task = record (task_at w t) { frame = g } in
    let q : Task → ℕ = λ (x : Task). task_fuel p (live_part x) in
    let total : sum_by q (set w.tasks t y) + q (get_or w.tasks t no_task) ≡ sum_by q w.tasks + q y = sum_by-set q w.tasks t y no_task (born_alive w t o.alive) in
    let before : q (task_at w t) ≡ task_fuel p (task_at w t) = ap (task_fuel p) (part_alive (task_at w t) o.alive) in
    let after : q y ≡ task_fuel p y = ap (task_fuel p) (part_alive y o.alive) in
    let same : frame_fuel (code p g) g ≡ frame_fuel (code p f) g = ap (λ (n : ℕ). frame_fuel (routine p n).code g) o.function in
    let less : frame_fuel (code p f) g < frame_fuel (code p f) f = o.less in
    omega (arith, total, before, after, same, less)
