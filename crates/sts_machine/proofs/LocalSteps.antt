-- A local instruction is a step of its task that only changes its frame. A slice is such a step,
-- instruction by instruction.
use Rattle.std.proofs.Common.{◌≡◌, ℕ, zero, suc, ◌+◌, ◌≤◌, List, [], ◌∷◌, ◌++◌, true, false, Option, Some, None, refl, sym, ◌∙◌, ap, subst, arith, get_or, set, cond, slice_get, append_assoc, append-nil, get_or-set_same}
use Rattle.std.specs.Prelude.{option_map, unwrap_or, is_some, ◌==◌}
use Rattle.std.proofs.lemmas.List.{set-set, set-get_or}
use Rattle.laws_words.proofs.ListLemmas.{read_within}
use Rattle.sts_code.specs.Program.{Program, routine}
use Rattle.sts_code.specs.declared.instr.Instr.{Instr}
use Rattle.sts_code.specs.declared.instr.Instr.TheVariants.{Join, Close}
use Rattle.sts_model.specs.declared.event.Event.{Event}
use Rattle.sts_model.specs.declared.event.Event.TheVariants as event
use Rattle.sts_model.specs.declared.event.Stand.TheVariants.{Free}
use Rattle.sts_model.specs.declared.record.Frame.{Frame}
use Rattle.sts_model.specs.World.{code, instr_at}
use Rattle.sts_model.proofs.LocalLemmas.{local_stays}
use Rattle.sts_model.specs.Local.{is_local, local}
use Rattle.sts_model.specs.Live.{Live, LiveTask, Alive}
use Rattle.laws_runs.specs.Runs.{In}
use Rattle.laws_runs.proofs.FrameLemmas.{leaves-local}
use Rattle.laws_live.specs.Reading.{alive_at, lives_in, with_live_frame, no_live_task, no_alive}
use Rattle.laws_live.specs.Waiting.{live_stand_at_instr, live_stand_at, live_can_step}
use Rattle.laws_live.specs.Run.{live_apply, live_perform, live_steps_in}
use Rattle.laws_live.specs.Seen.{StandsAt, TurnsAreSeen}
use Rattle.laws_accepted.specs.Costs.{IsModest}
use Rattle.laws_accepted.specs.Accepted.{LimitsHold}
use Rattle.sts_frames.specs.Locals.{locals}
use Rattle.std.proofs.lemmas.Option.{same_Some}
use Rattle.sts_frames.proofs.LocalsLemmas.{last}
use Rattle.sts_machine.specs.Slice.{steps_of}
use Rattle.sts_machine.proofs.Fine.{local_effect}

-- ---- what a local instruction leaves as it is

-- the function, and the structure list
pub record IsBeside (f g : Frame) : Type 0 where
  pub function : g.function ≡ f.function
  pub entries : g.entries ≡ f.entries

beside-refl : (f : Frame) → IsBeside f f
beside-refl f = record { function = refl; entries = refl }

beside-trans : (f g h : Frame) → IsBeside f g → IsBeside g h → IsBeside f h
beside-trans f g h a b = record { function = b.function ∙ a.function; entries = b.entries ∙ a.entries }

pub beside-local : (is : List Instr) (i : Instr) (f : Frame) → IsBeside f (local is i f)
beside-local is i f = let same = leaves-local is i f in record { function = same.function; entries = same.entries }

pub beside-locals : (is : List Instr) (f : Frame) (n : ℕ) (g : Frame) → locals is f n ≡ Some g → IsBeside f g
beside-locals is f zero g e = subst (IsBeside f) (same_Some f g e) (beside-refl f)
beside-locals is f (suc n) g e =
    let l = last is (locals is f n) g e in
    subst (IsBeside f) (sym l.next) (beside-trans f l.frame _ (beside-locals is f n l.frame l.before) (beside-local is l.instr l.frame))

-- ---- a frame in a view

-- what a task that lives has
record Here (v : Live) (t : ℕ) : Type 0 where
  pub task : LiveTask
  pub alive : Alive
  pub at : get_or v.tasks t None ≡ Some task
  pub lives : task.alive ≡ Some alive

here : (v : Live) (t : ℕ) → lives_in v t ≡ true → Here v t
here v t e = by (get_or v.tasks t None) refl e
  where
    so : (x : LiveTask) → get_or v.tasks t None ≡ Some x → (a : Option Alive) → x.alive ≡ a → is_some a ≡ true → Here v t
    so x at None lives e = absurd (cc)
    so x at (Some a) lives e = record { task = x; alive = a; at = at; lives = lives }

    by : (o : Option LiveTask) → get_or v.tasks t None ≡ o → is_some (unwrap_or o no_live_task).alive ≡ true → Here v t
    by None at e = absurd (cc)
    by (Some x) at e = so x at x.alive refl e

-- the task at another frame
abbrev framed : LiveTask → Alive → Frame → LiveTask
framed x a f = record x { alive = Some (record a { frame = f }) }

-- a written frame
written : (v : Live) (t : ℕ) (f : Frame) (h : Here v t) → with_live_frame v t f ≡ record v { tasks = set v.tasks t (Some (framed h.task h.alive f)) }
written v t f h =
    ap (λ o. record v { tasks = set v.tasks t (option_map (λ (x : LiveTask). record x { alive = option_map (λ (a : Alive). record a { frame = f }) x.alive }) o) }) h.at
    ∙ ap (λ o. record v { tasks = set v.tasks t (Some (record h.task { alive = option_map (λ (a : Alive). record a { frame = f }) o })) }) h.lives

-- what is there afterwards
there : (v : Live) (t : ℕ) (f : Frame) (h : Here v t) → get_or (with_live_frame v t f).tasks t None ≡ Some (framed h.task h.alive f)
there v t f h =
    ap (λ (w : Live). get_or w.tasks t None) (written v t f h)
    ∙ get_or-set_same v.tasks t (Some (framed h.task h.alive f)) None (read_within v.tasks t h.task h.at)

pub lives-framed : (v : Live) (t : ℕ) (f : Frame) → lives_in v t ≡ true → lives_in (with_live_frame v t f) t ≡ true
lives-framed v t f e = ap (λ o. is_some (unwrap_or o no_live_task).alive) (there v t f (here v t e))

pub frame-framed : (v : Live) (t : ℕ) (f : Frame) → lives_in v t ≡ true → (alive_at (with_live_frame v t f) t).frame ≡ f
frame-framed v t f e = ap (λ o. (unwrap_or (unwrap_or o no_live_task).alive no_alive).frame) (there v t f (here v t e))

-- the next instruction, after a local one
pub next_at : (p : Program) (v x : Live) (t : ℕ) (f : Frame) (is : List Instr) (i : Instr) (o : Option Instr) → is ≡ code p f → lives_in v t ≡ true → x ≡ with_live_frame v t (local is i f) → o ≡ slice_get is (local is i f).pc → instr_at p (alive_at x t).frame ≡ o
next_at p v x t f is i o own lives live next =
    let g = local is i f in
    let frame : (alive_at x t).frame ≡ g = ap (λ y. (alive_at y t).frame) live ∙ frame-framed v t g lives in
    let kept : code p g ≡ is = ap (λ k. (routine p k).code) (beside-local is i f).function ∙ sym own in
    ap (instr_at p) frame ∙ ap (λ (c : List Instr). slice_get c g.pc) kept ∙ sym next

-- the frame that was there
pub same-framed : (v : Live) (t : ℕ) → lives_in v t ≡ true → with_live_frame v t (alive_at v t).frame ≡ v
same-framed v t e =
    let h = here v t e in
    let frame : (alive_at v t).frame ≡ h.alive.frame = ap (λ o. (unwrap_or (unwrap_or o no_live_task).alive no_alive).frame) h.at ∙ ap (λ o. (unwrap_or o no_alive).frame) h.lives in
    let task : framed h.task h.alive (alive_at v t).frame ≡ h.task = ap (framed h.task h.alive) frame ∙ ap (λ o. record h.task { alive = o }) (sym h.lives) in
    written v t (alive_at v t).frame h
    ∙ ap (λ x. record v { tasks = set v.tasks t (Some x) }) task
    ∙ ap (λ o. record v { tasks = set v.tasks t o }) (sym h.at)
    ∙ ap (λ ts. record v { tasks = ts }) (set-get_or v.tasks t None)

-- the later of two frames
twice-framed : (v : Live) (t : ℕ) (f g : Frame) → lives_in v t ≡ true → with_live_frame (with_live_frame v t f) t g ≡ with_live_frame v t g
twice-framed v t f g e =
    let h = here v t e in
    let w = with_live_frame v t f in
    let k : Here w t = record { task = framed h.task h.alive f; alive = record h.alive { frame = f }; at = there v t f h; lives = refl } in
    written w t g k
    ∙ ap (λ (x : Live). record x { tasks = set x.tasks t (Some (framed h.task h.alive g)) }) (written v t f h)
    ∙ ap (λ ts. record v { tasks = ts }) (set-set v.tasks t (Some (framed h.task h.alive f)) (Some (framed h.task h.alive g)))
    ∙ sym (written v t g h)

-- ---- one step

-- at a local instruction the task is at no scope
free : (v : Live) (t : ℕ) (i : Instr) → is_local i ≡ true → live_stand_at_instr v t (Some i) ≡ Free
free v t (Join x failed timeout interrupted) e = cc
free v t (Close x) e = cc
free v t i e = refl

-- the first of some local instructions in a row
record First (is : List Instr) (f : Frame) : Type 0 where
  pub instr : Instr
  pub at : slice_get is f.pc ≡ Some instr
  pub is_local : is_local instr ≡ true

first : (is : List Instr) (f : Frame) (n : ℕ) (g : Frame) → locals is f (suc n) ≡ Some g → First is f
first is f zero g e =
    let l = last is (locals is f zero) g e in
    let same : l.frame ≡ f = sym (same_Some f l.frame l.before) in
    record { instr = l.instr; at = ap (λ (h : Frame). slice_get is h.pc) (sym same) ∙ l.at; is_local = l.is_local }
first is f (suc n) g e = let l = last is (locals is f (suc n)) g e in first is f n l.frame l.before

-- a task that did local instructions was at no scope before
pub was-free : (p : Program) (v : Live) (t n : ℕ) (g : Frame) → (n == 0) ≡ false → locals (code p (alive_at v t).frame) (alive_at v t).frame n ≡ Some g → live_stand_at p v t ≡ Free
was-free p v t zero g some e = cc
was-free p v t (suc n) g some e =
    let i = first (code p (alive_at v t).frame) (alive_at v t).frame n g e in
    ap (live_stand_at_instr v t) i.at ∙ free v t i.instr i.is_local

-- a living task at a local instruction
pub record AtLocal (p : Program) (v : Live) (t : ℕ) (f : Frame) (i : Instr) : Type 0 where
  pub lives : lives_in v t ≡ true
  pub frame : (alive_at v t).frame ≡ f
  pub at : instr_at p f ≡ Some i
  pub is_local : is_local i ≡ true

pub can-local : (p : Program) (v : Live) (t : ℕ) (f : Frame) (i : Instr) → AtLocal p v t f i → live_can_step p v t ≡ true
can-local p v t f i h =
    let stand : live_stand_at p v t ≡ Free =
    ap (λ (g : Frame). live_stand_at_instr v t (instr_at p g)) h.frame
    ∙ ap (live_stand_at_instr v t) h.at
    ∙ free v t i h.is_local in
    rw (h.lives, stand) refl

apply-local : (p : Program) (v : Live) (t : ℕ) (f : Frame) (i : Instr) → AtLocal p v t f i → live_apply p v (event.Step t) ≡ with_live_frame v t (local (code p f) i f)
apply-local p v t f i h =
    ap (λ b. cond b (live_perform p v t (alive_at v t).frame (instr_at p (alive_at v t).frame)) v) (can-local p v t f i h)
    ∙ ap (λ (g : Frame). live_perform p v t g (instr_at p g)) h.frame
    ∙ ap (live_perform p v t f) h.at
    ∙ local_effect p v t f i (local_stays i h.is_local)

pub step-local : (p : Program) (events : List Event) (v : Live) (n t : ℕ) (f : Frame) (i : Instr) → TurnsAreSeen p → StandsAt p events v n → AtLocal p v t f i → StandsAt p (events ++ event.Step t ∷ []) (with_live_frame v t (local (code p f) i f)) (n + 1)
step-local p events v n t f i law stands h =
    let next = (law events v n (event.Step t) stands).stands in
    let one : live_steps_in p v (event.Step t) ≡ 1 = rw (can-local p v t f i h) refl in
    subst (λ w. StandsAt p (events ++ event.Step t ∷ []) w (n + 1)) (apply-local p v t f i h)
    (subst (λ m. StandsAt p (events ++ event.Step t ∷ []) (live_apply p v (event.Step t)) (n + m)) one next)

-- ---- as many steps as a slice has

steps-more : (n t : ℕ) → steps_of n t ++ event.Step t ∷ [] ≡ steps_of (suc n) t
steps-more zero t = refl
steps-more (suc n) t = ap (λ es. event.Step t ∷ es) (steps-more n t)

pub slices_are_steps : (p : Program) → TurnsAreSeen p → (events : List Event) (v : Live) (n t : ℕ) → StandsAt p events v n → lives_in v t ≡ true
    → (count : ℕ) (f : Frame) → locals (code p (alive_at v t).frame) (alive_at v t).frame count ≡ Some f
    → StandsAt p (events ++ steps_of count t) (with_live_frame v t f) (n + count)
slices_are_steps p law events v n t stands lives zero f e =
    let frame : with_live_frame v t f ≡ v = ap (with_live_frame v t) (sym (same_Some _ f e)) ∙ same-framed v t lives in
    subst (λ es. StandsAt p es (with_live_frame v t f) (n + 0)) (sym (append-nil events))
    (subst (λ w. StandsAt p events w (n + 0)) (sym frame)
    (subst (λ m. StandsAt p events v m) (omega arith) stands))
slices_are_steps p law events v n t stands lives (suc count) f e =
    let is = code p (alive_at v t).frame in
    let l = last is (locals is (alive_at v t).frame count) f e in
    let g = l.frame in
    let w = with_live_frame v t g in
    let before = slices_are_steps p law events v n t stands lives count g l.before in
    let beside = beside-locals is (alive_at v t).frame count g l.before in
    let same : code p g ≡ is = ap (λ k. (routine p k).code) beside.function in
    let at : AtLocal p w t g l.instr = record { lives = lives-framed v t g lives; frame = frame-framed v t g lives; at = ap (λ c. slice_get c g.pc) same ∙ l.at; is_local = l.is_local } in
    let next = step-local p (events ++ steps_of count t) w (n + count) t g l.instr law before at in
    let frame : with_live_frame w t (local (code p g) l.instr g) ≡ with_live_frame v t f = twice-framed v t g _ lives ∙ ap (λ c. with_live_frame v t (local c l.instr g)) same ∙ ap (with_live_frame v t) (sym l.next) in
    let list : (events ++ steps_of count t) ++ event.Step t ∷ [] ≡ events ++ steps_of (suc count) t = append_assoc events (steps_of count t) (event.Step t ∷ []) ∙ ap (λ es. events ++ es) (steps-more count t) in
    subst (λ es. StandsAt p es (with_live_frame v t f) (n + suc count)) list
    (subst (λ x. StandsAt p ((events ++ steps_of count t) ++ event.Step t ∷ []) x (n + suc count)) frame
    (subst (λ m. StandsAt p ((events ++ steps_of count t) ++ event.Step t ∷ []) (with_live_frame w t (local (code p g) l.instr g)) m) (omega arith) next))

-- ---- no run is longer than the limit

pub within_limit : (p : Program) → LimitsHold p → (events : List Event) (v : Live) (n : ℕ) → StandsAt p events v n → n ≤ 1000000
within_limit p limits events v n h =
    let modest : IsModest p events h.world = subst (In (IsModest p events)) h.runs (limits events) in
    subst (λ m. m ≤ 1000000) h.steps modest.steps
