-- The slice that a machine gives out, and the machine after a fitting slice was put back.
use Rattle.std.proofs.Common.{◌≡◌, ℕ, ◌+◌, ◌≤◌, List, ◌++◌, Bool, false, true, Option, Some, None, refl, sym, ◌∙◌, ap, subst, get_or-set_other}
use Rattle.std.proofs.lemmas.Bool.{false≢true}
use Rattle.std.specs.Prelude.{option_map, unwrap_or, count_by, is_some, ◌==◌, ◌↔◌, IsTrue}
use Rattle.sts_code.specs.Program.{Program}
use Rattle.sts_code.specs.declared.instr.Instr.{Instr}
use Rattle.sts_code.specs.declared.instr.Instr.TheVariants.{Join, Close}
use Rattle.sts_rules.specs.declared.budget.Budgets.{Budgets}
use Rattle.sts_model.specs.declared.event.Event.{Event}
use Rattle.sts_model.specs.declared.record.Frame.{Frame}
use Rattle.sts_model.specs.declared.record.Slot.{Slot}
use Rattle.sts_model.specs.declared.record.Slot.TheVariants.{Empty}
use Rattle.sts_model.specs.World.{code, instr_at}
use Rattle.sts_model.specs.Misuse.{slot, is_binding}
use Rattle.sts_model.specs.Live.{Live, LiveTask, Alive}
use Rattle.laws_live.specs.Reading.{alive_at, lives_in, no_alive, no_live_task, task_in, with_live_frame}
use Rattle.laws_live.specs.Seen.{StandsAt}
use Rattle.laws_live.specs.Waiting.{live_can_step, live_stand_at, live_stand_at_instr, live_stands_at_close, live_stands_at_join}
use Rattle.laws_live.specs.Order.{InOrder}
use Rattle.sts_store.specs.Parts.{Parts, Unseen, frame_of, live_of, unseen_of}
use Rattle.sts_machine.specs.Machine.{IsMachine, Seen, Stands}
use Rattle.sts_machine.specs.Room.{HasRoomOf}
use Rattle.sts_frames.specs.Locals.{locals}
use Rattle.std.proofs.lemmas.Option.{same_Some}
use Rattle.sts_machine.specs.Slice.{Cut, Fits, IsLawful, IsReached, steps_of}
use Rattle.sts_machine.specs.Standing.{AreStanding, AreStandingBut}
use Rattle.sts_machine.proofs.Changing.{changes-quiet}
use Rattle.sts_machine.proofs.Lists.{apart}
use Rattle.sts_machine.proofs.LocalSteps.{beside-locals, same-framed, slices_are_steps, within_limit}
use Rattle.sts_machine.proofs.Quiet.{quiet-frame}
use Rattle.sts_machine.proofs.Stood.{room_kept}
use Rattle.sts_machine.proofs.Turning.{alive}

-- ---- taken out

module _ (p : Program) (m : Parts) (n : ℕ) (is : IsMachine p m n) where
  pub lawful : IsLawful p
  lawful = record { seen = is.laws.turns; safe = is.laws.safe; limits = is.laws.limits }

  pub reached : (t : ℕ) → live_can_step p (live_of m) t ≡ true → IsReached p t (frame_of m t)
  reached t can =
      record {
        events = is.events;
        view = live_of m;
        steps = n;
        stands = is.stands;
        lives = alive p m n is t can;
        frame = refl;
      }

-- ---- which slices fit

fits_here : {m u : Seen} {s : Cut} → m ≡ u → Fits u s → Fits m s
fits_here {m} {u} {s} view = subst (λ (x : Seen). Fits x s) (sym view)

-- the questions that a machine asks about a slice: t is its task
module _ {m u : Seen} {s : Cut} {t : ℕ} (view : m ≡ u) (task : t ≡ s.task) where
  pub of_no_task : {b : Bool} → b ≡ lives_in m.live t → b ≡ false → IsTrue false ↔ Fits u s
  of_no_task asked off = (λ e. absurd (false≢true e), λ fits. absurd (false≢true (sym off ∙ asked ∙ ap (lives_in m.live) task ∙ (fits_here view fits).lives)))

  -- its starting frame, and the frame of the task
  module _ {f g : Frame} {b : Bool} (start : f ≡ s.start) (at : g ≡ (alive_at m.live t).frame) (asked : IsTrue b ↔ (f ≡ g)) where
    pub of_no_frame : b ≡ false → IsTrue false ↔ Fits u s
    of_no_frame off = (
      λ e. absurd (false≢true e),
      λ fits. absurd (false≢true (sym off ∙ asked.1 (start ∙ (fits_here view fits).start ∙ ap (λ k. (alive_at m.live k).frame) (sym task) ∙ sym at))),
    )

    pub of_code : {l r : Bool} {h : Frame} {q : Program} {is js : List Instr} → l ≡ lives_in m.live t → l ≡ true → b ≡ true
        → is ≡ s.code → h ≡ s.start → q ≡ m.program → js ≡ code q h → (IsTrue r ↔ (is ≡ js)) → IsTrue r ↔ Fits u s
    of_code {l} {r} {h} {q} {is} {js} lives alive same own first program given compared =
        let own_code : js ≡ code m.program s.start = given ∙ ap (λ p. code p h) program ∙ ap (λ (k : Frame). code m.program k) first in (
          λ e.
              subst (λ (x : Seen). Fits x s) view
              (record {
                lives = ap (lives_in m.live) (sym task) ∙ sym lives ∙ alive;
                start = sym start ∙ asked.0 same ∙ at ∙ ap (λ k. (alive_at m.live k).frame) task;
                code = sym own ∙ compared.0 e ∙ own_code;
              }),
          λ fits. compared.1 (own ∙ (fits_here view fits).code ∙ sym own_code),
        )

-- ---- a frame of t is written: another task stands where it stood

module _ (v : Live) (t : ℕ) (f : Frame) (i : ℕ) (other : (i == t) ≡ false) where
  abbrev after : Live
  after = with_live_frame v t f

  task_apart : task_in after i ≡ task_in v i
  task_apart = get_or-set_other v.tasks t i (option_map (λ (x : LiveTask). record x { alive = option_map (λ (a : Alive). record a { frame = f }) x.alive }) (task_in v t)) None (apart i t other)

  frame_apart : (alive_at after i).frame ≡ (alive_at v i).frame
  frame_apart = ap (λ o. (unwrap_or (unwrap_or o no_live_task).alive no_alive).frame) task_apart

  lives_apart : lives_in after i ≡ lives_in v i
  lives_apart = ap (λ o. is_some (unwrap_or o no_live_task).alive) task_apart

  at_close : (q : Slot) → live_stands_at_close after q ≡ live_stands_at_close v q
  at_close Empty = refl
  at_close _ = refl

  at_instr : (o : Option Instr) → live_stand_at_instr after i o ≡ live_stand_at_instr v i o
  at_instr (Some (Join x failed timeout interrupted)) = ap (λ (g : Frame). live_stands_at_join (slot g x)) frame_apart
  at_instr (Some (Close x)) = ap (λ (g : Frame). live_stands_at_close after (slot g x)) frame_apart ∙ at_close (slot (alive_at v i).frame x)
  at_instr o = refl

  stand_apart : (p : Program) → live_stand_at p after i ≡ live_stand_at p v i
  stand_apart p = ap (λ (g : Frame). live_stand_at_instr after i (instr_at p g)) frame_apart ∙ at_instr (instr_at p (alive_at v i).frame)

-- ---- put back with nothing done

pub same_view : (u : Seen) (s : Cut) → s.count ≡ 0 → Fits u s → locals s.code s.start s.count ≡ Some s.frame → u.live ≡ with_live_frame u.live s.task s.frame
same_view u s none fits done =
    let same : s.frame ≡ s.start = same_Some s.frame s.start (sym done ∙ ap (locals s.code s.start) none) in
    sym (ap (with_live_frame u.live s.task) (same ∙ fits.start) ∙ same-framed u.live s.task fits.lives)

-- ---- put back

-- how a machine is seen
abbrev pub seen_of : Program → Parts → ℕ → Seen
seen_of p m n = record { program = p; live = live_of m; unseen = unseen_of m; steps = n }

-- the facts of a machine with its task t put at the frame f, `count` steps later
pub record Puts (p : Program) (m : Parts) (n t : ℕ) (f : Frame) (count : ℕ) : Type 0 where
  pub entries : f.entries ≡ (frame_of m t).entries
  pub few : n + count ≤ 1000000
  pub order : InOrder (with_live_frame (live_of m) t f)
  pub others : AreStandingBut p (with_live_frame (live_of m) t f) (unseen_of m) t
  pub room : (b : Budgets) → HasRoomOf b (live_of m) (unseen_of m) → HasRoomOf b (with_live_frame (live_of m) t f) (unseen_of m)
  pub stands : (events : List Event) → StandsAt p events (live_of m) n → StandsAt p (events ++ steps_of count t) (with_live_frame (live_of m) t f) (n + count)

module _ (p : Program) (m : Parts) (n : ℕ) (is : IsMachine p m n) (t : ℕ) (lives : lives_in (live_of m) t ≡ true) where
  pub put_on : (f : Frame) (count : ℕ) → locals (code p (frame_of m t)) (frame_of m t) count ≡ Some f → Puts p m n t f count
  put_on f count done =
      let v = live_of m in
      let x = with_live_frame v t f in
      let steps : (events : List Event) → StandsAt p events v n → StandsAt p (events ++ steps_of count t) x (n + count) = λ events h. slices_are_steps p is.laws.turns events v n t h lives count f done in
      let here = steps is.events is.stands in
      let entries : f.entries ≡ (frame_of m t).entries = (beside-locals (code p (frame_of m t)) (frame_of m t) count f done).entries in
      record {
        entries = entries;
        few = within_limit p is.laws.limits (is.events ++ steps_of count t) x (n + count) here;
        order = is.laws.order (is.events ++ steps_of count t) x (n + count) here;
        others = λ i other alive. is.standing i (sym (lives_apart v t f i other) ∙ alive) ∙ sym (stand_apart v t f i other p);
        room = λ b. room_kept v x (unseen_of m) (unseen_of m) t b (changes-quiet v x (unseen_of m) t (quiet-frame v t f (ap (λ es. count_by is_binding es) entries)));
        stands = steps;
      }

-- a fitting slice of the machine with this view
pub puts : {p : Program} {m : Parts} {n t count : ℕ} {f : Frame} {u : Seen} {s : Cut}
    → IsMachine p m n → seen_of p m n ≡ u
    → Fits u s → t ≡ s.task → f ≡ s.frame → count ≡ s.count → locals s.code s.start s.count ≡ Some s.frame → Puts p m n t f count
puts {p} {m} {n} {t} {count} {f} {u} {s} is view fits task frame counted done =
    let here : Fits (seen_of p m n) s = fits_here view fits in
    let g : Frame = frame_of m s.task in
    let own : locals (code p g) g s.count ≡ Some s.frame =
    sym (ap (λ js. locals js s.start s.count) here.code ∙ ap (λ (h : Frame). locals (code p h) h s.count) here.start) ∙ done in
    subst (λ k. Puts p m n k f count) (sym task)
    (subst (λ (h : Frame). Puts p m n s.task h count) (sym frame)
    (subst (λ k. Puts p m n s.task s.frame k) (sym counted)
    (put_on p m n is s.task here.lives s.frame s.count own)))

-- the parts x after the frame is written
module _ {p : Program} {m : Parts} {n t count : ℕ} {f : Frame} (x : Parts) (g : Puts p m n t f count) (live : live_of x ≡ with_live_frame (live_of m) t f) where
  pub in_order : InOrder (live_of x)
  in_order = subst InOrder (sym live) g.order

  pub others_there : (q : Program) → q ≡ p → unseen_of x ≡ unseen_of m → AreStandingBut q (live_of x) (unseen_of x) t
  others_there q same unseen =
      subst (λ r. AreStandingBut r (live_of x) (unseen_of x) t) (sym same)
      (subst (λ (w : Unseen). AreStandingBut p (live_of x) w t) (sym unseen)
      (subst (λ (v : Live). AreStandingBut p v (unseen_of m) t) (sym live) g.others))

  -- and the parts y after the task's scope was recorded
  module _ (y : Parts) (still : live_of y ≡ live_of x) where
    stands_on : (events : List Event) → StandsAt p events (live_of m) n → StandsAt p (events ++ steps_of count t) (live_of y) (n + count)
    stands_on events h = subst (λ v. StandsAt p (events ++ steps_of count t) v (n + count)) (sym (still ∙ live)) (g.stands events h)

    pub put_back : (q : Program) → q ≡ p → unseen_of x ≡ unseen_of m → IsMachine p m n → AreStanding q (live_of y) (unseen_of y)
        → ((b : Budgets) → HasRoomOf b (live_of x) (unseen_of x) → HasRoomOf b (live_of y) (unseen_of y))
        → IsMachine p y (n + count)
    put_back q same unseen is standing room =
        record {
          events = is.events ++ steps_of count t;
          stands = stands_on is.events is.stands;
          standing = subst (λ r. AreStanding r (live_of y) (unseen_of y)) same standing;
          room = λ b printed. room b (subst (λ (w : Unseen). HasRoomOf b (live_of x) w) (sym unseen) (subst (λ (v : Live). HasRoomOf b v (unseen_of m)) (sym live) (g.room b (is.room b printed))));
          laws = is.laws;
        }

    -- each list of events that led to the machine leads to it with these steps
    pub stands_there : (u : Seen) (s : Cut) → seen_of p m n ≡ u
        → t ≡ s.task → count ≡ s.count → (events : List Event) → Stands u events
        → StandsAt p (events ++ steps_of s.count s.task) (live_of y) (n + count)
    stands_there u s view task counted events h =
        subst (λ es. StandsAt p (events ++ es) (live_of y) (n + count)) (ap (λ k. steps_of k t) counted ∙ ap (steps_of s.count) task)
        (stands_on events (subst (λ (a : Seen). Stands a events) (sym view) h))
