-- Where a task is that lives in a reached view, its local instructions are safe, and so are those
-- after them. They keep the invariant of a slice.
use Rattle.std.proofs.Common.{◌≡◌, ℕ, zero, suc, ◌+◌, ◌<◌, ◌≤◌, List, ◌++◌, Bool, true, false, Option, Some, None, refl, sym, ◌∙◌, ap, subst, length, arith, slice_get, cond}
use Rattle.sts_code.specs.Program.{Program, routine}
use Rattle.sts_code.specs.declared.instr.Instr.{Instr}
use Rattle.sts_model.specs.declared.event.Stand.TheVariants.{Free}
use Rattle.sts_model.specs.declared.record.Frame.{Frame}
use Rattle.sts_model.specs.World.{code, instr_at}
use Rattle.sts_model.specs.Local.{is_local}
use Rattle.sts_frames.specs.Locals.{if_local, local_at, and_local, locals, AreSafe, IsSafe}
use Rattle.std.proofs.lemmas.Option.{same_Some, slice_get_within}
use Rattle.laws_live.specs.Fine.{IsLiveFine}
use Rattle.laws_live.specs.Reading.{alive_at, with_live_frame}
use Rattle.laws_live.specs.Waiting.{live_can_step, live_stand_at, live_stand_at_instr}
use Rattle.sts_machine.specs.Slice.{IsLawful, IsReached, IsSlice, steps_of}
use Rattle.sts_machine.proofs.LocalSteps.{AtLocal, can-local, slices_are_steps, beside-locals, lives-framed, frame-framed, within_limit}

-- a local instruction that is next
record IsNext (is : List Instr) (f : Frame) (i : Instr) : Type 0 where
  pub at : slice_get is f.pc ≡ Some i
  pub is_local : is_local i ≡ true

next : (is : List Instr) (f : Frame) (i : Instr) → local_at is f ≡ Some i → IsNext is f i
next is f i e = by (slice_get is f.pc) refl e
  where
    so : (j : Instr) (b : Bool) → slice_get is f.pc ≡ Some j → is_local j ≡ b → cond b (Some j) None ≡ Some i → IsNext is f i
    so j true at l e = subst (IsNext is f) (same_Some j i e) (record { at = at; is_local = l })
    so j false at l e = absurd (cc)

    by : (o : Option Instr) → slice_get is f.pc ≡ o → if_local o ≡ Some i → IsNext is f i
    by None at e = absurd (cc)
    by (Some j) at e = so j (is_local j) at refl e

-- ---- a frame at which a task lives

module _ (p : Program) (t : ℕ) (law : IsLawful p) where
  -- no misuse is next
  fine : (f : Frame) (i : Instr) (r : IsReached p t f) → AtLocal p r.view t f i → IsLiveFine p r.view t f i
  fine f i r a =
      let s = law.safe r.events r.view r.steps r.stands t (can-local p r.view t f i a) in
      let same : s.instr ≡ i = same_Some s.instr i (sym s.at ∙ ap (instr_at p) r.frame ∙ a.at) in
      subst (λ j. IsLiveFine p r.view t f j) same (subst (λ (g : Frame). IsLiveFine p r.view t g s.instr) r.frame s.fine)

  -- some instruction is next
  inside : (f : Frame) (r : IsReached p t f) → f.pc < length (code p f)
  inside f r = by (instr_at p f) refl
    where
      by : (o : Option Instr) → instr_at p f ≡ o → f.pc < length (code p f)
      by (Some i) at = slice_get_within (code p f) f.pc i at
      by None at =
          let here : instr_at p (alive_at r.view t).frame ≡ None = ap (instr_at p) r.frame ∙ at in
          let stand : live_stand_at p r.view t ≡ Free = ap (live_stand_at_instr r.view t) here in
          let can : live_can_step p r.view t ≡ true = rw (r.lives, stand) refl in
          let s = law.safe r.events r.view r.steps r.stands t can in
          let there = s.at in
          absurd (cc)

  is_safe : (f : Frame) (is : List Instr) → is ≡ code p f → IsReached p t f → IsSafe p is f
  is_safe f is own r =
      let at : (i : Instr) → local_at is f ≡ Some i → AtLocal p r.view t f i =
      λ i e. let n = next is f i e in record { lives = r.lives; frame = r.frame; at = ap (λ js. slice_get js f.pc) (sym own) ∙ n.at; is_local = n.is_local } in
      record {
        own_code = own;
        inside = subst (λ js. f.pc < length js) (sym own) (inside f r);
        room = λ i e. (fine f i r (at i e)).room;
        loops = λ i e. (fine f i r (at i e)).loops;
      }

  -- the task gets there by as many steps
  pub reached_next : (f : Frame) (n : ℕ) (g : Frame) → IsReached p t f → locals (code p f) f n ≡ Some g → IsReached p t g
  reached_next f n g r e =
      let here : locals (code p (alive_at r.view t).frame) (alive_at r.view t).frame n ≡ Some g = ap (λ (h : Frame). locals (code p h) h n) r.frame ∙ e in
      record {
        events = r.events ++ steps_of n t;
        view = with_live_frame r.view t g;
        steps = r.steps + n;
        stands = slices_are_steps p law.seen r.events r.view r.steps t r.stands r.lives n g here;
        lives = lives-framed r.view t g r.lives;
        frame = frame-framed r.view t g r.lives;
      }

  pub are_safe : (f : Frame) (is : List Instr) → is ≡ code p f → IsReached p t f → AreSafe p is f
  are_safe f is own r n g e =
      let mine : locals (code p f) f n ≡ Some g = ap (λ js. locals js f n) (sym own) ∙ e in
      let same : code p g ≡ code p f = ap (λ k. (routine p k).code) (beside-locals (code p f) f n g mine).function in
      is_safe g is (own ∙ sym same) (reached_next f n g r mine)

-- ---- slices

locals_add : (is : List Instr) (start f : Frame) (count : ℕ) → locals is start count ≡ Some f → (n : ℕ) → locals is start (count + n) ≡ locals is f n
locals_add is start f count e zero =
    let none : count + 0 ≡ count = omega arith in
    ap (locals is start) none ∙ e
locals_add is start f count e (suc n) =
    let one : count + suc n ≡ suc (count + n) = omega arith in
    ap (locals is start) one ∙ ap (and_local is) (locals_add is start f count e n)

-- what is known of a slice after n local instructions more
pub record Goes (p : Program) (t : ℕ) (start : Frame) (count : ℕ) (n : ℕ) (g : Frame) : Type 0 where
  pub few : count + n ≤ 1000000
  pub kept : IsSlice p t start g (count + n)

module _ (p : Program) (t : ℕ) (start f : Frame) (count : ℕ) (h : IsSlice p t start f count) where
  -- the function stays the same
  same_code : code p f ≡ code p start
  same_code = ap (λ n. (routine p n).code) (beside-locals (code p start) start count f h.local).function

  pub slice_safe : (is : List Instr) → is ≡ code p start → AreSafe p is f
  slice_safe is own = are_safe p t h.lawful f is (own ∙ sym same_code) h.reached

  pub goes : (is : List Instr) → is ≡ code p start → (n : ℕ) (g : Frame) → locals is f n ≡ Some g → Goes p t start count n g
  unfolding reached_next
  goes is own n g e =
      let mine : locals (code p f) f n ≡ Some g = ap (λ js. locals js f n) (sym (own ∙ sym same_code)) ∙ e in
      let r = reached_next p t h.lawful f n g h.reached mine in
      let before = h.taken in
      let more : r.steps ≡ h.reached.steps + n = refl in
      let most = within_limit p h.lawful.limits r.events r.view r.steps r.stands in
      let from : locals (code p start) f n ≡ Some g = ap (λ js. locals js f n) (sym own) ∙ e in
      record {
        few = omega (arith, before, more, most);
        kept = record {
          lawful = h.lawful;
          local = locals_add (code p start) start f count h.local n ∙ from;
          reached = r;
          taken = omega (arith, before, more);
        };
      }
