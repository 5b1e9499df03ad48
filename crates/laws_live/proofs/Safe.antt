-- Misuse as the view shows it.
use Rattle.std.proofs.Common.{◌≡◌, ℕ, List, [], ◌∷◌, ◌++◌, Bool, true, false, Option, Some, None}
use Rattle.std.proofs.Common.{refl, sym, ◌∙◌, ap, subst, length, ◌&&◌, ◌||◌, not, nat_lt, nat_le}
use Rattle.std.specs.Prelude.{is_none}
use Rattle.sts_code.specs.Program.{Program}
use Rattle.sts_code.specs.declared.instr.Instr.{Instr}
use Rattle.sts_code.specs.declared.instr.Instr.TheVariants.{Open, Fork, Join, Close, Get, Except, Tally, Total, Read}
use Rattle.sts_model.specs.declared.event.Event.{Event}
use Rattle.sts_model.specs.declared.event.Event.TheVariants as event
use Rattle.sts_model.specs.declared.event.Fault.{Fault}
use Rattle.sts_model.specs.declared.event.End.{End}
use Rattle.sts_model.specs.declared.record.Slot.{Slot}
use Rattle.sts_model.specs.declared.record.Slot.TheVariants.{Own, Sub}
use Rattle.sts_model.specs.declared.record.Frame.{Frame}
use Rattle.sts_model.specs.declared.record.Scope.{Scope}
use Rattle.sts_model.specs.World.{World, Running, Faulted, task_at, scope_at, instr_at}
use Rattle.sts_model.specs.Environment.{read}
use Rattle.sts_model.specs.Living.{lives, is_closed, parent, scope_of, sub_state}
use Rattle.sts_model.specs.Standing.{stands_in, standing_tasks, standing_scopes}
use Rattle.sts_model.specs.Misuse.{slot, at_own, at_sub, misuse, misjoins, has_no_room, is_crowded, is_opened, is_readable, is_illegal, has_succeeded}
use Rattle.sts_model.specs.Misuse.{has_failed, breaks_structure, is_unbound, fault_at, IsFine}
use Rattle.sts_model.proofs.FineLemmas.{fine}
use Rattle.sts_model.specs.Waiting.{can_step}
use Rattle.sts_model.specs.Run.{apply, after}
use Rattle.sts_model.specs.Live.{Live, LiveTask, LiveScope, Alive, live, shown_scope}
use Rattle.laws_runs.specs.Runs.{In, NeverFaults}
use Rattle.std.proofs.lemmas.Bool.{and_parts}
use Rattle.laws_runs.proofs.RunLemmas.{after-append}
use Rattle.laws_live.specs.Effect.{live_state}
use Rattle.laws_live.specs.Waiting.{live_can_step}
use Rattle.laws_live.proofs.ViewLemmas.{scope_is, task_is, alive_is, count_is, tasks_born, scopes_born, tasks_stand, scopes_stand}
use Rattle.laws_live.proofs.EndLemmas.{open_some}
use Rattle.laws_live.proofs.EffectLemmas.{Facts}
use Rattle.laws_live.proofs.WaitingLemmas.{frame_is, can_is}
use Rattle.laws_live.proofs.LawLemmas.{facts-after}
use Rattle.laws_live.specs.Fine.{live_at_own, live_parent, live_at_sub, live_misjoins, live_has_no_room, live_is_illegal, live_breaks_structure}
use Rattle.laws_live.specs.Fine.{live_is_unbound, IsLiveFine, IsSafe, TurnsAreSafe}

-- ---- tests of what slots name

own_is : (w : World) (t x : ℕ) (test : ℕ → Scope → Bool) (seen : ℕ → LiveScope → Bool) → Facts w → lives (task_at w t) ≡ true → ((s : ℕ) → is_closed (scope_at w s).phase ≡ false → seen s (shown_scope (scope_at w s)) ≡ test s (scope_at w s)) → live_at_own (live w) (slot (task_at w t).frame x) seen ≡ at_own w (slot (task_at w t).frame x) test
own_is w t x test seen o alive same = by (slot (task_at w t).frame x) refl
  where
    by : (y : Slot) → slot (task_at w t).frame x ≡ y → live_at_own (live w) y seen ≡ at_own w y test
    by (Own s) e = let still = open_some w s ((o.named t x alive).own s e) in ap (seen s) (scope_is w s still) ∙ same s still
    by _ e = refl

parent_is : (w : World) (q : Option ℕ) → stands_in w q ≡ true → live_parent (live w) q ≡ shown_scope (parent w q)
parent_is w None stands = refl
parent_is w (Some s) stands = scope_is w s (open_some w s stands)

sub_is : (w : World) (t x : ℕ) (test : ℕ → Scope → Bool) (seen : ℕ → LiveScope → Bool) → Facts w → lives (task_at w t) ≡ true → ((u : ℕ) → live_state (live w) u ≡ sub_state w u → seen u (shown_scope (scope_of w u)) ≡ test u (scope_of w u)) → live_at_sub (live w) (slot (task_at w t).frame x) seen ≡ at_sub w (slot (task_at w t).frame x) test
sub_is w t x test seen o alive same = by (slot (task_at w t).frame x) refl
  where
    by : (y : Slot) → slot (task_at w t).frame x ≡ y → live_at_sub (live w) y seen ≡ at_sub w y test
    by (Sub u) e =
        let stands = (o.named t x alive).sub u e in
        let is = task_is w u stands in
        ap (λ (task : LiveTask). seen u (live_parent (live w) task.scope)) is
        ∙ ap (seen u) (parent_is w (task_at w u).scope stands)
        ∙ same u (ap (λ (task : LiveTask). task.state) is)
    by _ e = refl

-- ---- the rows

joins_is : (w : World) (t : ℕ) (i : Instr) → Facts w → lives (task_at w t) ≡ true → live_misjoins (live w) (task_at w t).frame i ≡ misjoins w (task_at w t).frame i
joins_is w t (Join x failed timeout interrupted) o alive = own_is w t x _ _ o alive (λ s still. refl)
joins_is w t i o alive = refl

room_is : (w : World) (f : Frame) (i : Instr) → live_has_no_room (live w) f i ≡ has_no_room w f i
room_is w f (Open x timed j) =
    ap (λ n. nat_le 16 (length f.entries) || is_crowded n (length (live w).scopes)) (scopes_stand w)
    ∙ ap (λ n. nat_le 16 (length f.entries) || is_crowded (standing_scopes w) n) (scopes_born w)
room_is w f (Fork x g h) = ap (λ n. is_crowded n (length (live w).tasks)) (tasks_stand w) ∙ ap (λ n. is_crowded (standing_tasks w) n) (tasks_born w)
room_is w f i = refl

legal_is : (p : Program) (w : World) (t : ℕ) (i : Instr) → Facts w → lives (task_at w t) ≡ true → live_is_illegal p (live w) (task_at w t).frame i ≡ is_illegal p w (task_at w t).frame i
legal_is p w t (Fork x g h) o alive = own_is w t x _ _ o alive (λ s still. refl)
legal_is p w t (Join x failed timeout i) o alive = own_is w t x _ _ o alive (λ s still. refl)
legal_is p w t (Close x) o alive = own_is w t x _ _ o alive (λ s still. ap (λ n. is_opened (scope_at w s).phase && nat_lt 0 n) (count_is w s still))
legal_is p w t (Tally x k) o alive = own_is w t x _ _ o alive (λ s still. refl)
legal_is p w t (Total x) o alive = own_is w t x _ _ o alive (λ s still. refl)
legal_is p w t (Get x) o alive = sub_is w t x _ _ o alive (λ u state. ap (λ (q : Option End). not (is_readable p.profile (scope_of w u) && has_succeeded q)) state)
legal_is p w t (Except x) o alive = sub_is w t x _ _ o alive (λ u state. ap (λ (q : Option End). not (is_readable p.profile (scope_of w u) && has_failed q)) state)
legal_is p w t i o alive = refl

structure_is : (w : World) (t : ℕ) (i : Instr) → Facts w → lives (task_at w t) ≡ true → live_breaks_structure (live w) (task_at w t).frame i ≡ breaks_structure w (task_at w t).frame i
structure_is w t (Fork x g h) o alive = own_is w t x _ _ o alive (λ s still. refl)
structure_is w t (Close x) o alive = own_is w t x _ _ o alive (λ s still. refl)
structure_is w t i o alive = refl

bound_is : (w : World) (t : ℕ) (i : Instr) → Facts w → lives (task_at w t) ≡ true → live_is_unbound (live w) t i ≡ is_unbound w t i
bound_is w t (Read k) o alive = ap (λ (a : Alive). is_none (read a.environment k)) (alive_is w t o.sound alive)
bound_is w t i o alive = refl

fine_is : (p : Program) (w : World) (t : ℕ) (i : Instr) → Facts w → lives (task_at w t) ≡ true → IsFine p w t (task_at w t).frame i → IsLiveFine p (live w) t (task_at w t).frame i
fine_is p w t i o alive is =
    record {
      operands = is.operands;
      room = is.room;
      loops = is.loops;
      slots = is.slots;
      joins = joins_is w t i o alive ∙ is.joins;
      births = room_is w (task_at w t).frame i ∙ is.births;
      own = is.own;
      legal = legal_is p w t i o alive ∙ is.legal;
      structure = structure_is w t i o alive ∙ is.structure;
      bound = bound_is w t i o alive ∙ is.bound;
    }

-- ---- what is next

-- a step that doesn't fault is no misuse
unmisused : (p : Program) (w x : World) (t : ℕ) → can_step p w t ≡ true → apply p (Running w) (event.Step t) ≡ Running x → misuse p w t ≡ None
unmisused p w x t can e = by (misuse p w t) refl
  where
    by : (m : Option Fault) → misuse p w t ≡ m → m ≡ None
    by None m = refl
    by (Some kind) m =
        let f : Frame = (task_at w t).frame in
        let faults : apply p (Running w) (event.Step t) ≡ Faulted kind t f.function f.pc = rw (can, m) refl in
        let never : Faulted kind t f.function f.pc ≡ Running x = sym faults ∙ e in
        cc

safe_is : (p : Program) (w : World) (t : ℕ) → Facts w → lives (task_at w t) ≡ true → misuse p w t ≡ None → (i : Option Instr) → instr_at p (task_at w t).frame ≡ i → IsSafe p (live w) t
safe_is p w t o alive m None e =
    let at_end : misuse p w t ≡ fault_at p w t (task_at w t).frame None = ap (fault_at p w t (task_at w t).frame) e in
    let never : None ≡ fault_at p w t (task_at w t).frame None = sym m ∙ at_end in
    cc
safe_is p w t o alive m (Some i) e =
    let f = frame_is w t o alive in
    record {
      instr = i;
      at = ap (instr_at p) f ∙ e;
      fine = subst (λ (g : Frame). IsLiveFine p (live w) t g i) (sym f) (fine_is p w t i o alive (fine p w t i m e));
    }

safe_at : (p : Program) (events : List Event) (w x : World) (t : ℕ) → after p events ≡ Running w → after p (events ++ event.Step t ∷ []) ≡ Running x → live_can_step p (live w) t ≡ true → IsSafe p (live w) t
safe_at p events w x t runs next can =
    let o : Facts w = subst (In Facts) runs (facts-after p events) in
    let able = can_too (can_step p w t) refl o in
    let e : apply p (Running w) (event.Step t) ≡ Running x = ap (λ s. apply p s (event.Step t)) (sym runs) ∙ sym (after-append p events (event.Step t ∷ [])) ∙ next in
    safe_is p w t o (and_parts (lives (task_at w t)) _ able).0 (unmisused p w x t able e) (instr_at p (task_at w t).frame) refl
  where
    can_too : (b : Bool) → can_step p w t ≡ b → Facts w → can_step p w t ≡ true
    can_too true e o = e
    can_too false e o = let still = (can_is p w t o).still e in cc

pub turns_are_safe : (p : Program) → NeverFaults p → TurnsAreSafe p
turns_are_safe p never events v n h t can =
    let next = never (events ++ event.Step t ∷ []) in
    subst (λ (a : Live). IsSafe p a t) h.view
    (safe_at p events h.world next.0 t h.runs next.1 (ap (λ (a : Live). live_can_step p a t) h.view ∙ can))
