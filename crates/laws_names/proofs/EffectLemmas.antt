-- Each instruction leads from two states that are alike to two that are.
use Rattle.std.proofs.Common.{◌≡◌, ℕ, ◌+◌, List, [], ◌∷◌, ◌++◌, Bool, true, false, Option, Some, None}
use Rattle.std.proofs.Common.{refl, sym, ◌∙◌, ap, subst, length, arith, cond, ◌||◌, not, map, drop}
use Rattle.std.proofs.lemmas.Bool.{or_parts, not-false}
use Rattle.std.proofs.lemmas.List.{get_or_append_left}
use Rattle.std.specs.Prelude.{ℤ, pos, ◌-◌, ◌==◌, nat_le, unwrap_or, option_map, slice_set}
use Rattle.std.specs.Int.{int_wrapping_div, w64}
use Rattle.std.specs.Ordering.{int_eq}
use Rattle.sts_code.specs.Loops.{match_of}
use Rattle.sts_code.specs.Program.{Program, routine}
use Rattle.sts_code.specs.declared.instr.Instr.{Instr}
use Rattle.sts_code.specs.declared.instr.Instr.TheVariants as instr
use Rattle.sts_code.specs.declared.instr.Joiner.{Joiner}
use Rattle.sts_model.specs.declared.event.End.{End}
use Rattle.sts_model.specs.declared.event.End.TheVariants.{Success, Failed}
use Rattle.sts_model.specs.declared.event.Phase.{Phase}
use Rattle.sts_model.specs.declared.event.Phase.TheVariants.{Attempted, Joined, Closing, Closed}
use Rattle.sts_model.specs.declared.event.Verdict.{Verdict}
use Rattle.sts_model.specs.declared.event.Verdict.TheVariants as verdict
use Rattle.sts_model.specs.declared.record.Completion.{Completion}
use Rattle.sts_model.specs.declared.record.Entry.{Entry}
use Rattle.sts_model.specs.declared.record.Entry.TheVariants as entry
use Rattle.sts_model.specs.declared.record.Frame.{Frame}
use Rattle.sts_model.specs.declared.record.Loop.{Loop}
use Rattle.sts_model.specs.declared.record.Scope.{Scope}
use Rattle.sts_model.specs.declared.record.Slot.{Slot}
use Rattle.sts_model.specs.declared.record.Slot.TheVariants.{Empty, Own, Lent, Sub}
use Rattle.sts_model.specs.declared.record.Task.{Task}
use Rattle.sts_model.specs.World.{World, task_at, scope_at, no_task, fresh_scope, with_task, with_scope, code}
use Rattle.sts_model.specs.Living.{lives, any_lives, subtask_count, sub_state, ends}
use Rattle.sts_model.specs.Local.{local, emptied_slot, operand, goes, steps, truth, clipped, turns}
use Rattle.sts_model.specs.Joining.{cancels, result_of}
use Rattle.sts_model.specs.Cancelling.{cancel}
use Rattle.sts_model.specs.Environment.{environment_of}
use Rattle.sts_model.specs.Effect.{named, with_phase, open_scope, with_slot, forked, subtask_of, fork_task, joined, join_verdict, join_scope, cleared, closed, close_scope}
use Rattle.sts_model.specs.Effect.{told, decide, complete, tell, ended, end_task, tally, total, case_target, value_or_zero, moved, effect}
use Rattle.sts_model.specs.Misuse.{slot, is_scope, is_sub, has_wrong_slot}
use Rattle.sts_model.proofs.LivesLemmas.{born_alive, cancel_alive}
use Rattle.laws_names.specs.Names.{Names, IsAlike, live_part, plain_part, named_slot, named_entry, named_frame, named_task, named_scope, named_completion, is_reading}
use Rattle.laws_names.proofs.NameLemmas.{map_set, map_drop, map_push}
use Rattle.laws_names.proofs.AlikeLemmas.{same_scope, same_alive, same_made, alike_task, alike_frame, alike_scope, alike_more_tasks, alike_more_scopes, alike_cond, alike_cancel, cancelled_same}
use Rattle.laws_names.proofs.ReadLemmas.{any_lives_same, subtask_count_same, ends_same, sub_state_same, tally_same, total_same, slot_named, cleared_same}

-- ---- names of slots

scope_name : (n : Names) (x : Slot) → is_scope x ≡ true → named (named_slot n x) ≡ n.scopes (named x)
scope_name n Empty e = cc
scope_name n (Own s) e = refl
scope_name n (Lent s) e = refl
scope_name n (Sub t) e = cc

sub_name : (n : Names) (x : Slot) → is_sub x ≡ true → named (named_slot n x) ≡ n.tasks (named x)
sub_name n Empty e = cc
sub_name n (Own s) e = cc
sub_name n (Lent s) e = cc
sub_name n (Sub t) e = refl

scope_at_slot : (n : Names) (f : Frame) (x : ℕ) (b c : Bool) → (not (is_scope (slot f x)) || b || c) ≡ false → named (slot (named_frame n f) x) ≡ n.scopes (named (slot f x))
scope_at_slot n f x b c e =
    let h = or_parts (not (is_scope (slot f x))) b (or_parts (not (is_scope (slot f x)) || b) c e).0 in
    ap named (slot_named n f x) ∙ scope_name n (slot f x) (not-false (is_scope (slot f x)) h.0)

sub_at_slot : (n : Names) (f : Frame) (x : ℕ) (b c : Bool) → (b || not (is_sub (slot f x)) || c) ≡ false → named (slot (named_frame n f) x) ≡ n.tasks (named (slot f x))
sub_at_slot n f x b c e =
    let h = or_parts b (not (is_sub (slot f x))) (or_parts (b || not (is_sub (slot f x))) c e).0 in
    ap named (slot_named n f x) ∙ sub_name n (slot f x) (not-false (is_sub (slot f x)) h.1)

with_slot_named : (n : Names) (xs : List Slot) (h : Option ℕ) (x : Slot) → with_slot (map (named_slot n) xs) h (named_slot n x) ≡ map (named_slot n) (with_slot xs h x)
with_slot_named n xs None x = refl
with_slot_named n xs (Some k) x = sym (map_set (named_slot n) xs k x)

-- ---- instructions in the frame

cond_named : (n : Names) (b : Bool) (f g f' g' : Frame) → f' ≡ named_frame n f → g' ≡ named_frame n g → cond b f' g' ≡ named_frame n (cond b f g)
cond_named n true f g f' g' h k = h
cond_named n false f g f' g' h k = k

turns_named : (n : Names) (f : Frame) (ls : List Loop) → turns (named_frame n f) ls ≡ named_frame n (turns f ls)
turns_named n f [] = refl
turns_named n f (l ∷ ls) = cond_named n (nat_le l.left 1) (record (steps f 0 []) { loops = ls }) (record f { pc = l.at + 1; loops = record l { left = l.left - 1 } ∷ ls }) (record (steps (named_frame n f) 0 []) { loops = ls }) (record (named_frame n f) { pc = l.at + 1; loops = record l { left = l.left - 1 } ∷ ls }) refl refl

local_named : (n : Names) (is : List Instr) (f : Frame) (i : Instr) → local is i (named_frame n f) ≡ named_frame n (local is i f)
local_named n is f (instr.Div to) = cond_named n (int_eq (operand f 0) (pos 0)) (goes f to 2 []) (steps f 2 (int_wrapping_div w64 (operand f 1) (operand f 0) ∷ [])) (goes (named_frame n f) to 2 []) (steps (named_frame n f) 2 (int_wrapping_div w64 (operand f 1) (operand f 0) ∷ [])) refl refl
local_named n is f (instr.Times k) = cond_named n (clipped k (operand f 0) == 0) (goes f (unwrap_or (match_of is f.pc) 0 + 1) 1 []) (record (steps f 1 []) { loops = record { at = f.pc; left = clipped k (operand f 0) } ∷ f.loops }) (goes (named_frame n f) (unwrap_or (match_of is f.pc) 0 + 1) 1 []) (record (steps (named_frame n f) 1 []) { loops = record { at = f.pc; left = clipped k (operand f 0) } ∷ f.loops }) refl refl
local_named n is f instr.Next = turns_named n f f.loops
local_named n is f i = ap (λ (xs : List Slot). record (local is i (named_frame n f)) { slots = xs }) (with_slot_named n f.slots (emptied_slot i) Empty)

-- ---- scopes

alike_phase : (n : Names) (w v : World) → IsAlike n w v → (s : ℕ) (phase : Phase) → IsAlike n (with_phase w s phase) (with_phase v (n.scopes s) phase)
alike_phase n w v a s phase = alike_scope n w v a s (record (scope_at w s) { phase = phase }) (record (scope_at v (n.scopes s)) { phase = phase }) (ap (λ (x : Scope). record x { phase = phase }) (a.scope s))

alike_open : (n : Names) (w v : World) → IsAlike n w v → (t : ℕ) (f : Frame) (x : ℕ) (joiner : Joiner) (timed : Bool) → lives (task_at w t) ≡ true → IsAlike n (open_scope w t f x joiner timed) (open_scope v (n.tasks t) (named_frame n f) x joiner timed)
unfolding open_scope
alike_open n w v a t f x joiner timed alive =
    let g = named_frame n f in
    let here : Scope = fresh_scope t joiner timed (environment_of (task_at w t) w) in
    let there : Scope = fresh_scope (n.tasks t) joiner timed (environment_of (task_at v (n.tasks t)) v) in
    let m : ℕ = length w.scopes in
    let same : length v.scopes ≡ n.scopes m = a.named.scopes_born ∙ sym (a.named.later_scopes m (omega arith)) in
    let after : Frame = record (steps f 0 []) { entries = entry.Scope m ∷ f.entries; slots = slice_set f.slots x (Own m) } in
    alike_frame n (record w { scopes = w.scopes ++ here ∷ [] }) (record v { scopes = v.scopes ++ there ∷ [] }) (alike_more_scopes n w v a here there refl) t after
    (record (steps g 0 []) { entries = entry.Scope (length v.scopes) ∷ g.entries; slots = slice_set g.slots x (Own (length v.scopes)) }) alive
    (ap (λ (k : ℕ). record (steps g 0 []) { entries = entry.Scope k ∷ g.entries; slots = slice_set g.slots x (Own k) }) same
    ∙ ap (λ (xs : List Slot). record (steps g 0 []) { entries = entry.Scope (n.scopes m) ∷ g.entries; slots = xs }) (sym (map_set (named_slot n) f.slots x (Own m))))

alike_fork : (p : Program) (n : Names) (w v : World) → IsAlike n w v → (t : ℕ) (f : Frame) (s m : ℕ) (h : Option ℕ) → lives (task_at w t) ≡ true → IsAlike n (fork_task p w t f s m h) (fork_task p v (n.tasks t) (named_frame n f) (n.scopes s) m h)
unfolding fork_task
alike_fork p n w v a t f s m h alive =
    let g = named_frame n f in
    let x : Task = subtask_of p w f s m in
    let y : Task = subtask_of p v g (n.scopes s) m in
    let made : y ≡ named_task n x = ap (λ (b : Bool). record (named_task n x) { started = not b }) (cancelled_same n w v a s) in
    let c : ℕ = length w.tasks in
    let same : length v.tasks ≡ n.tasks c = a.named.tasks_born ∙ sym (a.named.later_tasks c (omega arith)) in
    alike_frame n (record w { tasks = w.tasks ++ x ∷ [] }) (record v { tasks = v.tasks ++ y ∷ [] }) (alike_more_tasks n w v a x y (ap live_part made ∙ same_made n x)) t
    (forked f (routine p m).args h c) (forked g (routine p m).args h (length v.tasks))
    (ap lives (get_or_append_left w.tasks (x ∷ []) no_task t (born_alive w t alive)) ∙ alive)
    (ap (λ (k : ℕ). forked g (routine p m).args h k) same
    ∙ ap (λ (xs : List Slot). record (steps g (routine p m).args []) { slots = xs }) (with_slot_named n f.slots h (Sub c)))

alike_joined : (n : Names) (w v : World) → IsAlike n w v → (t s : ℕ) (f : Frame) → lives (task_at w t) ≡ true → IsAlike n (joined w t s f) (joined v (n.tasks t) (n.scopes s) (named_frame n f))
alike_joined n w v a t s f alive = alike_frame n (with_phase w s Joined) (with_phase v (n.scopes s) Joined) (alike_phase n w v a s Joined) t f (named_frame n f) alive refl

alike_verdict : (o : Verdict) (n : Names) (w v : World) → IsAlike n w v → (t s : ℕ) (f : Frame) (failed : ℕ) → lives (task_at w t) ≡ true → IsAlike n (join_verdict o w t s f failed) (join_verdict o v (n.tasks t) (n.scopes s) (named_frame n f) failed)
alike_verdict (verdict.Ok None) n w v a t s f failed alive = alike_joined n w v a t s (steps f 0 []) alive
alike_verdict (verdict.Ok (Some k)) n w v a t s f failed alive = alike_joined n w v a t s (steps f 0 (k ∷ [])) alive
alike_verdict (verdict.Failed c) n w v a t s f failed alive = alike_joined n w v a t s (goes f failed 0 (c ∷ [])) alive

-- a task whose flag is taken, with this frame
alike_unflagged : (n : Names) (w v : World) → IsAlike n w v → (t : ℕ) (f g : Frame) → lives (task_at w t) ≡ true → g ≡ named_frame n f
    → IsAlike n (with_task w t (record (task_at w t) { frame = f; flag = false })) (with_task v (n.tasks t) (record (task_at v (n.tasks t)) { frame = g; flag = false }))
alike_unflagged n w v a t f g alive same =
    let x = task_at w t in
    alike_task n w v a t (record x { frame = f; flag = false }) (record (task_at v (n.tasks t)) { frame = g; flag = false })
    (ap live_part (ap (λ (z : Task). record z { frame = g; flag = false }) (same_alive n x (task_at v (n.tasks t)) (a.task t) alive) ∙ ap (λ (z : Frame). record (named_task n x) { frame = z; flag = false }) same)
    ∙ same_made n (record x { frame = f; flag = false }))

alike_join : (n : Names) (w v : World) → IsAlike n w v → (t : ℕ) (f : Frame) (s failed timeout interrupted : ℕ) → lives (task_at w t) ≡ true
    → IsAlike n (join_scope w t f s failed timeout interrupted) (join_scope v (n.tasks t) (named_frame n f) (n.scopes s) failed timeout interrupted)
unfolding join_scope
alike_join n w v a t f s failed timeout interrupted alive =
    let g = named_frame n f in
    let u = n.tasks t in
    let r = n.scopes s in
    let x = scope_at w s in
    let y = scope_at v r in
    let rest : Bool → Verdict → World = λ (b : Bool) (o : Verdict). cond b (join_verdict o v u r g failed) (with_task (with_phase v r Attempted) u (record (task_at v u) { frame = goes g interrupted 0 []; flag = false })) in
    let answer : Verdict = result_of x.joiner (ends x) (subtask_count w s) in
    let expired : y.expired ≡ x.expired = ap (λ (z : Scope). z.expired) (a.scope s) in
    let can_go : (y.cancelled || not (any_lives v r)) ≡ (x.cancelled || not (any_lives w s)) = ap (λ (b : Bool). b || not (any_lives v r)) (cancelled_same n w v a s) ∙ ap (λ (b : Bool). x.cancelled || not b) (any_lives_same n w v a s) in
    let answers : result_of y.joiner (ends y) (subtask_count v r) ≡ answer =
    ap (λ (z : Scope). result_of z.joiner (ends y) (subtask_count v r)) (a.scope s)
    ∙ ap (λ (es : List End). result_of x.joiner es (subtask_count v r)) (ends_same n w v a s)
    ∙ ap (λ (k : ℕ). result_of x.joiner (ends x) k) (subtask_count_same n w v a s) in
    let there : join_scope v u g r failed timeout interrupted ≡ cond x.expired (joined v u r (goes g timeout 0 [])) (rest (x.cancelled || not (any_lives w s)) answer) =
    ap (λ (b : Bool). cond b (joined v u r (goes g timeout 0 [])) (rest (y.cancelled || not (any_lives v r)) (result_of y.joiner (ends y) (subtask_count v r)))) expired
    ∙ ap (λ (b : Bool). cond x.expired (joined v u r (goes g timeout 0 [])) (rest b (result_of y.joiner (ends y) (subtask_count v r)))) can_go
    ∙ ap (λ (o : Verdict). cond x.expired (joined v u r (goes g timeout 0 [])) (rest (x.cancelled || not (any_lives w s)) o)) answers in
    subst (λ (z : World). IsAlike n (join_scope w t f s failed timeout interrupted) z) (sym there)
    (alike_cond n x.expired (joined w t s (goes f timeout 0 [])) (joined v u r (goes g timeout 0 []))
    (cond (x.cancelled || not (any_lives w s)) (join_verdict answer w t s f failed) (with_task (with_phase w s Attempted) t (record (task_at w t) { frame = goes f interrupted 0 []; flag = false })))
    (rest (x.cancelled || not (any_lives w s)) answer)
    (alike_joined n w v a t s (goes f timeout 0 []) alive)
    (alike_cond n (x.cancelled || not (any_lives w s)) (join_verdict answer w t s f failed) (join_verdict answer v u r g failed)
    (with_task (with_phase w s Attempted) t (record (task_at w t) { frame = goes f interrupted 0 []; flag = false }))
    (with_task (with_phase v r Attempted) u (record (task_at v u) { frame = goes g interrupted 0 []; flag = false }))
    (alike_verdict answer n w v a t s f failed alive)
    (alike_unflagged n (with_phase w s Attempted) (with_phase v r Attempted) (alike_phase n w v a s Attempted) t (goes f interrupted 0 []) (goes g interrupted 0 []) alive refl)))

-- a close after the cancel
abbrev pub closing : ℕ → Frame → ℕ → World → World
closing u f s w = cond (any_lives w s) (with_phase w s Closing) (closed w u f s)

alike_closed : (n : Names) (w v : World) → IsAlike n w v → (t : ℕ) (f : Frame) (s : ℕ) → lives (task_at w t) ≡ true → IsAlike n (closed w t f s) (closed v (n.tasks t) (named_frame n f) (n.scopes s))
alike_closed n w v a t f s alive =
    let g = named_frame n f in
    alike_frame n (with_phase w s Closed) (with_phase v (n.scopes s) Closed) (alike_phase n w v a s Closed) t
    (record (steps f 0 []) { entries = drop 1 f.entries; slots = cleared w s f.slots })
    (record (steps g 0 []) { entries = drop 1 g.entries; slots = cleared v (n.scopes s) g.slots }) alive
    (ap (λ (es : List Entry). record (steps g 0 []) { entries = es; slots = cleared v (n.scopes s) g.slots }) (sym (map_drop (named_entry n) 1 f.entries))
    ∙ ap (λ (xs : List Slot). record (steps g 0 []) { entries = map (named_entry n) (drop 1 f.entries); slots = xs }) (cleared_same n w v a s f.slots))

alike_closing : (n : Names) (w v : World) → IsAlike n w v → (t : ℕ) (f : Frame) (s : ℕ) → lives (task_at w t) ≡ true → IsAlike n (closing t f s w) (closing (n.tasks t) (named_frame n f) (n.scopes s) v)
alike_closing n w v a t f s alive =
    let there : closing (n.tasks t) (named_frame n f) (n.scopes s) v ≡ cond (any_lives w s) (with_phase v (n.scopes s) Closing) (closed v (n.tasks t) (named_frame n f) (n.scopes s)) =
    ap (λ (b : Bool). cond b (with_phase v (n.scopes s) Closing) (closed v (n.tasks t) (named_frame n f) (n.scopes s))) (any_lives_same n w v a s) in
    subst (λ (z : World). IsAlike n (closing t f s w) z) (sym there)
    (alike_cond n (any_lives w s) (with_phase w s Closing) (with_phase v (n.scopes s) Closing) (closed w t f s) (closed v (n.tasks t) (named_frame n f) (n.scopes s))
    (alike_phase n w v a s Closing) (alike_closed n w v a t f s alive))

alike_close : (n : Names) (w v : World) → IsAlike n w v → (t : ℕ) (f : Frame) (s : ℕ) → lives (task_at w t) ≡ true → IsAlike n (close_scope w t f s) (close_scope v (n.tasks t) (named_frame n f) (n.scopes s))
unfolding close_scope
alike_close n w v a t f s alive = alike_closing n (cancel w s) (cancel v (n.scopes s)) (alike_cancel n w v a s) t f s (cancel_alive w s t ∙ alive)

-- ---- the end of a task

alike_told : (n : Names) (w v : World) → IsAlike n w v → (s t : ℕ) (end : End) → IsAlike n (with_scope w s (told (scope_at w s) t end)) (with_scope v (n.scopes s) (told (scope_at v (n.scopes s)) (n.tasks t) end))
alike_told n w v a s t end =
    let x = scope_at w s in
    alike_scope n w v a s (told x t end) (told (scope_at v (n.scopes s)) (n.tasks t) end)
    (ap (λ (z : Scope). told z (n.tasks t) end) (a.scope s)
    ∙ ap (λ (cs : List Completion). record (named_scope n (plain_part x)) { completions = cs }) (sym (map_push (named_completion n) x.completions (record { task = t; end = end }))))

alike_decide : (n : Names) (w v : World) → IsAlike n w v → (s : ℕ) → IsAlike n (decide w s) (decide v (n.scopes s))
alike_decide n w v a s =
    let x = scope_at w s in
    let y = scope_at v (n.scopes s) in
    let same : cancels y.joiner (ends y) ≡ cancels x.joiner (ends x) = ap (λ (z : Scope). cancels z.joiner (ends y)) (a.scope s) ∙ ap (λ (es : List End). cancels x.joiner es) (ends_same n w v a s) in
    subst (λ (b : Bool). IsAlike n (decide w s) (cond b (cancel v (n.scopes s)) v)) (sym same)
    (alike_cond n (cancels x.joiner (ends x)) (cancel w s) (cancel v (n.scopes s)) w v (alike_cancel n w v a s) a)

alike_complete : (n : Names) (w v : World) → IsAlike n w v → (t s : ℕ) (end : End) → IsAlike n (complete w t s end) (complete v (n.tasks t) (n.scopes s) end)
alike_complete n w v a t s end =
    let x = told (scope_at w s) t end in
    let y = told (scope_at v (n.scopes s)) (n.tasks t) end in
    subst (λ (b : Bool). IsAlike n (complete w t s end) (cond b v (decide (with_scope v (n.scopes s) y) (n.scopes s)))) (sym (cancelled_same n w v a s))
    (alike_cond n (scope_at w s).cancelled w v (decide (with_scope w s x) s) (decide (with_scope v (n.scopes s) y) (n.scopes s)) a
    (alike_decide n (with_scope w s x) (with_scope v (n.scopes s) y) (alike_told n w v a s t end) s))

alike_tell : (n : Names) (w v : World) → IsAlike n w v → (t : ℕ) (o : Option ℕ) (end : End) → IsAlike n (tell w t o end) (tell v (n.tasks t) (option_map n.scopes o) end)
alike_tell n w v a t None end = a
alike_tell n w v a t (Some s) end = alike_complete n w v a t s end

alike_end : (n : Names) (w v : World) → IsAlike n w v → (t : ℕ) (f : Frame) (end : End) → lives (task_at w t) ≡ true → IsAlike n (end_task w t f end) (end_task v (n.tasks t) (named_frame n f) end)
unfolding end_task
alike_end n w v a t f end alive =
    let x = task_at w t in
    let u = n.tasks t in
    let y = task_at v u in
    let g = named_frame n f in
    let after : Task = record x { frame = steps f 1 []; outcome = Some end } in
    let finished : IsAlike n (ended w t f end) (ended v u g end) = alike_task n w v a t after (record y { frame = steps g 1 []; outcome = Some end })
    (ap live_part (ap (λ (z : Task). record z { frame = steps g 1 []; outcome = Some end }) (same_alive n x y (a.task t) alive)) ∙ same_made n after) in
    subst (λ (o : Option ℕ). IsAlike n (end_task w t f end) (tell (ended v u g end) u o end)) (sym (same_scope n x y (a.task t)))
    (alike_tell n (ended w t f end) (ended v u g end) finished t x.scope end)

-- ---- an instruction that finds the slots that it needs

state_at_slot : (n : Names) (w v : World) → IsAlike n w v → (f : Frame) (h : ℕ) → (false || not (is_sub (slot f h)) || false) ≡ false → sub_state v (named (slot (named_frame n f) h)) ≡ sub_state w (named (slot f h))
state_at_slot n w v a f h slots = ap (sub_state v) (sub_at_slot n f h false false slots) ∙ sub_state_same n w v a (named (slot f h))

moved_named : (p : Program) (n : Names) (w v : World) → IsAlike n w v → (t : ℕ) (f : Frame) (i : Instr) → has_wrong_slot f i ≡ false → is_reading i ≡ false → moved p v (n.tasks t) (named_frame n f) i ≡ named_frame n (moved p w t f i)
moved_named p n w v a t f (instr.Cancelled s) slots quiet =
    ap (λ (r : ℕ). steps (named_frame n f) 0 (truth (scope_at v r).cancelled ∷ [])) (ap named (slot_named n f s) ∙ scope_name n (slot f s) (not-false (is_scope (slot f s)) slots))
    ∙ ap (λ (b : Bool). steps (named_frame n f) 0 (truth b ∷ [])) (cancelled_same n w v a (named (slot f s)))
moved_named p n w v a t f (instr.Case h success failed) slots quiet = ap (λ (o : Option End). goes (named_frame n f) (case_target o success failed (f.pc + 1)) 0 []) (state_at_slot n w v a f h slots)
moved_named p n w v a t f (instr.Get h) slots quiet = ap (λ (o : Option End). steps (named_frame n f) 0 (value_or_zero o ∷ [])) (state_at_slot n w v a f h slots)
moved_named p n w v a t f (instr.Except h) slots quiet = ap (λ (o : Option End). steps (named_frame n f) 0 (value_or_zero o ∷ [])) (state_at_slot n w v a f h slots)
moved_named p n w v a t f (instr.Tally s k) slots quiet = ap (λ (m : ℕ). steps (named_frame n f) 0 (pos m ∷ [])) (ap (λ (r : ℕ). tally v r k) (scope_at_slot n f s _ _ slots) ∙ tally_same n w v a (named (slot f s)) k)
moved_named p n w v a t f (instr.Total s) slots quiet = ap (λ (z : ℤ). steps (named_frame n f) 0 (z ∷ [])) (ap (total v) (scope_at_slot n f s _ _ slots) ∙ total_same n w v a (named (slot f s)))
moved_named p n w v a t f (instr.Read k) slots quiet = cc
moved_named p n w v a t f (instr.Bound k) slots quiet = cc
moved_named p n w v a t f (instr.OrElse k) slots quiet = cc
moved_named p n w v a t f i slots quiet = local_named n (code p f) f i

pub alike_effect : (p : Program) (n : Names) (w v : World) → IsAlike n w v → (t : ℕ) (f : Frame) (i : Instr) → lives (task_at w t) ≡ true → has_wrong_slot f i ≡ false → is_reading i ≡ false
    → IsAlike n (effect p w t f i) (effect p v (n.tasks t) (named_frame n f) i)
alike_effect p n w v a t f (instr.Open s timed joiner) alive slots quiet = alike_open n w v a t f s joiner timed alive
alike_effect p n w v a t f (instr.Fork s m h) alive slots quiet =
    subst (λ (r : ℕ). IsAlike n (fork_task p w t f (named (slot f s)) m h) (fork_task p v (n.tasks t) (named_frame n f) r m h)) (sym (scope_at_slot n f s _ _ slots)) (alike_fork p n w v a t f (named (slot f s)) m h alive)
alike_effect p n w v a t f (instr.Join s failed timeout interrupted) alive slots quiet =
    subst (λ (r : ℕ). IsAlike n (join_scope w t f (named (slot f s)) (unwrap_or failed 0) (unwrap_or timeout 0) interrupted) (join_scope v (n.tasks t) (named_frame n f) r (unwrap_or failed 0) (unwrap_or timeout 0) interrupted)) (sym (scope_at_slot n f s _ _ slots))
    (alike_join n w v a t f (named (slot f s)) (unwrap_or failed 0) (unwrap_or timeout 0) interrupted alive)
alike_effect p n w v a t f (instr.Close s) alive slots quiet =
    subst (λ (r : ℕ). IsAlike n (close_scope w t f (named (slot f s))) (close_scope v (n.tasks t) (named_frame n f) r)) (sym (scope_at_slot n f s _ _ slots)) (alike_close n w v a t f (named (slot f s)) alive)
alike_effect p n w v a t f (instr.Bind k) alive slots quiet = alike_frame n w v a t _ _ alive refl
alike_effect p n w v a t f instr.Unbind alive slots quiet =
    let g = named_frame n f in
    alike_frame n w v a t (record (steps f 0 []) { entries = drop 1 f.entries }) (record (steps g 0 []) { entries = drop 1 g.entries }) alive
    (ap (λ (es : List Entry). record (steps g 0 []) { entries = es }) (sym (map_drop (named_entry n) 1 f.entries)))
alike_effect p n w v a t f instr.Interrupted alive slots quiet =
    let g = named_frame n f in
    let flag : (task_at v (n.tasks t)).flag ≡ (task_at w t).flag = ap (λ (z : Task). z.flag) (same_alive n (task_at w t) (task_at v (n.tasks t)) (a.task t) alive) in
    alike_unflagged n w v a t (steps f 0 (truth (task_at w t).flag ∷ [])) (steps g 0 (truth (task_at v (n.tasks t)).flag ∷ [])) alive (ap (λ (b : Bool). steps g 0 (truth b ∷ [])) flag)
alike_effect p n w v a t f instr.Ret alive slots quiet = alike_end n w v a t f (Success (operand f 0)) alive
alike_effect p n w v a t f instr.Fail alive slots quiet = alike_end n w v a t f (Failed (operand f 0)) alive
alike_effect p n w v a t f i alive slots quiet = alike_frame n w v a t (moved p w t f i) (moved p v (n.tasks t) (named_frame n f) i) alive (moved_named p n w v a t f i slots quiet)
