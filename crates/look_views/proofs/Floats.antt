-- No line has a float, so its text is known byte for byte.
use Rattle.std.proofs.Common.{◌≡◌, ℕ, ◌+◌, ℤ, List, [], ◌∷◌, ◌++◌, reverse, Option, Some, None, Bool, true, false, ◌&&◌, if◌then◌else◌, refl}
use Rattle.std.proofs.lemmas.Bool.{or_from}
use Rattle.serde_json.specs.Data.{Data}
use Rattle.serde_json.specs.View.{items_of}
use Rattle.serde_json.specs.Written.{has_float, items_have_float}
use Rattle.sts_code.specs.Program.{Program}
use Rattle.sts_model.specs.declared.event.End.{End}
use Rattle.sts_model.specs.declared.event.End.TheVariants.{Success, Failed}
use Rattle.sts_model.specs.declared.event.Stand.{Stand}
use Rattle.sts_model.specs.declared.event.Stand.TheVariants.{Free}
use Rattle.sts_model.specs.declared.record.Completion.{Completion}
use Rattle.sts_model.specs.declared.record.Scope.{Scope}
use Rattle.sts_model.specs.declared.record.Task.{Task}
use Rattle.sts_model.specs.World.{World, scope_at, task_at}
use Rattle.sts_model.specs.Living.{is_closed, lives}
use Rattle.sts_model.specs.Waiting.{can_step, stand_at}
use Rattle.sts_model.specs.Environment.{environment_of, read}
use Rattle.sts_plain.specs.Seen.{shown}
use Rattle.sts_plain.specs.declared.misstep.PlainState.{PlainState}
use Rattle.sts_plain.specs.declared.misstep.PlainState.TheVariants as plain
use Rattle.sts_asm.specs.Fault.{code_error}
use Rattle.sts_asm.specs.declared.fault.AsmError.{AsmError}
use Rattle.sts_trace.specs.declared.error.TraceError.{TraceError}
use Rattle.look_cases.proofs.FloatLemmas.{integer_plain, maybe_plain, text_fault_plain, trace_fault_plain}
use Rattle.look_cases.proofs.FloatLemmas as answers
use Rattle.look_lines.specs.Lines.{is_heard, keys}
use Rattle.look_lines.specs.Watched.{Watched}
use Rattle.look_options.specs.declared.views.ViewOptions.{ViewOptions}
use Rattle.look_lines.specs.declared.watch.Applied.{Applied}
use Rattle.look_names.specs.Names.{value_name}
use Rattle.look_views.proofs.NamedFloatLemmas.{integers_plain, named_plain, placed_plain}
use Rattle.look_views.specs.Scope as scope
use Rattle.look_views.specs.Task as task
use Rattle.look_views.specs.Views as def

either_plain : (b : Bool) (x y : Data) → has_float x ≡ false → has_float y ≡ false → has_float (if b then x else y) ≡ false
either_plain true x y h k = h
either_plain false x y h k = k

-- ---- a task

waiting_plain : (stand : Stand) → has_float (task.waiting stand) ≡ false
waiting_plain Free = refl
waiting_plain _ = refl

ended_plain : (text : List ℕ) (heard : Bool) (end : Option End) → has_float (task.ended text heard end) ≡ false
ended_plain text heard None = refl
ended_plain text heard (Some (Success v)) = named_plain _ (value_name text v) _ (or_from _ _ (integer_plain v) refl)
ended_plain text heard (Some (Failed c)) = named_plain _ (value_name text c) _ (or_from _ _ (integer_plain c) refl)

rest_plain : (text : List ℕ) (w : World) (t : ℕ) → has_float (task.rest text w t) ≡ false
rest_plain text w t = either_plain (task_at w t).started _ _ (ended_plain text (is_heard w t (task_at w t).scope) (task_at w t).outcome) refl

state_plain : (text : List ℕ) (p : Program) (w : World) (t : ℕ) → has_float (task.state text p w t) ≡ false
state_plain text p w t =
    either_plain (lives (task_at w t)) _ _
    (either_plain (can_step p w t) _ _ refl (waiting_plain (stand_at p w t)))
    (rest_plain text w t)

one_more_plain : (k : ℕ) (v : Option ℤ) (ds : List Data) → items_have_float (items_of ds) ≡ false → items_have_float (items_of (task.maybe_binding k v ++ ds)) ≡ false
one_more_plain k None ds h = h
one_more_plain k (Some v) ds h = or_from _ _ (or_from _ _ (integer_plain v) refl) h

bindings_plain : (w : World) (t : ℕ) (ks : List ℕ) → items_have_float (items_of (task.bindings w t ks)) ≡ false
bindings_plain w t [] = refl
bindings_plain w t (k ∷ ks) = one_more_plain k (read (environment_of (task_at w t) w) k) (task.bindings w t ks) (bindings_plain w t ks)

frame_plain : (w : World) (t : ℕ) → has_float (task.frame w t) ≡ false
frame_plain w t =
    or_from _ _ (bindings_plain w t keys)
    (or_from _ _ (integers_plain (task_at w t).frame.locals)
    (or_from _ _ (integers_plain (reverse (task_at w t).frame.operands)) refl))

brief_plain : (text : List ℕ) (p : Program) (w : World) (t : ℕ) → has_float (task.brief text p w t) ≡ false
brief_plain text p w t = or_from _ _ (state_plain text p w t) (or_from _ _ (maybe_plain (task_at w t).scope) refl)

whole_plain : (text : List ℕ) (p : Program) (w : World) (t : ℕ) → has_float (task.whole text p w t) ≡ false
whole_plain text p w t = or_from _ _ (frame_plain w t) (brief_plain text p w t)

-- one value more, if there is one
more_plain : (b : Bool) (x : Data) (ds : List Data) → has_float x ≡ false → items_have_float (items_of ds) ≡ false → items_have_float (items_of ((if b then x ∷ [] else []) ++ ds)) ≡ false
more_plain true x ds h k = or_from _ _ h k
more_plain false x ds h k = k

unless_plain : (b : Bool) (x : Data) (ds : List Data) → has_float x ≡ false → items_have_float (items_of ds) ≡ false → items_have_float (items_of ((if b then [] else x ∷ []) ++ ds)) ≡ false
unless_plain true x ds h k = k
unless_plain false x ds h k = or_from _ _ h k

plain_task_plain : (text : List ℕ) (p : Program) (full : Bool) (w : World) (t : ℕ) → has_float (task.plain_task text p full w t) ≡ false
plain_task_plain text p full w t = either_plain (full && lives (task_at w t)) _ _ (whole_plain text p w t) (brief_plain text p w t)

task_plain : (text : List ℕ) (p : Program) (full : Bool) (w : World) (t : ℕ) → has_float (task.task text p full w t) ≡ false
task_plain text p full w t = placed_plain text (task_at w t).frame.function (task.shown_place (task_at w t)) _ (plain_task_plain text p full w t)

tasks_plain : (text : List ℕ) (p : Program) (full : Bool) (w : World) (ts : List Task) (t : ℕ) → items_have_float (items_of (task.tasks text p full w ts t)) ≡ false
tasks_plain text p full w [] t = refl
tasks_plain text p full w (x ∷ xs) t =
    or_from _ _ (task_plain text p full w t) (tasks_plain text p full w xs (t + 1))

living_tasks_plain : (text : List ℕ) (p : Program) (full : Bool) (w : World) (ts : List Task) (t : ℕ) → items_have_float (items_of (task.living_tasks text p full w ts t)) ≡ false
living_tasks_plain text p full w [] t = refl
living_tasks_plain text p full w (x ∷ xs) t =
    more_plain (lives (task_at w t)) (task.task text p full w t) (task.living_tasks text p full w xs (t + 1))
    (task_plain text p full w t) (living_tasks_plain text p full w xs (t + 1))

-- ---- a scope

told_by_plain : (text : List ℕ) (t : ℕ) (end : End) → has_float (scope.told_by text t end) ≡ false
told_by_plain text t (Success v) = named_plain _ (value_name text v) _ (or_from _ _ (integer_plain v) refl)
told_by_plain text t (Failed c) = named_plain _ (value_name text c) _ (or_from _ _ (integer_plain c) refl)

told_plain : (text : List ℕ) (cs : List Completion) → items_have_float (items_of (scope.told_ends text cs)) ≡ false
told_plain text [] = refl
told_plain text (c ∷ cs) = or_from _ _ (told_by_plain text c.task c.end) (told_plain text cs)

scope_plain : (text : List ℕ) (full : Bool) (w : World) (s : ℕ) → has_float (scope.scope text full s (scope_at w s)) ≡ false
scope_plain text full w s = either_plain full _ _ (or_from _ _ (told_plain text (scope_at w s).completions) refl) refl

scopes_plain : (text : List ℕ) (full : Bool) (w : World) (ss : List Scope) (s : ℕ) → items_have_float (items_of (scope.scopes text full w ss s)) ≡ false
scopes_plain text full w [] s = refl
scopes_plain text full w (x ∷ xs) s =
    or_from _ _ (scope_plain text full w s) (scopes_plain text full w xs (s + 1))

open_scopes_plain : (text : List ℕ) (full : Bool) (w : World) (ss : List Scope) (s : ℕ) → items_have_float (items_of (scope.open_scopes text full w ss s)) ≡ false
open_scopes_plain text full w [] s = refl
open_scopes_plain text full w (x ∷ xs) s =
    unless_plain (is_closed (scope_at w s).phase) (scope.scope text full s (scope_at w s)) (scope.open_scopes text full w xs (s + 1))
    (scope_plain text full w s) (open_scopes_plain text full w xs (s + 1))

-- ---- a view

end_plain : (text : List ℕ) (end : End) (steps : ℕ) → has_float (def.named_end text end steps) ≡ false
end_plain text (Success v) steps = named_plain _ (value_name text v) _ (answers.ended_plain (Success v) steps)
end_plain text (Failed c) steps = named_plain _ (value_name text c) _ (answers.ended_plain (Failed c) steps)

run_plain : (text : List ℕ) (p : Program) (state : PlainState) (steps : ℕ) → has_float (def.run text p state steps) ≡ false
run_plain text p plain.Running steps = refl
run_plain text p (plain.Ended end) steps = end_plain text end steps
run_plain text p (plain.Fault kind task f pc) steps = placed_plain text f pc _ refl

whole_state_plain : (text : List ℕ) (full : Bool) (n : ℕ) (m : Watched) → has_float (def.whole_state text full n m) ≡ false
whole_state_plain text full n m =
    or_from _ _ (run_plain text m.program (shown m.state) m.steps)
    (or_from _ _ (scopes_plain text full m.last m.last.scopes 0)
    (or_from _ _ (tasks_plain text m.program full m.last m.last.tasks 0) refl))

living_state_plain : (text : List ℕ) (full : Bool) (n : ℕ) (m : Watched) → has_float (def.living_state text full n m) ≡ false
living_state_plain text full n m =
    or_from _ _ (run_plain text m.program (shown m.state) m.steps)
    (or_from _ _ (open_scopes_plain text full m.last m.last.scopes 0)
    (or_from _ _ (living_tasks_plain text m.program full m.last m.last.tasks 0) refl))

pub state_view_plain : (text : List ℕ) (wanted : ViewOptions) (n : ℕ) (m : Watched) → has_float (def.state_view text wanted n m) ≡ false
state_view_plain text wanted n m =
    either_plain wanted.living _ _ (living_state_plain text wanted.full n m) (whole_state_plain text wanted.full n m)

pub event_view_plain : (text : List ℕ) (wanted : ViewOptions) (a : Applied) (m : Watched) → has_float (def.event_view text wanted a m) ≡ false
event_view_plain text wanted a m =
    either_plain wanted.living _ _ (living_state_plain text wanted.full a.number m) (whole_state_plain text wanted.full a.number m)

-- ---- a fault

pub text_line_plain : (e : AsmError) → has_float (def.text_line e) ≡ false
text_line_plain e = or_from _ _ (text_fault_plain e (code_error e.kind)) refl

pub trace_line_plain : (e : TraceError) → has_float (def.trace_line e) ≡ false
trace_line_plain e = or_from _ _ (trace_fault_plain e) refl
