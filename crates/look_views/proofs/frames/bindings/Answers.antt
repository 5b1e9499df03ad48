use Rattle.std.proofs.Common.{refl, sym, ap, ◌∙◌, get_or, rules, w64}
use mir.Val.{SFits}
use Rattle.std.proofs.lemmas.Int.{to_z-of_z}
use Rattle.std.proofs.lemmas.List.{at_drop_more}
use Rattle.serde_json.specs.View.{view}
use Rattle.sts_model.specs.Environment.{environment_of, read}
use Rattle.sts_model.specs.World.{task_at}
use Rattle.look_views.specs.Task.{binding, bindings, maybe_binding}
use Rattle.look_views.proofs.ListLemmas.{next_part, no_value, one_value}
use Rattle.look_views.proofs.frames.bindings.Goals.{in-Some+in_ok-binding+in_ok-push, in_default}
use Rattle.look_views.proofs.frames.bindings.Goals as goal

pub loop-key-preserved : goal.loop-key-preserved
loop-key-preserved c =
    let old = c.loop-key.list.items in
    let key = get_or c.args.keys.now c.loop-key.key-index 0 in
    let part = maybe_binding key (read (environment_of (task_at c.args.records.now c.args.t) c.args.records.now) key) in
    next_part view old c.match-read.list.items part _ _ _ c.loop-key.invariant
    (at_drop_more (bindings c.args.records.now c.args.t) c.args.keys.now c.loop-key.key-index 0 c.loop-key-test.true) (elim c.match-read.branch [
      | in-Some+in_ok-binding+in_ok-push w ↦ (let fits : SFits w64 w.in-Some.value = search rules in
          let made = w.in_ok-binding.ensures ∙ ap (binding key) (to_z-of_z w64 w.in-Some.value fits) in
          rw w.list-is (one_value view old w.push.new.self.items _ (binding key w.in-Some.value) part
          (ap (maybe_binding key) (sym c.read.ensures ∙ w.in-Some.is)) made w.in_ok-push.ensures.items))
      | in_default w ↦ rw w.list-is (no_value view old old part (ap (maybe_binding key) (sym c.read.ensures ∙ w.in_default.is)) refl)
    ])
