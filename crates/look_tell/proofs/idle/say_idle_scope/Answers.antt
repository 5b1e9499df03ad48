use Rattle.std.proofs.Common.{◌≡◌, ◌∙◌, true, false, sym}
use Rattle.std.proofs.lemmas.Result.{on_ok_weaker}
use Rattle.std.specs.Fmt.{decimal}
use Rattle.std.specs.Prelude.{codes}
use Rattle.look_tell.specs.Line.{has_scope}
use Rattle.look_tell.proofs.Parts.{after_number}
use Rattle.look_tell.proofs.idle.say_idle_scope.Goals as goal

pub returns-in_ok-say_numbered : goal.returns-in_ok-say_numbered
returns-in_ok-say_numbered c =
    let known : has_scope c.args.story.now c.args.s ≡ true = sym c.has_scope.ensures ∙ c.if-has_scope.true in
    rw known (on_ok_weaker c.say.result
    (λ h. after_number c.args.out.now.items (codes "scope ") (decimal c.args.s) _ _ _ c.in_ok-say_numbered.ensures h)
    c.say.ensures)

pub returns-else-has_scope : goal.returns-else-has_scope
returns-else-has_scope c =
    let known : has_scope c.args.story.now c.args.s ≡ false = sym c.has_scope.ensures ∙ c.if-has_scope.false in
    rw known c.say_numbered-else-has_scope.ensures
