use Rattle.std.proofs.Common.{◌≡◌, ◌<◌, ◌∙◌, refl, ap, length, arith}
use Rattle.sts_model.specs.Effect.{with_phase}
use Rattle.sts_model.specs.Living.{is_closed}
use Rattle.sts_model.specs.World.{World, scope_at}
use Rattle.sts_world.specs.Ends.{KnowsEnds}
use Rattle.sts_world.specs.Kept.{IsKept}
use Rattle.sts_world.specs.Lines.{lines}
use Rattle.sts_world.proofs.Ends.{ends_scope}
use Rattle.sts_world.proofs.Worlds.{kept_phase, enough}
use Rattle.sts_world.proofs.world.World.set_phase.Goals.{After-unless-then-s-scopes_born}
use Rattle.sts_world.proofs.world.World.set_phase.Goals as goal

-- the invariant, said of the world that is seen
kept : (c : After-unless-then-s-scopes_born) → IsKept (lines c.args.self.now) c.self.inside.families.items c.self.inside.tallies.items
    c.self.inside.standing_tasks c.self.inside.standing_scopes
kept c = rw (← c.self.view_is) c.self.invariant.0

born : (c : After-unless-then-s-scopes_born) → c.args.s < length c.args.self.now.scopes
born c = omega (arith, c.scopes_born.ensures.value, c.if-s-scopes_born.true, ap (λ (v : World). length v.scopes) c.self.view_is)

was : (c : After-unless-then-s-scopes_born) → c.is_closed-was_closed.result ≡ is_closed (scope_at c.args.self.now c.args.s).phase
was c = c.is_closed-was_closed.ensures ∙ ap is_closed c.phase.ensures
    ∙ ap (λ (v : World). is_closed (scope_at v c.args.s).phase) c.self.view_is

pub overflow_sub-self : goal.overflow_sub-self
overflow_sub-self c =
    rw (c.unless-then-s-scopes_born.ensures, c.unless.ensures, was c, c.subtask_count-subtasks.ensures.value)
    (enough c.args.self.now _ _ _ _ _ _ c.args.s c.is_closed-closed.result (born c) c.standing_tasks-tasks.ensures.value
    c.standing_scopes-scopes.ensures.value (kept c)).0

pub invariant_of-self : goal.invariant_of-self
invariant_of-self c =
    let path = (goal.at.invariant_of-self c).After-unless-then-s-scopes_born in
    let after = c.set_phase.ensures ∙ ap (λ (v : World). with_phase v c.args.s c.args.phase) c.self.view_is in
    let known : KnowsEnds c.args.self.now c.self.inside.was_told.items = rw (← c.self.view_is) c.self.invariant.1 in
    let less = c.unless-then-s-scopes_born.ensures in
    let one = c.unless-then-s-scopes_born-2.ensures in
    let one_less = c.unless-then-s-scopes_born-3.ensures in (
      rw (less, c.unless.ensures, one, one_less, was path, c.is_closed-closed.ensures, c.subtask_count-subtasks.ensures.value)
          (kept_phase c.args.self.now _ _ _ _ _ _ _ c.args.s c.args.phase after (born path) c.standing_tasks-tasks.ensures.value
          c.standing_scopes-scopes.ensures.value (kept path)),
      ends_scope c.args.self.now _ _ c.args.s _ after refl known,
    )
