use Rattle.std.proofs.Common.{◌≡◌, ◌∙◌, sym}
use Rattle.sts_model.specs.World.{World, task_at}
use Rattle.sts_world.proofs.Ends.{ends_open}
use Rattle.sts_world.proofs.Finds.{finds_scopes}
use Rattle.sts_world.proofs.Worlds.{kept_scope_born}
use Rattle.sts_world.proofs.world.World.open_scope.Goals.{After-standing_scopes-scopes}
use Rattle.sts_world.proofs.world.World.open_scope.Goals as goal

-- the number of scopes that count, before
count : (c : After-standing_scopes-scopes) → c.standing_scopes-scopes.result ≡ c.self.inside.standing_scopes
count c = c.standing_scopes-scopes.ensures.value ∙ finds_scopes c.self.inside.records ∙ sym c.self.invariant.0.scopes

pub invariant_of-self-3 : goal.invariant_of-self-3
invariant_of-self-3 c =
    let w : World = c.self.inside.records in
    let path = (goal.at.invariant_of-self-3 c).After-standing_scopes-scopes in
    let frame = (task_at w c.args.t).frame in
    let family = c.in_ok-push.ensures.items in
    let tally = c.in_ok-push-2.ensures.items in (
      rw (family, c.reserve.ensures.items, c.new.ensures, tally, c.reserve-2.ensures.items, c.new-2.ensures, count path)
          (kept_scope_born w c.open_scope.new.self _ _ _ _ c.args.t frame c.args.slot c.args.joiner c.args.timed
          c.in_ok-open_scope.ensures.ok c.self.invariant.0),
      ends_open w c.open_scope.new.self _ c.args.t frame c.args.slot c.args.joiner c.args.timed c.in_ok-open_scope.ensures.ok
          c.self.invariant.1,
    )

pub open_scope-requires : goal.open_scope-requires
open_scope-requires c =
    let e = c.self.view_is in
    let r = c.requires in
    record { born = rw e r.born; lives = rw e r.lives; more = rw e r.more; room = rw e r.room; entries = rw e r.entries }
