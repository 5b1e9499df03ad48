use Rattle.std.proofs.Common.{◌+◌, ◌≤◌, refl, sym, arith, length}
use Rattle.sts_joiners.specs.Tallied.{ends_told}
use Rattle.sts_tree.specs.Births.{births}
use Rattle.sts_tree.specs.Forest.{family_of, lives_in}
use Rattle.sts_tree.specs.Stored.{tasks_of}
use Rattle.sts_tree.proofs.Lookups.{no_subtasks}
use Rattle.sts_tree.proofs.Rows.{family_at, own_row, no_scope_there}
use Rattle.sts_tree.proofs.forest.Forest.subtasks.Goals as goal

pub returns-in-None : goal.returns-in-None
returns-in-None g c =
    record {
      value = rw (← c.self.view_is) (rw (no_subtasks c.self.inside.tasks.held.slots c.self.inside.scopes.slots c.self.inside.ready
          c.self.inside.tasks.held.room c.args.s c.self.invariant (sym c.in-None.ensures)) refl);
      told = λ x is. absurd (no_scope_there c.self.inside.scopes.slots c.args.s x (sym c.in-None.ensures) (rw (← c.self.view_is) at is));
    }

pub returns-in-Some : goal.returns-in-Some
returns-in-Some g c =
    let f = family_at c.self.inside.scopes.slots c.args.s c.in-Some.row.now (sym c.in-Some.ensures) in
    record {
      value = rw (← c.self.view_is) (c.self.invariant.counts c.args.s (family_of c.in-Some.row.now) f);
      told = λ x is.
          let own = own_row c.self.inside.scopes.slots c.args.s c.in-Some.row.now x (sym c.in-Some.ensures) (rw (← c.self.view_is) at is) in
          let told : ends_told c.in-Some.row.now.scope.tally + length
          (births (lives_in c.args.s) 0 (tasks_of c.self.inside.tasks.held.slots)) ≤ c.in-Some.row.now.fork_count =
          c.self.invariant.told c.args.s (family_of c.in-Some.row.now) f in
          rw (← own) (omega (arith, told));
    }
