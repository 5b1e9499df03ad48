use Rattle.std.proofs.Common.{sym, ◌∙◌, arith}
use Rattle.std.specs.Prelude.{option_map}
use Rattle.std.proofs.lemmas.List.{length-map}
use Rattle.sts_tree.specs.Forest.{families_of, ready_of, scope_of}
use Rattle.sts_tree.specs.Stored.{link_at, tasks_of}
use Rattle.sts_tree.proofs.Rows.{more_families, more_scopes, scopes_are}
use Rattle.sts_tree.proofs.StepLemmas.{opened_one}
use Rattle.sts_tree.proofs.forest.Forest.open_scope.Goals as goal

pub invariant_of-self : goal.invariant_of-self
invariant_of-self g c =
    let i = opened_one (link_at c.self.inside.tasks.held.slots) (tasks_of c.self.inside.tasks.held.slots)
    (families_of c.self.inside.scopes.slots) c.self.inside.ready (ready_of c.self.inside.tasks.held.slots c.self.inside.ready)
    c.self.inside.tasks.held.room c.self.invariant in
    rw (c.push-birth.ensures.slots, c.empty.ensures.value, c.empty-2.ensures.value, c.new.ensures)
    (rw (more_families c.self.inside.scopes.slots _) i)

pub returns-clause-opened : goal.returns-clause-opened
returns-clause-opened g c =
    rw (
      ← c.self.view_is,
      c.push-birth.ensures.slots,
      c.push-birth.ensures.room,
      c.empty.ensures.value,
      c.empty-2.ensures.value,
      c.new.ensures,
    ) (scopes_are _ _ (more_scopes c.self.inside.scopes.slots _))

pub push-birth-requires-clause-room : goal.push-birth-requires-clause-room
push-birth-requires-clause-room g c = rw (← c.self.view_is) at c.requires.room

pub push-birth-requires-clause-births : goal.push-birth-requires-clause-births
push-birth-requires-clause-births g c =
    let born = rw (← c.self.view_is) at c.requires.born in
    let long = length-map c.self.inside.scopes.slots (option_map scope_of) in
    omega (arith, born, long)

pub returns-clause-birth : goal.returns-clause-birth
returns-clause-birth g c = rw (← c.self.view_is) (c.push-birth.ensures.birth ∙ sym (length-map c.self.inside.scopes.slots (option_map scope_of)))
