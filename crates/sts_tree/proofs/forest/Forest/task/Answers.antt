use Rattle.std.proofs.Common.{◌≡◌, None, sym, ◌∙◌, ap, get_or}
use Rattle.std.specs.Prelude.{option_map}
use Rattle.sts_links.proofs.ChainLemmas.{without_link}
use Rattle.sts_tree.specs.Forest.{ready_of}
use Rattle.sts_tree.specs.Stored.{link_at, task_of, tasks_of}
use Rattle.sts_tree.proofs.HoldingLemmas.{map_at, no_link}
use Rattle.sts_tree.proofs.KeyLemmas.{not_has}
use Rattle.sts_tree.proofs.Rows.{scope_there}
use Rattle.sts_tree.proofs.Stores.{task_at}
use Rattle.sts_tree.proofs.forest.Forest.task.Goals as goal

pub returns-in-None-clause-marked : goal.returns-in-None-clause-marked
returns-in-None-clause-marked g c =
    let slots = c.self.inside.tasks.held.slots in
    let out = without_link (link_at slots 2) c.args.t None (ready_of slots c.self.inside.ready) None
    (no_link slots 2 c.args.t (sym c.in-None.ensures)) c.self.invariant.is_ready.linked in
    let none : get_or (tasks_of slots) c.args.t None ≡ None =
    map_at task_of slots c.args.t ∙ ap (option_map task_of) (sym c.in-None.ensures) in
    rw (← c.self.view_is) (rw none (not_has c.args.t _ out))

pub returns-in-Some-clause-marked : goal.returns-in-Some-clause-marked
returns-in-Some-clause-marked g c =
    let slots = c.self.inside.tasks.held.slots in
    let there = task_at slots c.args.t c.in-Some.r.now (sym c.in-Some.ensures) in
    rw (← c.self.view_is) (rw there (sym (c.self.invariant.flags c.args.t c.in-Some.r.now.task there)))

pub returns-in-Some-clause-home : goal.returns-in-Some-clause-home
returns-in-Some-clause-home g c x s is scope =
    rw (← c.self.view_is) (scope_there c.self.inside.scopes.slots s (c.self.invariant.homes c.args.t s x (rw (← c.self.view_is) at is) scope))

pub returns-in-None-clause-value : goal.returns-in-None-clause-value
returns-in-None-clause-value g c =
    let slots = c.self.inside.tasks.held.slots in
    let none : get_or (tasks_of slots) c.args.t None ≡ None = map_at task_of slots c.args.t ∙ ap (option_map task_of) (sym c.in-None.ensures) in
    rw (← c.self.view_is) (sym none)

pub returns-in-Some-clause-value : goal.returns-in-Some-clause-value
returns-in-Some-clause-value g c = rw (← c.self.view_is) (sym (task_at c.self.inside.tasks.held.slots c.args.t c.in-Some.r.now (sym c.in-Some.ensures)))

pub returns-in-None-clause-home : goal.returns-in-None-clause-home
returns-in-None-clause-home g c x s is scope =
    rw (← c.self.view_is) (scope_there c.self.inside.scopes.slots s (c.self.invariant.homes c.args.t s x (rw (← c.self.view_is) at is) scope))
