use Rattle.std.proofs.Common.{◌≡◌, length, refl, sym, None}
use Rattle.std.proofs.lemmas.List.{map-set}
use Rattle.std.specs.Prelude.{option_map}
use Rattle.sts_links.specs.Lists.{IsList}
use Rattle.sts_tree.specs.Births.{births}
use Rattle.sts_tree.specs.Forest.{families_of, family_of, scope_of, is_of}
use Rattle.sts_tree.specs.Stored.{link_at, tasks_of}
use Rattle.sts_tree.proofs.ClosedLemmas.{Closes, closes}
use Rattle.sts_tree.proofs.Rows.{family_at}
use Rattle.sts_tree.proofs.forest.Forest.close_scope.Goals.{After-record-row}
use Rattle.sts_tree.proofs.forest.Forest.close_scope.Goals as goal

-- the list of the scope's subtasks, and how many they are
forks : (g : _) (c : After-record-row g)
    → IsList (link_at c.self.inside.tasks.held.slots 0) c.record-row.result.now.forks (births (is_of c.args.s) 0 (tasks_of c.self.inside.tasks.held.slots))
    × (length (births (is_of c.args.s) 0 (tasks_of c.self.inside.tasks.held.slots)) ≡ c.record-row.result.now.fork_count)
forks g c =
    let row = family_of c.record-row.result.now in
    let f = family_at c.self.inside.scopes.slots c.args.s c.record-row.result.now c.record-row.ensures in
    (c.self.invariant.forks c.args.s row f, sym (c.self.invariant.counts c.args.s row f))

pub remove_all-requires : goal.remove_all-requires
remove_all-requires g c =
    let l = forks g (goal.at.remove_all-requires g c).After-record-row in
    (births (is_of c.args.s) 0 (tasks_of c.self.inside.tasks.held.slots), l.0, l.1)

after : (g : _) (c : goal.After-remove_all g)
    → Closes c.self.inside.tasks.held.slots c.remove_all.new.tasks.held.slots (families_of c.self.inside.scopes.slots) c.self.inside.ready
    c.self.inside.tasks.held.room c.args.s
after g c =
    let l = forks g (goal.at.returns g c).After-record-row in
    let gone = c.remove_all.ensures.slots (births (is_of c.args.s) 0 (tasks_of c.self.inside.tasks.held.slots)) l.0 l.1 in
    closes c.self.inside.tasks.held.slots c.remove_all.new.tasks.held.slots (families_of c.self.inside.scopes.slots) c.self.inside.ready
    c.self.inside.tasks.held.room c.args.s c.self.invariant (rw (← c.self.view_is) at c.requires.waits) gone

pub invariant_of-self : goal.invariant_of-self
invariant_of-self g c =
    let count = sym (forks g (goal.at.invariant_of-self g c).After-record-row).1 in
    let rows = map-set (option_map family_of) c.self.inside.scopes.slots c.args.s None in
    rw (c.remove_all.ensures.room, c.discard.ensures.slots, count, rows) (after g c).is

pub returns : goal.returns
returns g c =
    let a = after g c in
    let count = sym (forks g (goal.at.returns g c).After-record-row).1 in
    let gone = c.remove_all.ensures in
    let row = c.discard.ensures in
    let scopes = map-set (option_map scope_of) c.self.inside.scopes.slots c.args.s None in
    rw (← c.self.view_is, a.tasks, a.keys_are, gone.room, gone.keys, row.slots, row.keys, row.room, count, scopes) refl
