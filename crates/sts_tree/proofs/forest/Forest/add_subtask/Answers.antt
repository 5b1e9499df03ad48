use Rattle.std.proofs.Common.{◌+◌, refl, sym, ◌∙◌, arith}
use Rattle.std.specs.Prelude.{option_map}
use Rattle.std.proofs.lemmas.List.{length-map}
use Rattle.sts_tree.specs.Births.{births}
use Rattle.sts_tree.specs.Forest.{families_of, is_of, lives_in, family_of, subtask}
use Rattle.sts_tree.specs.Stored.{task_of, tasks_of}
use Rattle.sts_tree.proofs.Adds.{Added, adds, few_forks, WithoutNext, without_next}
use Rattle.sts_tree.proofs.Rows.{family_at, set_family, same_scopes}
use Rattle.sts_tree.proofs.forest.Forest.add_subtask.Goals.{After-at-row}
use Rattle.sts_tree.proofs.forest.Forest.add_subtask.Goals as goal

-- the lists of the scope, before the subtask is appended
lists : (g : _) (c : After-at-row g)
    → WithoutNext c.self.inside.tasks.held.slots c.push-birth.new.self.slots c.args.s c.push-birth.result (family_of c.at-row.result.now)
lists g c =
    let f = family_at c.self.inside.scopes.slots c.args.s c.at-row.result.now c.at-row.ensures.value in
    without_next c.self.inside.tasks.held.slots c.push-birth.new.self.slots (families_of c.self.inside.scopes.slots) c.self.inside.ready
    c.self.inside.tasks.held.room c.args.s c.push-birth.result (family_of c.at-row.result.now) _ c.self.invariant f
    c.push-birth.ensures.birth c.push-birth.ensures.slots

pub push_back-row-requires-clause-list : goal.push_back-row-requires-clause-list
push_back-row-requires-clause-list g c =
    let k = (lists g (goal.at.push_back-row-requires-clause-list g c).After-at-row).forks in
    (births (is_of c.args.s) 0 (tasks_of c.self.inside.tasks.held.slots), k.0, k.1)

pub push_if-row-requires-clause-list : goal.push_if-row-requires-clause-list
push_if-row-requires-clause-list g c =
    let slots = c.self.inside.tasks.held.slots in
    let l = lists g (goal.at.push_if-row-requires-clause-list g c).After-at-row in
    let forked = c.push_back-row.ensures.list (births (is_of c.args.s) 0 (tasks_of slots)) l.forks.0 l.forks.1 in
    let living = forked.others 1 c.at-row.result.now.living _ l.living.0 (λ e. absurd (omega (arith, e))) in
    (births (lives_in c.args.s) 0 (tasks_of slots), living, l.living.1)

pub overflow_add-row : goal.overflow_add-row
overflow_add-row g c =
    let f = family_at c.self.inside.scopes.slots c.args.s c.at-row.result.now c.at-row.ensures.value in
    let few = few_forks c.self.inside.tasks.held.slots (families_of c.self.inside.scopes.slots) c.self.inside.ready
    c.self.inside.tasks.held.room c.args.s (family_of c.at-row.result.now) c.self.invariant f in
    omega (arith, few)

after : (g : _) (c : goal.After-self-1 g)
    → Added c.self.inside.tasks.held.slots c.push_if-row.new.tasks.held.slots (families_of c.self.inside.scopes.slots) c.self.inside.ready
    c.self.inside.tasks.held.room c.args.s (family_of (record c.at-row.result.now
    { forks = c.push_back-row.result; fork_count = c.at-row.result.now.fork_count + 1; living = c.push_if-row.result }))
    (subtask c.args.s c.args.lives)
after g c =
    let slots = c.self.inside.tasks.held.slots in
    let f = family_at c.self.inside.scopes.slots c.args.s c.at-row.result.now c.at-row.ensures.value in
    let l = lists g (goal.at.invariant_of-self g c).After-at-row in
    let forked = c.push_back-row.ensures.list (births (is_of c.args.s) 0 (tasks_of slots)) l.forks.0 l.forks.1 in
    let living = forked.others 1 c.at-row.result.now.living _ l.living.0 (λ e. absurd (omega (arith, e))) in
    let lived = c.push_if-row.ensures.list (births (lives_in c.args.s) 0 (tasks_of slots)) living l.living.1 in
    adds slots c.push-birth.new.self.slots c.push_back-row.new.store.held.slots c.push_if-row.new.tasks.held.slots
    (families_of c.self.inside.scopes.slots) c.self.inside.ready c.self.inside.tasks.held.room c.args.s c.push-birth.result
    (family_of c.at-row.result.now) _ _ c.push_back-row.result c.push_if-row.result c.self.invariant f
    (rw (← c.self.view_is) at c.requires.room) (rw (← c.self.view_is) at c.requires.born) refl refl refl
    c.push-birth.ensures.birth c.push-birth.ensures.slots forked lived c.push_back-row.ensures.rest.tasks c.push_if-row.ensures.rest.tasks

pub invariant_of-self : goal.invariant_of-self
invariant_of-self g c =
    let a = after g c in
    let room = c.push_if-row.ensures.rest.room ∙ c.push_back-row.ensures.rest.room ∙ c.push-birth.ensures.room in
    rw (set_family c.self.inside.scopes.slots c.args.s _, room) a.is

pub returns-clause-added : goal.returns-clause-added
returns-clause-added g c =
    let a = after g c in
    let room = c.push_if-row.ensures.rest.room ∙ c.push_back-row.ensures.rest.room ∙ c.push-birth.ensures.room in
    let scopes = same_scopes c.self.inside.scopes.slots c.args.s c.at-row.result.now (record c.at-row.result.now
    { forks = c.push_back-row.result; fork_count = c.at-row.result.now.fork_count + 1; living = c.push_if-row.result })
    c.at-row.ensures.value refl in
    rw (← c.self.view_is, a.tasks, a.keys_are, scopes, room) refl

pub push-birth-requires-clause-room : goal.push-birth-requires-clause-room
push-birth-requires-clause-room g c = rw (← c.self.view_is) at c.requires.room

pub push-birth-requires-clause-births : goal.push-birth-requires-clause-births
push-birth-requires-clause-births g c =
    let born = rw (← c.self.view_is) at c.requires.born in
    let long = length-map c.self.inside.tasks.held.slots (option_map task_of) in
    omega (arith, born, long)

pub returns-clause-birth : goal.returns-clause-birth
returns-clause-birth g c = rw (← c.self.view_is) (c.push-birth.ensures.birth ∙ sym (length-map c.self.inside.tasks.held.slots (option_map task_of)))
