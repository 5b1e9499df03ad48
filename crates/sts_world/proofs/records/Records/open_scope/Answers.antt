use Rattle.std.proofs.Common.{◌≡◌, ℕ, ◌+◌, ◌^◌, ◌<◌, ◌∙◌, sym, ap, length, ◌++◌, arith, List, map, refl, subst, true, get_or, slice_index_or}
use Rattle.std.proofs.lemmas.Result.{err_from_is_err_and}
use Rattle.std.proofs.lemmas.List.{get_or_default, length-map, length-set, length-append}
use Rattle.sts_code.specs.declared.limits.TheConstants.{MAX_BIRTHS, MAX_ENTRIES}
use Rattle.sts_model.specs.Environment.{own_bindings}
use Rattle.sts_model.specs.Living.{lives}
use Rattle.sts_model.specs.World.{World, no_task, task_at}
use Rattle.sts_model.specs.declared.record.Scope.{Scope}
use Rattle.sts_model.specs.declared.record.Task.{Task}
use Rattle.sts_world.specs.Chains.{bindings_of}
use Rattle.sts_world.specs.Scopes.{front_of, shown}
use Rattle.sts_world.proofs.Scoping.{shown_grown, within_grown, within_push, opened}
use Rattle.sts_world.proofs.records.Records.open_scope.Goals.{After-index-arg-2-1, After-index_mut, After-self}
use Rattle.sts_world.proofs.records.Records.open_scope.Goals as goal

pub returns-in_err-front-clause-err : goal.returns-in_err-front-clause-err
returns-in_err-front-clause-err c =
    let p = err_from_is_err_and c.from_residual.result c.from_residual.ensures.1 in
    rw (p.1, ← c.self.view_is) (ap (λ (ss : List Scope). record { tasks = c.self.inside.tasks.items; scopes = ss }) (shown_grown
    c.self.inside.chains c.environment.new.chains c.self.inside.scopes.items c.self.invariant.2 c.environment.ensures.grows))

pub returns-in_err-push-clause-err : goal.returns-in_err-push-clause-err
returns-in_err-push-clause-err c =
    let p = err_from_is_err_and c.from_residual-in_err-push.result c.from_residual-in_err-push.ensures.1 in
    rw (p.1, ← c.self.view_is, c.in_err-push.ensures.items) (ap
    (λ (ss : List Scope). record { tasks = c.self.inside.tasks.items; scopes = ss }) (shown_grown c.self.inside.chains
    c.environment.new.chains c.self.inside.scopes.items c.self.invariant.2 c.environment.ensures.grows))

pub invariant_of-self-2 : goal.invariant_of-self-2
invariant_of-self-2 c =
    let room : length (map (shown c.self.inside.chains) c.self.inside.scopes.items) < MAX_BIRTHS =
    subst (λ (w : World). length w.scopes < MAX_BIRTHS) (sym c.self.view_is) c.requires.room in
    let few : length c.self.inside.scopes.items < MAX_BIRTHS =
    omega (arith, room, length-map c.self.inside.scopes.items (shown c.self.inside.chains)) in (
      simp length-set c.self.invariant.0,
      rw c.in_ok-push.ensures.items (simp length-append (omega arith)),
      rw c.in_ok-push.ensures.items (within_push c.environment.new.chains c.self.inside.scopes.items _ (within_grown c.self.inside.chains
          c.environment.new.chains c.self.inside.scopes.items c.self.invariant.2 c.environment.ensures.grows) c.in_ok-front.ensures.within),
    )

-- the task was born, and it is read and written at its birth
born : (c : After-self) → c.args.opening.owner < length c.self.inside.tasks.items
born c = subst (λ (w : World). c.args.opening.owner < length w.tasks) (sym c.self.view_is) c.requires.born

own : (tasks : List Task) (t : ℕ) (here : Task) → t < length tasks → here ≡ get_or tasks t here → here ≡ slice_index_or tasks t no_task
own tasks t here born is = is ∙ get_or_default tasks t here no_task born

pub index-requires : goal.index-requires
index-requires c = let b = born (goal.at.index-requires c).After-self in omega (arith, b)

pub index-requires-2 : goal.index-requires-2
index-requires-2 c = let b = born (goal.at.index-requires-2 c).After-self in omega (arith, b)

-- the innermost binding that the task inherited
rest : (c : After-index-arg-2-1)
    → c.front_of-rest.result ≡ front_of c.self.inside.scopes.items (slice_index_or c.self.inside.tasks.items c.args.opening.owner no_task).scope
rest c =
    let b = born (goal.at.index-requires-2 c).After-self in
    let here = own c.self.inside.tasks.items c.args.opening.owner c.index.result.now b c.index.ensures in
    rw (c.front_of-rest.ensures, c.deref.ensures.value, c.scope.ensures, here) refl

pub index_mut-requires : goal.index_mut-requires
index_mut-requires c = let b = born (goal.at.index_mut-requires c).After-self in omega (arith, b)

-- the task as it was, and what is known of it
written : (c : After-index_mut) → c.index_mut.result.now ≡ slice_index_or c.self.inside.tasks.items c.args.opening.owner no_task
written c =
    let b = born (goal.at.leave_open-requires-clause-lives c).After-self in
    own c.self.inside.tasks.items c.args.opening.owner c.index_mut.result.now b c.index_mut.ensures.value

pub leave_open-requires-clause-lives : goal.leave_open-requires-clause-lives
leave_open-requires-clause-lives c =
    let path = (goal.at.leave_open-requires-clause-lives c).After-index_mut in
    ap lives (written path) ∙ subst (λ (w : World). lives (task_at w c.args.opening.owner) ≡ true) (sym c.self.view_is) c.requires.lives

pub leave_open-requires-clause-more : goal.leave_open-requires-clause-more
leave_open-requires-clause-more c =
    let path = (goal.at.leave_open-requires-clause-more c).After-index_mut in
    subst (λ (k : Task). k.frame.pc + 1 < 2 ^ 32) (sym (written path))
    (subst (λ (w : World). (task_at w c.args.opening.owner).frame.pc + 1 < 2 ^ 32) (sym c.self.view_is) c.requires.more)

pub leave_open-requires-clause-entries : goal.leave_open-requires-clause-entries
leave_open-requires-clause-entries c =
    let path = (goal.at.leave_open-requires-clause-entries c).After-index_mut in
    subst (λ (k : Task). length k.frame.entries < MAX_ENTRIES) (sym (written path))
    (subst (λ (w : World). length (task_at w c.args.opening.owner).frame.entries < MAX_ENTRIES) (sym c.self.view_is) c.requires.entries)

-- the environment of the scope
list : (c : goal.After-self-1)
    → bindings_of c.environment.new.chains c.in_ok-front.front
    ≡ own_bindings (slice_index_or c.self.inside.tasks.items c.args.opening.owner no_task) ++ bindings_of c.self.inside.chains c.front_of-rest.result
list c =
    let b = born (goal.at.returns-clause-ok c).After-self in
    let here = own c.self.inside.tasks.items c.args.opening.owner c.index-2.result.now b c.index-2.ensures in
    rw here at c.in_ok-front.ensures.list

pub returns-clause-ok : goal.returns-clause-ok
returns-clause-ok c =
    let path = goal.at.returns-clause-ok c in
    let birth : c.len-s.result ≡ length c.self.inside.scopes.items = omega (arith, c.len-s.ensures, c.self.inside.scopes.ok) in
    rw (← c.self.view_is, c.in_ok-push.ensures.items, c.new.ensures, c.leave_open.ensures, written path.After-index_mut)
    (opened c.self.inside.tasks.items c.self.inside.chains c.environment.new.chains c.self.inside.scopes.items c.args.opening.owner c.len-s.result
    c.args.opening.slot c.args.opening.joiner c.args.opening.timed c.in_ok-front.front c.front_of-rest.result c.self.invariant.2 c.environment.ensures.grows
    birth (rest path.After-index-arg-2-1) (list c))
