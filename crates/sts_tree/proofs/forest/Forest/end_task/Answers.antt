use Rattle.std.proofs.Common.{◌≡◌, Bool, true, refl, sym, ◌∙◌, ap, arith, cond, false, Option, Some, None, get_or, set, get_or-set_same, is_some}
use Rattle.std.specs.Prelude.{option_map}
use Rattle.sts_model.specs.declared.event.End.{End}
use Rattle.sts_tree.specs.Ending.{asks_in, asks_told, ended_in, owner_or, waiter_in}
use Rattle.sts_tree.specs.Forest.{families_of, family_of, ready_of}
use Rattle.sts_tree.specs.Stored.{task_of}
use Rattle.sts_tree.specs.declared.record.ScopeNode.{ScopeNode}
use Rattle.sts_tree.specs.declared.record.TaskNode.{TaskNode}
use Rattle.sts_tree.proofs.HoldingLemmas.{inside_of, map_at}
use Rattle.sts_tree.proofs.Removing.{none_of, ends_alone, row_stands, Ending, EndsIn, few_ends, fewer, living_with}
use Rattle.sts_tree.proofs.Rows.{family_at, scope_at, seen_row, set_family}
use Rattle.sts_tree.proofs.Stores.{Writes, own_task, seen_is, task_at}
use Rattle.sts_tree.proofs.Telling.{is_ended, one_more, tells_in}
use Rattle.sts_tree.proofs.forest.Forest.end_task.Goals.{After-at-row}
use Rattle.sts_tree.proofs.forest.Forest.end_task.Goals as goal

-- ---- a task of no scope

alone : (g : _) (c : goal.After-self-1 g)
    → Writes c.self.inside.tasks.held.slots
    (set c.self.inside.tasks.held.slots c.args.t (Some (record c.at.result.now { task = record c.at.result.now.task { lives = false } })))
    (families_of c.self.inside.scopes.slots) c.self.inside.ready c.self.inside.ready c.self.inside.tasks.held.room c.args.t
    (record c.at.result.now.task { lives = false }) (ready_of c.self.inside.tasks.held.slots c.self.inside.ready)
alone g c = ends_alone c.self.inside.tasks.held.slots (families_of c.self.inside.scopes.slots) c.self.inside.ready
    c.self.inside.tasks.held.room c.args.t c.at.result.now (record c.at.result.now { task = record c.at.result.now.task { lives = false } })
    c.self.invariant c.at.ensures.value refl refl (none_of c.at.result.now.task.scope (λ s e. c.in_default.not-Some s e)) refl

no_scope : (g : _) (c : goal.After-self-1 g) (x : TaskNode) → get_or c.args.self.now.tasks c.args.t None ≡ Some x → x.scope ≡ None
no_scope g c x is =
    let own = own_task c.self.inside.tasks.held.slots c.args.t c.at.result.now x c.at.ensures.value (rw (← c.self.view_is) at is) in
    ap (λ (y : TaskNode). y.scope) (sym own) ∙ none_of c.at.result.now.task.scope (λ s e. c.in_default.not-Some s e)

pub invariant_of-self : goal.invariant_of-self
invariant_of-self g c = (alone g c).is

pub returns-in_default-clause-ended : goal.returns-in_default-clause-ended
returns-in_default-clause-ended g c x is =
    let w = alone g c in
    let own = own_task c.self.inside.tasks.held.slots c.args.t c.at.result.now x c.at.ensures.value (rw (← c.self.view_is) at is) in
    (rw (← c.self.view_is) (seen_is _ _ _ (w.tasks ∙ (rw own refl)) w.keys_are))
    ∙ sym (ap (λ o. ended_in c.args.self.now c.args.t x c.args.end o) (no_scope g c x is))

pub returns-in_default-clause-others : goal.returns-in_default-clause-others
returns-in_default-clause-others g c x is = rw (no_scope g c x is) refl

pub returns-in_default-clause-asks : goal.returns-in_default-clause-asks
returns-in_default-clause-asks g c x is = rw (no_scope g c x is) refl

pub returns-in_default-clause-waiter : goal.returns-in_default-clause-waiter
returns-in_default-clause-waiter g c x is = rw (no_scope g c x is) refl

pub returns-in_default-clause-ready : goal.returns-in_default-clause-ready
returns-in_default-clause-ready g c =
    let at = task_at c.self.inside.tasks.held.slots c.args.t c.at.result.now c.at.ensures.value in
    rw (← c.self.view_is) (c.self.invariant.flags c.args.t c.at.result.now.task at)

-- ---- a subtask

pub at-requires : goal.at-requires
at-requires g c none =
    let (x0, is0, lives) = c.requires.lives in
    let slots = c.self.inside.tasks.held.slots in
    let no : None ≡ Some x0 = sym (map_at task_of slots c.args.t ∙ ap (option_map task_of) none) ∙ (rw (← c.self.view_is) at is0) in
    cc

pub at-row-requires : goal.at-row-requires
at-row-requires g c = row_stands c.self.inside.tasks.held.slots c.self.inside.scopes.slots c.self.inside.ready
    c.self.inside.tasks.held.room c.args.t c.in-Some.s c.at.result.now c.self.invariant c.at.ensures.value c.in-Some.is

-- the subtask ends with this state
ending : (g : _) (c : After-at-row g) (state : Option End)
    → Ending c.self.inside.tasks.held.slots (families_of c.self.inside.scopes.slots) c.self.inside.ready c.self.inside.tasks.held.room
    c.args.t c.in-Some.s c.at.result.now (record c.at.result.now { task = record c.at.result.now.task { lives = false; state = state } })
    (family_of c.at-row.result.now)
ending g c state =
    let (x, is, lives) = c.requires.lives in
    let own = own_task c.self.inside.tasks.held.slots c.args.t c.at.result.now x c.at.ensures.value (rw (← c.self.view_is) at is) in
    record {
      stored = c.self.invariant;
      is = c.at.ensures.value;
      scope = c.in-Some.is;
      lives = rw own lives;
      there = family_at c.self.inside.scopes.slots c.in-Some.s c.at-row.result.now c.at-row.ensures.value;
      links = refl;
      same_scope = refl;
      ends = refl;
      flag = refl;
    }

pub tell-asks-requires : goal.tell-asks-requires
tell-asks-requires g c =
    let few = few_ends (ending g (goal.at.tell-asks-requires g c).After-at-row c.at.result.now.task.state) in
    omega (arith, few)

pub unlink-row-requires : goal.unlink-row-requires
unlink-row-requires g c =
    let e = ending g (goal.at.unlink-row-requires g c).After-at-row c.tell-asks.new.state in
    ((fewer e).front, (fewer e).back, living_with e)

after : (g : _) (c : goal.After-self-3-1 g)
    → EndsIn c.self.inside.tasks.held.slots c.unlink-row.new.store.held.slots (families_of c.self.inside.scopes.slots) c.self.inside.ready
    c.self.inside.tasks.held.room c.args.t c.in-Some.s
    (family_of (record c.at-row.result.now { scope = c.tell-asks.new.scope; living = c.unlink-row.result }))
    (record c.at.result.now.task { lives = false; state = c.tell-asks.new.state })
after g c =
    let e = ending g (goal.at.invariant_of-self-2 g c).After-at-row c.tell-asks.new.state in
    tells_in e c.unlink-row.result (family_of (record c.at-row.result.now { scope = c.tell-asks.new.scope; living = c.unlink-row.result }))
    (c.unlink-row.ensures.list (fewer e).front (fewer e).back (living_with e)) c.unlink-row.ensures.rest.tasks refl refl refl
    (one_more c.at-row.result.now.scope c.tell-asks.new.scope c.args.end c.tell-asks.ensures.scope)

own : (g : _) (c : goal.After-self-3-1 g) (x : TaskNode) → get_or c.args.self.now.tasks c.args.t None ≡ Some x → c.at.result.now.task ≡ x
own g c x is = own_task c.self.inside.tasks.held.slots c.args.t c.at.result.now x c.at.ensures.value (rw (← c.self.view_is) at is)

home : (g : _) (c : goal.After-self-3-1 g) (x : TaskNode) → get_or c.args.self.now.tasks c.args.t None ≡ Some x → x.scope ≡ Some c.in-Some.s
home g c x is = ap (λ (y : TaskNode). y.scope) (sym (own g c x is)) ∙ c.in-Some.is

there : (g : _) (c : goal.After-self-3-1 g) → get_or c.args.self.now.scopes c.in-Some.s None ≡ Some c.at-row.result.now.scope
there g c = rw (← c.self.view_is) (scope_at c.self.inside.scopes.slots c.in-Some.s c.at-row.result.now c.at-row.ensures.value)

pub invariant_of-self-2 : goal.invariant_of-self-2
invariant_of-self-2 g c = let a = after g c in rw (set_family c.self.inside.scopes.slots c.in-Some.s _, c.unlink-row.ensures.rest.room) a.is

pub returns-clause-ready : goal.returns-clause-ready
returns-clause-ready g c =
    let at = task_at c.self.inside.tasks.held.slots c.args.t c.at.result.now c.at.ensures.value in
    rw (← c.self.view_is) (c.self.invariant.flags c.args.t c.at.result.now.task at)

pub returns-clause-ended : goal.returns-clause-ended
returns-clause-ended g c x is =
    let a = after g c in
    let same = own g c x is in
    let row = c.at-row.result.now in
    let new = c.tell-asks.new.scope in
    let scopes = seen_row c.self.inside.scopes.slots c.in-Some.s (record row { scope = new; living = c.unlink-row.result }) in
    let state = c.tell-asks.ensures.state ∙ ap (λ (y : TaskNode). cond row.scope.cancelled y.state (Some c.args.end)) same in
    let rest = c.unlink-row.ensures.rest in
    (rw (← c.self.view_is, a.tasks, a.keys_are, scopes, rest.room, rest.keys, same) refl)
    ∙ is_ended c.args.self.now c.args.t c.in-Some.s x c.args.end c.tell-asks.new.state row.scope new (home g c x is) (there g c) state
    c.tell-asks.ensures.scope

pub returns-clause-others : goal.returns-clause-others
returns-clause-others g c x is =
    let families = families_of c.self.inside.scopes.slots in
    let row = family_of (record c.at-row.result.now { scope = c.tell-asks.new.scope; living = c.unlink-row.result }) in
    let f = family_at c.self.inside.scopes.slots c.in-Some.s c.at-row.result.now c.at-row.ensures.value in
    let now = get_or-set_same families c.in-Some.s (Some row) None (inside_of families c.in-Some.s (λ n. let q = sym f ∙ n in cc)) in
    let first = ((after g c).is.living c.in-Some.s row now).first in
    rw (home g c x is) (c.is_some.ensures ∙ ap is_some first)

pub returns-clause-asks : goal.returns-clause-asks
returns-clause-asks g c x is =
    c.tell-asks.ensures.asks ∙ ap (asks_told c.args.end) (sym (there g c)) ∙ ap (asks_in c.args.self.now c.args.end) (sym (home g c x is))

owner_kept : {E : Type 0} (b : Bool) (s u : ScopeNode E) → u.owner ≡ s.owner → (cond b s u).owner ≡ s.owner
owner_kept true s u e = refl
owner_kept false s u e = e

pub returns-clause-waiter : goal.returns-clause-waiter
returns-clause-waiter g c x is =
    ap (λ (n : ScopeNode _). n.owner) c.tell-asks.ensures.scope ∙ owner_kept c.at-row.result.now.scope.cancelled c.at-row.result.now.scope _ refl
    ∙ ap (owner_or c.args.t) (sym (there g c)) ∙ ap (waiter_in c.args.self.now c.args.t) (sym (home g c x is))
