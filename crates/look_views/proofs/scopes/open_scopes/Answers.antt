use Rattle.std.proofs.Common.{◌≡◌, ◌<◌, ℕ, List, [], ◌∷◌, ◌++◌, ◌+◌, Bool, length, drop, if◌then◌else◌, refl, sym, ap, ◌∙◌, arith}
use Rattle.std.proofs.lemmas.List.{at_drop_more}
use Rattle.serde_json.specs.Data.{Data}
use Rattle.serde_json.specs.View.{view}
use Rattle.sts_model.specs.Living.{is_closed}
use Rattle.sts_model.specs.World.{World, no_scope, scope_at}
use Rattle.sts_model.specs.declared.record.Scope.{Scope}
use Rattle.look_views.specs.Scope.{maybe_open, open_scopes, scope}
use Rattle.look_views.proofs.ListLemmas.{next_part, no_value, one_value}
use Rattle.look_views.proofs.scopes.open_scopes.Goals.{then-not-is_closed+in_ok-scope+in_ok-push, else-not-is_closed}
use Rattle.look_views.proofs.scopes.open_scopes.Goals as goal

-- what is shown of the next scope, which is closed or not
next_open : (text : List ℕ) (full : Bool) (w : World) (s : ℕ) → s < length w.scopes
    → open_scopes text full w (drop s w.scopes) s ≡ maybe_open text full w s ++ open_scopes text full w (drop (s + 1) w.scopes) (s + 1)
next_open text full w s born = at_drop_more (λ (xs : List Scope). open_scopes text full w xs s) w.scopes s no_scope born

-- a scope that isn't closed is shown
abbrev chosen : Data → Bool → List Data
chosen shown closed = if closed then [] else shown ∷ []

pub loop-s-preserved : goal.loop-s-preserved
loop-s-preserved c =
    let world = c.args.records.now in
    let shown = scope c.args.names.now c.args.full c.loop-s.s (scope_at world c.loop-s.s) in
    let born = c.scopes_born-s-end.ensures.value in
    let closed = c.is_closed.ensures ∙ ap is_closed c.phase.ensures in
    next_part view c.loop-s.list.items c.if-not-is_closed.list.items (chosen shown (is_closed (scope_at world c.loop-s.s).phase)) _ _ _
    c.loop-s.invariant (next_open c.args.names.now c.args.full world c.loop-s.s (omega (arith, born, c.loop-s-test.true))) (elim c.if-not-is_closed.branch [
      | then-not-is_closed+in_ok-scope+in_ok-push w ↦ rw w.list-is (one_value view c.loop-s.list.items w.push.new.self.items _ shown _
          (ap (chosen shown) (sym closed ∙ w.if-not-is_closed.true)) w.in_ok-scope.ensures w.in_ok-push.ensures.items)
      | else-not-is_closed w ↦
          rw w.list-is (no_value view c.loop-s.list.items c.loop-s.list.items _ (ap (chosen shown) (sym closed ∙ w.if-not-is_closed.false)) refl)
    ])
