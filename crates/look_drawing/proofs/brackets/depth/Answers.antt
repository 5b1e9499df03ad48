use Rattle.std.proofs.Common.{ℕ, length, ap, sym, ◌∙◌, subst, arith, take}
use Rattle.std.specs.List.{count_by}
use Rattle.sts_model.specs.declared.record.Frame.{Frame}
use Rattle.sts_model.specs.World.{World}
use Rattle.look_drawing.specs.Place as place
use Rattle.look_drawing.specs.Present.{AreHeld}
use Rattle.look_drawing.proofs.Holding.{count_entries, count_none}
use Rattle.look_drawing.proofs.brackets.depth.Goals as goal

pub returns-then-lives-clause-value : goal.returns-then-lives-clause-value
returns-then-lives-clause-value c =
    let s = c.args.s in
    let r : World = c.records-records.result.now in
    let same = c.records-records.ensures in
    let owner = c.owner-owner.result in
    let held = subst AreHeld (sym same) c.args.change.held in
    let scopes = ap (λ (w : World). length w.scopes) same in
    c.scopes_before.ensures.value
    ∙ ap (λ (f : Frame). count_by (place.is_before s) f.entries) c.frame.ensures
    ∙ sym (count_entries r owner s held (sym c.lives.ensures.value ∙ c.if-lives.true) (omega (arith, scopes)))
    ∙ ap (λ (t : ℕ). count_by (place.is_open_of t) (take s r.scopes)) c.owner-owner.ensures
    ∙ ap (λ (w : World). place.depth w s) same

pub returns-else-lives-clause-value : goal.returns-else-lives-clause-value
returns-else-lives-clause-value c =
    let s = c.args.s in
    let r : World = c.records-records.result.now in
    let same = c.records-records.ensures in
    let held = subst AreHeld (sym same) c.args.change.held in
    sym (count_none r c.owner-owner.result s held (sym c.lives.ensures.value ∙ c.if-lives.false) (omega (arith, ap (λ (w : World). length w.scopes) same)))
    ∙ ap (λ (t : ℕ). count_by (place.is_open_of t) (take s r.scopes)) c.owner-owner.ensures
    ∙ ap (λ (w : World). place.depth w s) same
