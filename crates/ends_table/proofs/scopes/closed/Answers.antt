use Rattle.std.proofs.Common.{◌≡◌, ℕ, List, [], ap, ◌∙◌, length}
use Rattle.std.specs.Prelude.{drop, map}
use Rattle.sts_model.specs.Local.{steps}
use Rattle.sts_model.specs.declared.record.Frame.{Frame}
use Rattle.laws_calls.specs.Steps.{clear, closed}
use Rattle.laws_calls.specs.declared.table.Held.{Held}
use Rattle.laws_calls.specs.declared.table.Own.{Own}
use Rattle.laws_calls.specs.declared.table.Seen.{Seen}
use Rattle.ends_table.proofs.scopes.closed.Goals as goal

-- a state is as after a `close` if each of its parts is
closed_is : (own : Own) (f : Frame) (xs ys zs : List Seen) (n : ℕ) (slots : List Held) → f ≡ record (steps own.frame 0 []) { entries = drop 1 own.frame.entries } → xs ≡ drop 1 ys → ys ≡ own.scopes → n ≡ length zs → zs ≡ xs → slots ≡ map (clear n) own.held → record own { frame = f; held = slots; scopes = xs } ≡ closed own
closed_is own f xs ys zs n slots frame outer before place after held =
    let scopes : xs ≡ drop 1 own.scopes = outer ∙ ap (drop 1) before in
    let at : n ≡ length (drop 1 own.scopes) = place ∙ ap length (after ∙ scopes) in
    let cleared : slots ≡ map (clear (length (drop 1 own.scopes))) own.held = held ∙ ap (λ (k : ℕ). map (clear k) own.held) at in
    cc (frame, scopes, cleared)

pub returns : goal.returns
returns c = closed_is c.args.own.now c.in_ok-frame.frame c.in_ok-scopes.scopes _ _ c.in_ok-place.place _ c.in_ok-frame.ensures
    c.in_ok-scopes.ensures c.as_slice.ensures c.in_ok-place.ensures c.as_slice-2.ensures c.cleared.ensures
