use Rattle.std.proofs.Common.{◌≡◌, ℕ, List, [], ◌∷◌, Bool, ap, ◌∙◌, length}
use Rattle.std.specs.Prelude.{slice_set}
use Rattle.sts_code.specs.declared.instr.Joiner.{Joiner}
use Rattle.sts_model.specs.Local.{steps}
use Rattle.sts_model.specs.declared.record.Entry.TheVariants as entry
use Rattle.sts_model.specs.declared.record.Frame.{Frame}
use Rattle.laws_calls.specs.Steps.{opened}
use Rattle.laws_calls.specs.declared.table.Call.{Call}
use Rattle.laws_calls.specs.declared.table.Held.{Held}
use Rattle.laws_calls.specs.declared.table.Held.TheVariants as held
use Rattle.laws_calls.specs.declared.table.Own.{Own}
use Rattle.laws_calls.specs.declared.table.Seen.{Seen}
use Rattle.ends_table.proofs.scopes.opened.Goals as goal

-- a state is as after an `open` if each of its parts is
opened_is : (call : Call) (own : Own) (x : ℕ) (joiner : Joiner) (timed : Bool) (n : ℕ) (f : Frame) (seen : Seen) (xs ys zs : List Seen) (slots : List Held) → n ≡ length ys → ys ≡ own.scopes → f ≡ record (steps own.frame 0 []) { entries = entry.Scope 0 ∷ own.frame.entries } → (seen ∷ own.scopes) ≡ (opened call own 0 joiner timed).scopes → xs ≡ (seen ∷ zs) → zs ≡ own.scopes → slots ≡ slice_set own.held x (held.Own n) → record own { frame = f; held = slots; scopes = xs } ≡ opened call own x joiner timed
opened_is call own x joiner timed n f seen xs ys zs slots place before frame fresh behind same set =
    let scopes : xs ≡ (opened call own 0 joiner timed).scopes = behind ∙ ap (λ (l : List Seen). seen ∷ l) same ∙ fresh in
    let filled : slots ≡ slice_set own.held x (held.Own (length own.scopes)) = set ∙ ap (λ (k : ℕ). slice_set own.held x (held.Own k)) (place ∙ ap length before) in
    cc (frame, scopes, filled)

pub returns : goal.returns
returns c = opened_is c.args.call.now c.args.own.now c.args.slot c.args.joiner c.args.timed c.in_ok-place.place c.in_ok-frame.frame
    c.in_ok-seen.seen c.in_ok-scopes.scopes _ _ _ c.in_ok-place.ensures c.as_slice.ensures c.in_ok-frame.ensures c.in_ok-seen.ensures
    c.in_ok-scopes.ensures c.as_slice-2.ensures c.set_held.ensures
