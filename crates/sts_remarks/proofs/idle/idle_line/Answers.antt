use Rattle.std.proofs.Common.{◌≡◌, ◌∙◌, ap, sym, Some, option_map, ℕ, List}
use Rattle.std.specs.String.{string_bytes}
use Rattle.sts_model.specs.World.{opening}
use Rattle.sts_remarks.specs.Idle as def
use Rattle.sts_remarks.proofs.idle.idle_line.Goals as goal

pub returns-in_ok-line_about-in-Some : goal.returns-in_ok-line_about-in-Some
returns-in_ok-line_about-in-Some c =
    let about : List ℕ → List ℕ = def.line_about c.args.name.now c.args.trace.now in
    let found : Some (string_bytes c.in-Some.words) ≡ def.first_idle c.args.unit.now c.args.program.now (opening c.args.program.now) 1 c.args.events.now =
    sym (ap (option_map string_bytes) c.in-Some.is) ∙ c.in_ok-first_idle.ensures in
    ap (λ (xs : List ℕ). Some xs) (c.in_ok-line_about-in-Some.ensures ∙ ap about c.as_str.ensures.value) ∙ ap (option_map about) found
