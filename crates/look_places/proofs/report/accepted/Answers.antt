use Rattle.std.proofs.Common.{rules, ◌≡◌, ℕ, List, ap}
use Rattle.std.specs.List.{flat_map}
use Rattle.look_places.specs.Reports.{accepted, rule_note}
use Rattle.look_places.proofs.report.accepted.Goals as goal

pub returns : goal.returns
returns c =
    let notes = c.in_ok-notes.notes.items in
    let told : c.say_rules.new.out.items ≡ flat_map (rule_note c.args.source.now c.args.verified.now) notes = search rules in
    accepted notes (record { sound = c.program.ensures.accepted.sound }) c.in_ok-notes.ensures (ap (λ (b : List ℕ). record { bytes = b; status = 0 }) told)
