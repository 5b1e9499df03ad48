use Rattle.std.proofs.Common.{◌≡◌, Some, None, ◌∙◌}
use Rattle.sts_records.proofs.Slots.{key_some}
use Rattle.sts_records.proofs.held.Held.key_of.Goals as goal

pub key-requires : goal.key-requires
key-requires g c none =
    let no : Some c.in-Some.field-0.now ≡ None = c.in-Some.ensures ∙ none in
    cc

pub returns-in-Some : goal.returns-in-Some
returns-in-Some g c = key_some c.args.self.now.slots c.args.self.now.keys c.args.birth c.key.result c.in-Some.field-0.now c.in-Some.ensures c.key.ensures
