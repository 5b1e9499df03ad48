use Rattle.std.proofs.Common.{◌≡◌, sym}
use Rattle.std.specs.Prelude.{Some}
use Rattle.look_text.specs.Functions.{functions_of}
use Rattle.look_text.proofs.functions.Source.check_lines.Goals as goal

pub returns-in-Some : goal.returns-in-Some
returns-in-Some c =
    let found : functions_of c.args.self.now ≡ Some c.in-Some.outline.now = sym c.in-Some.ensures in
    rw (found, ← c.text.ensures) c.check_part.ensures
