-- What `clap` found by the command of a program, which is the program that is defined.
use Rattle.std.proofs.Common.{◌≡◌, List, [], Option, ap, subst, ◌∙◌}
use Rattle.clap.specs.Words.{App, Row, Text, fault_of, subcommand_of}

pub found_in : (program command : App) (words : List Text) (found : Option (Text × List Row)) → command ≡ program → found ≡ subcommand_of command words
    → fault_of command words ≡ [] → (found ≡ subcommand_of program words) × (fault_of program words ≡ [])
found_in program command words found is rows none =
    (rows ∙ ap (λ (a : App). subcommand_of a words) is, subst (λ (a : App). fault_of a words ≡ []) is none)
