use Rattle.std.proofs.Common.{◌≡◌, ◌<◌, List, Some, None, map, length, ap, subst, arith}
use Rattle.std.specs.Prelude.{Option, Result, Ok, IfOk}
use Rattle.std.proofs.lemmas.Result.{IfOk-weaker, IfErr-weaker}
use Rattle.std.proofs.lemmas.List.{length-map}
use Rattle.clap.specs.Words.{App, Row, Text, is_simple, is_simple_and_free, kind_of, HasKind, fault_of, subcommand_rows_of}
use Rattle.sts_args.specs.declared.asked.Line.{Line}
use Rattle.sts_args.specs.declared.asked.Line.TheVariants as line
use Rattle.sts_args.specs.declared.asked.LineError.{LineError}
use Rattle.sts_args.specs.Asked.{IsLineOf, commanded, given}
use Rattle.sts_args.specs.Refused.{BlamesUnless, is_whole}
use Rattle.sts_args.proofs.Refusing.{refuses_blamed, refuses_told}
use Rattle.sts_args.specs.Command.{program}
use Rattle.sts_args.proofs.FoundLemmas.{found_in}
use Rattle.sts_args.proofs.reading.line.Goals as goal

-- a line of a command is not the joined form
not_joined : (found : Option (Text × List Row)) → IsLineOf found line.Joined → ⊥
not_joined None h = h
not_joined (Some x) h = let bad : None ≡ Some (given x) = h.files in cc

asks_command : (r : Result Line LineError) (found : Option (Text × List Row)) → IfOk r (IsLineOf found) → r ≡ Ok line.Joined → ⊥
asks_command r found h same = not_joined found (subst (λ x. IfOk x (IsLineOf found)) same h)

pub returns-in-Ok-clause-joined : goal.returns-in-Ok-clause-joined
returns-in-Ok-clause-joined c =
    (λ same. absurd (asks_command c.chosen.result (subcommand_rows_of c.in-Ok.matches) c.chosen.ensures.asked same), λ short. absurd (omega arith))

pub returns-in-Ok-clause-asked : goal.returns-in-Ok-clause-asked
returns-in-Ok-clause-asked c =
    let more : 1 < length (map (λ w. w.now) c.args.words.now) = simp length-map (omega arith) in
    let is = c.in_ok-command.ensures in
    let found = found_in program _ _ _ is (c.in-Ok.ensures.matches (ap is_simple is)).1 (c.in-Ok.ensures.kinds (ap is_simple_and_free is)) in
    IfOk-weaker c.chosen.result _ _ (λ l h. commanded more found.1 (subst (λ s. IsLineOf s l) found.0 h)) c.chosen.ensures.asked

pub returns-in-Ok-clause-refused : goal.returns-in-Ok-clause-refused
returns-in-Ok-clause-refused c =
    let more : 1 < length (map (λ w. w.now) c.args.words.now) = simp length-map (omega arith) in
    let is = c.in_ok-command.ensures in
    let found = found_in program _ _ _ is (c.in-Ok.ensures.matches (ap is_simple is)).1 (c.in-Ok.ensures.kinds (ap is_simple_and_free is)) in
    IfErr-weaker c.chosen.result _ _
    (λ e h. refuses_blamed (map (λ w. w.now) c.args.words.now) e more found.1 (subst (λ s. BlamesUnless (is_whole s) e) found.0 h))
    c.chosen.ensures.lacks

pub returns-in-Err-clause-refused : goal.returns-in-Err-clause-refused
returns-in-Err-clause-refused c =
    let kinds = c.in-Err.ensures.kinds (ap is_simple_and_free c.in_ok-command.ensures) in
    refuses_told (map (λ w. w.now) c.args.words.now) (kind_of c.in-Err.error) c.told.result (simp length-map (omega arith)) c.told.ensures
    (subst (λ (a : App). HasKind (fault_of a (map (λ w. w.now) c.args.words.now)) c.in-Err.error) c.in_ok-command.ensures kinds)
