use Rattle.std.proofs.Common.{map, ap, subst}
use Rattle.std.proofs.lemmas.Result.{IfOk-weaker, IfErr-weaker}
use Rattle.clap.specs.Words.{App, is_simple, is_simple_and_free, kind_of, HasKind, fault_of}
use Rattle.sts_args.specs.Refused.{BlamesUnless}
use Rattle.look_args.specs.Asked.{IsLineOf, is_whole}
use Rattle.look_args.proofs.Refusing.{refuses_blamed, refuses_told}
use Rattle.look_args.specs.Command.{program}
use Rattle.sts_args.proofs.FoundLemmas.{found_in}
use Rattle.look_args.proofs.reading.line.Goals as goal

pub returns-in-Ok-clause-asked : goal.returns-in-Ok-clause-asked
returns-in-Ok-clause-asked c =
    let is = c.in_ok-command.ensures in
    let found = found_in program _ _ _ is (c.in-Ok.ensures.matches (ap is_simple is)).1 (c.in-Ok.ensures.kinds (ap is_simple_and_free is)) in
    IfOk-weaker c.chosen.result _ _ (λ l h. record { faultless = found.1; line = subst (λ s. IsLineOf s l) found.0 h }) c.chosen.ensures.asked

pub returns-in-Ok-clause-refused : goal.returns-in-Ok-clause-refused
returns-in-Ok-clause-refused c =
    let is = c.in_ok-command.ensures in
    let found = found_in program _ _ _ is (c.in-Ok.ensures.matches (ap is_simple is)).1 (c.in-Ok.ensures.kinds (ap is_simple_and_free is)) in
    IfErr-weaker c.chosen.result _ _
    (λ e h. refuses_blamed (map (λ w. w.now) c.args.words.now) e found.1 (subst (λ s. BlamesUnless (is_whole s) e) found.0 h))
    c.chosen.ensures.lacks

pub returns-in-Err-clause-refused : goal.returns-in-Err-clause-refused
returns-in-Err-clause-refused c =
    let program_is = c.in_ok-command.ensures in
    let words = map (λ w. w.now) c.args.words.now in
    let kinds = c.in-Err.ensures.kinds (ap is_simple_and_free program_is) in
    refuses_told words (kind_of c.in-Err.error) c.message.result c.message.ensures
    (subst (λ (a : App). HasKind (fault_of a words) c.in-Err.error) program_is kinds)
