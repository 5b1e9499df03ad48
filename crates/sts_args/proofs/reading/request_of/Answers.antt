use Rattle.std.proofs.Common.{◌∙◌, sym, ap, option_map}
use Rattle.std.proofs.lemmas.Option.{IfSome_then}
use Rattle.clap.specs.Words.{found_of, rows_of}
use Rattle.sts_args.proofs.Asking.{list_given, replay_lacks, run_given, run_lacks, verify_given}
use Rattle.sts_args.proofs.reading.request_of.Goals as goal

pub returns-then-eq-clause-asked : goal.returns-then-eq-clause-asked
returns-then-eq-clause-asked c = verify_given c.args.name.now (rows_of (found_of c.args.inner.now)) c.in_ok-file.file c.if-eq.ensures
    (sym c.text_of.ensures ∙ ap (option_map (λ t. t.now)) c.in_ok-file.was)

pub returns-then-eq-2-clause-asked : goal.returns-then-eq-2-clause-asked
returns-then-eq-2-clause-asked c = list_given c.args.name.now (rows_of (found_of c.args.inner.now)) c.in_ok-file.file c.if-eq-2.ensures
    (sym c.text_of.ensures ∙ ap (option_map (λ t. t.now)) c.in_ok-file.was)

pub returns-then-eq-3-clause-asked : goal.returns-then-eq-3-clause-asked
returns-then-eq-3-clause-asked c =
    run_given c.run_of.result c.args.name.now (rows_of (found_of c.args.inner.now)) c.in_ok-file.file.now c.if-eq-3.ensures
    (sym c.text_of.ensures ∙ ap (option_map (λ t. t.now)) c.in_ok-file.was) c.run_of.ensures.files c.run_of.ensures.options

pub returns-then-eq-3-clause-lacks : goal.returns-then-eq-3-clause-lacks
returns-then-eq-3-clause-lacks c none =
    run_lacks c.args.name.now (rows_of (found_of c.args.inner.now)) c.in_ok-file.file.now c.if-eq-3.ensures
    (sym c.text_of.ensures ∙ ap (option_map (λ t. t.now)) c.in_ok-file.was) (c.run_of.ensures.lacks none)

pub returns-else-eq-3-clause-asked : goal.returns-else-eq-3-clause-asked
returns-else-eq-3-clause-asked c =
    IfSome_then c.with_trace.result c.with_trace.ensures.given
    (λ l given. given (rows_of (found_of c.args.inner.now)) (sym c.text_of.ensures ∙ ap (option_map (λ t. t.now)) c.in_ok-file.was) c.text_of-else-eq-3.ensures)

pub returns-else-eq-3-clause-lacks : goal.returns-else-eq-3-clause-lacks
returns-else-eq-3-clause-lacks c none =
    replay_lacks c.args.name.now (rows_of (found_of c.args.inner.now)) c.text_of-else-eq-3.result c.if-eq.ensures c.if-eq-2.ensures c.if-eq-3.ensures
    c.text_of-else-eq-3.ensures (c.with_trace.ensures.lacks none)
