-- The outcome of a run, and its output.
use Rattle.std.proofs.Common.{◌≡◌, ℕ, ◌≤◌, List, [], length, Bool, true, if◌then◌else◌, Option, inl, Result, Err, MatchResult, ap, subst, sym, ◌∙◌, refl}
use Rattle.sts_code.specs.Program.{Program}
use Rattle.sts_pool.specs.Outside.{IsGiven}
use Rattle.sts_pool.specs.Report.{IsReportOf}
use Rattle.sts_pool.specs.declared.report.Report.{Report}
use Rattle.sts_trace.specs.declared.outside.Due.{Due}
use Rattle.sts_rules.specs.Refusal.{IsAccepted}
use Rattle.sts_output.specs.Output.{AreLines, IsRefused, Output, Writes, file_output}
use Rattle.sts_cli.proofs.Given.{are_given}
use Rattle.sts_cli.specs.Dues.{dues_give}
use Rattle.sts_asm.specs.Text.{judged}
use Rattle.sts_cli.specs.Running.{IsOutcomeOf, IsRun, Outcome, RunWrites, TextRuns, alone, Holds, refused, report_output, reported}
use Rattle.sts_output.specs.Taking.{IsTakenOf}
use Rattle.sts_cli.specs.Ending.{IsOfRun, IsPrinted, of_run, shown, without_file}
use Rattle.sts_output.specs.Streams.{Written, WritesBoth, most_of_a_text, most_of_a_stream, no_trace, whole}
use Rattle.sts_output.specs.declared.taking.TakeError.TheVariants.{Read}

-- a result with all of an outcome
pub whole_told : (kept : Bool) (P : Outcome → Type 0) (o : Outcome) → P o → Holds kept P o
whole_told kept P o is = record { outcome = o; is = is; output = refl; journal = λ k. refl }

-- a result with an outcome of one kind, which is also of another kind
pub told_as : (kept : Bool) (P Q : Outcome → Type 0) (r : Outcome) → ((o : Outcome) → P o → Q o) → Holds kept P r → Holds kept Q r
told_as kept P Q r more h = record { outcome = h.outcome; is = more h.outcome h.is; output = h.output; journal = h.journal }

-- what is printed of a report
pub reported_run : (kept : Bool) (p : Program) (dues : List Due) (budgets : List ℕ) (r : Report) (o : Outcome) → IsAccepted p → AreLines p budgets → length dues ≤ 4096 → IsReportOf kept p (IsGiven dues_give dues) r
    → o ≡ record { output = report_output budgets r.end r.steps; journal = r.journal.items } → Holds kept (IsRun p dues) o
reported_run kept p dues budgets r o accepted lines few is same =
    subst (Holds kept (IsRun p dues)) (sym same)
    (record {
      outcome = record { output = report_output budgets r.end r.steps; journal = is.journal };
      is =
          reported (record {
            accepted = accepted;
            budgets = budgets;
            told = lines;
            end = r.end;
            report = is.report;
            given = are_given dues is.journal few is.came;
            printed = ap (report_output budgets r.end) (is.steps ∙ sym is.report.steps);
          });
      output = refl;
      journal = λ k. is.held ∙ ap (λ b. if b then is.journal else []) k;
    })

-- a program that isn't accepted is refused
pub refused_run : (p : Program) (dues : List Due) (judged : Result Program Output) (refusal : Output) (o : Outcome) → MatchResult judged (λ v. v ≡ p) (IsRefused p) → judged ≡ Err refusal → o ≡ alone refusal → IsRun p dues o
refused_run p dues judged refusal o is e same = refused refusal (subst (λ j. MatchResult j (λ v. v ≡ p) (IsRefused p)) e is) same

-- the stream gets the output of the run
written_of : (P : Type 0) (text outside : List ℕ) (w : Written) (s : ℕ) (r : Outcome) → P → IsOutcomeOf text outside r → RunWrites w s r → (o : Output) × IsPrinted P text outside o × Writes w.out_old w.out_new s o
written_of P text outside w s r spares is (whole trace out) = (r.output, of_run spares r is refl, out)
written_of P text outside w s r spares is (no_trace out) = (file_output, without_file Read refl, out)

-- the same texts, handed on
handed_on : (text outside given given_outside : List ℕ) (r : Outcome) → given ≡ text → given_outside ≡ outside → IsOutcomeOf given given_outside r → IsOutcomeOf text outside r
handed_on text outside given given_outside r e f is = subst (λ x. IsOutcomeOf x outside r) e (subst (λ y. IsOutcomeOf given y r) f is)

pub printed_of : (P : Type 0) (text outside given given_outside : List ℕ) (w : Written) (s : ℕ) (r : Outcome) → P → given ≡ text → given_outside ≡ outside → IsOutcomeOf given given_outside r → RunWrites w s r
    → (o : Output) × IsPrinted P text outside o × Writes w.out_old w.out_new s o
printed_of P text outside given given_outside w s r spares e f is =
    written_of P text outside w s r spares (handed_on text outside given given_outside r e f is)

-- there is no trace
pub printed_alone : (P : Type 0) (text outside given given_outside : List ℕ) (old new : Option (List ℕ)) (s : ℕ) (r : Outcome) → P → given ≡ text → given_outside ≡ outside → IsOutcomeOf given given_outside r
    → Writes old new s r.output → (o : Output) × IsPrinted P text outside o × Writes old new s o
printed_alone P text outside given given_outside old new s r spares e f is out =
    (r.output, of_run spares r (handed_on text outside given given_outside r e f is) refl, out)

-- an output that was printed is that of an outcome
pub printed_ran : (text outside : List ℕ) (old new : Option (List ℕ)) (s : ℕ) (kept : Bool) (r : Outcome) → Holds kept (TextRuns (judged text) outside) r → Writes old new s r.output
    → (o : Outcome) × IsOutcomeOf text outside o × Writes old new s o.output
printed_ran text outside old new s kept r h out = (h.outcome, inl h.is, subst (λ o. Writes old new s o) h.output out)

-- and so is one that was printed after its journal was written
pub written_ran : (text outside : List ℕ) (w : Written) (s : ℕ) (r : Outcome) → Holds true (TextRuns (judged text) outside) r → RunWrites w s r → (o : Outcome) × IsOutcomeOf text outside o × RunWrites w s o
written_ran text outside w s r h both =
    (h.outcome, inl h.is, subst (λ o. WritesBoth w s h.outcome.journal o) h.output (subst (λ es. WritesBoth w s es r.output) (h.journal refl) both))

pub of_texts : (P : Type 0) (file outside_file : Option (List ℕ)) (text outside : List ℕ) (o : Output) → IsTakenOf file most_of_a_text text → IsTakenOf outside_file most_of_a_stream outside → IsPrinted P text outside o → IsOfRun P file outside_file o
of_texts P file outside_file text outside o taken others printed = shown text outside taken others printed
