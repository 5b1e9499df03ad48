use Rattle.std.proofs.Common.{◌≡◌, ℕ, ◌-◌, List, ◌++◌, codes, refl, sym, ap, ◌∙◌, append_assoc}
use Rattle.std.proofs.lemmas.Result.{on_ok_weaker}
use Rattle.std.specs.Fmt.{decimal}
use Rattle.std.specs.Prelude.{slice_get}
use Rattle.sts_text.specs.Words.{lines}
use Rattle.sts_trace.specs.declared.error.TraceError.{TraceError}
use Rattle.look_text.proofs.LineLemmas.{five_said}
use Rattle.look_run.specs.Lines.{line_number, shown_line, trace_number}
use Rattle.look_run.specs.Sentences.{trace_sentence}
use Rattle.look_run.proofs.traces.say_fault.Goals as goal

regroup : (a b c d e : List ℕ) → (((a ++ b) ++ c) ++ d) ++ e ≡ a ++ (b ++ (c ++ (d ++ e)))
regroup a b c d e = simp append_assoc

-- `error T1, line 2: "`
abbrev head_words : List ℕ → TraceError → List ℕ
head_words text e = codes "error T" ++ decimal (trace_number e) ++ codes ", line " ++ decimal (line_number text e) ++ codes ": \""

grouped : (said text : List ℕ) (e : TraceError) → said ≡ codes "error T" ++ (decimal (trace_number e) ++ (codes ", line " ++ (decimal (line_number text e) ++ codes ": \""))) → said ≡ head_words text e
grouped said text e is = is ∙ sym (regroup (codes "error T") (decimal (trace_number e)) (codes ", line ") (decimal (line_number text e)) (codes ": \""))

pub returns : goal.returns
returns c =
    let text = c.args.text.now in
    let error = c.args.error in
    let head = grouped c.as_str.result.now text error
    (rw (c.as_str.ensures.value, c.in_ok-head.ensures.ok, c.trace_number-number.ensures, c.line_number-line.ensures) refl) in
    let line = ap shown_line c.line_at.ensures ∙ ap (λ (n : ℕ). shown_line (slice_get (lines text) (n - 1))) c.line_number-line.ensures in
    on_ok_weaker c.say-4.result
    (five_said (head_words text error) (shown_line (slice_get (lines text) (line_number text error - 1))) (codes "\"\n") (trace_sentence error) (codes "\n")
    c.args.out.now.items c.say.new.out.items c.say_line.new.out.items c.say-2.new.out.items c.say-3.new.out.items c.say-4.new.out.items
    (c.in_ok-say.ensures ∙ ap (λ (l : List ℕ). c.args.out.now.items ++ l) head)
    (c.in_ok-say_line.ensures ∙ ap (λ (l : List ℕ). c.say.new.out.items ++ l) line) c.in_ok-say-2.ensures
    (c.in_ok-say-3.ensures ∙ ap (λ (l : List ℕ). c.say-2.new.out.items ++ l) c.trace_sentence.ensures)) c.say-4.ensures
