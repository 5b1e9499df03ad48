use Rattle.std.proofs.Common.{◌≡◌, ℕ, List, ◌++◌, ◌∙◌, ap}
use Rattle.std.specs.Prelude.{codes}
use Rattle.sts_code.specs.Program.{Program}
use Rattle.sts_output.specs.Output.{Output}
use Rattle.look_accepted.specs.Lines.{note_lines}
use Rattle.look_accepted.specs.declared.notes.Note.{Note}
use Rattle.look_refusal.specs.Output.{accepted}
use Rattle.look_refusal.proofs.explaining.accepted.Goals as goal

pub returns : goal.returns
returns c =
    let o = c.args.outline.now in
    let notes : List Note = c.as_slice.result.now in
    let head : List ℕ = codes "accepted\n" in
    let said : c.say.new.out.items ≡ head = c.in_ok-say.ensures ∙ ap (λ (b : List ℕ). b ++ head) c.new-bytes.ensures.items in
    let all : c.note_lines.new.out.items ≡ head ++ note_lines o c.args.verified.now c.in_ok-notes.notes.items =
    c.in_ok-note_lines.ensures ∙ ap (λ (b : List ℕ). b ++ note_lines o c.program-program.result.now notes) said
    ∙ ap (λ (p : Program). head ++ note_lines o p notes) c.program-program.ensures.value
    ∙ ap (λ (ns : List Note). head ++ note_lines o c.args.verified.now ns) c.as_slice.ensures.value in
    let made : (b : List ℕ) → Output = λ b. record { bytes = b; status = 0 } in
    accepted c.in_ok-notes.notes.items (record { sound = c.program-program.ensures.accepted.sound }) c.in_ok-notes.ensures (ap made all)
