use Rattle.std.proofs.Common.{◌≡◌, ℕ, ◌+◌, ◌<◌, List, [], ◌∷◌, ◌++◌, length, Option, None, Vec, Global, ap, sym, ◌∙◌, arith, subst, append_assoc}
use Rattle.std.specs.Prelude.{slice_index_or, MatchOption}
use Rattle.std.proofs.lemmas.List.{append-nil, get_or_default}
use Rattle.sts_code.specs.Program.{Program}
use Rattle.sts_code.specs.declared.instr.Instr.{Instr}
use Rattle.sts_rules.specs.Refusal.{size}
use Rattle.look_accepted.specs.declared.notes.Note.{Note}
use Rattle.look_accepted.specs.declared.reliance.Reliance.{Reliance}
use Rattle.look_accepted.specs.Relying.{Relies}
use Rattle.look_accepted.specs.Notes.{AreRules, IsPlain, none, plain, noted, AddsNotes}
use Rattle.look_accepted.proofs.notes.add_notes.Goals.{in-Some+in_ok-push, in_default}
use Rattle.look_accepted.proofs.notes.add_notes.Goals as goal

-- what the table of rules says of a place
rule_at : (p : Program) (f : ℕ) (rules : List (Option Reliance)) (pc : ℕ) (rule : Option Reliance) → AreRules p f rules → pc < size p f → rule ≡ slice_index_or rules pc rule → MatchOption rule (IsPlain p f pc) (Relies p f pc)
rule_at p f rules pc rule h inside read =
    let long = h.long in
    let same : slice_index_or rules pc None ≡ rule = sym (read ∙ get_or_default rules pc rule None (omega (arith, long, inside))) in
    subst (λ (o : Option Reliance). MatchOption o (IsPlain p f pc) (Relies p f pc)) same (h.each pc inside)

nothing_noted : (p : Program) (f : ℕ) (before : List Note) → AddsNotes p f 0 before before
nothing_noted p f before = record { notes = []; right = none; added = sym (append-nil before) }

plain_more : (p : Program) (f pc : ℕ) (before old new : List Note) → AddsNotes p f pc before old → new ≡ old → IsPlain p f pc → AddsNotes p f (pc + 1) before new
plain_more p f pc before old new h same is = record { notes = h.notes; right = plain pc h.right is; added = same ∙ h.added }

noted_more : (p : Program) (f pc : ℕ) (r : Reliance) (before old new : List Note) → AddsNotes p f pc before old → new ≡ old ++ record { function = f; place = pc; reliance = r } ∷ [] → Relies p f pc r → AddsNotes p f (pc + 1) before new
noted_more p f pc r before old new h same is = record {
  notes = h.notes ++ record { function = f; place = pc; reliance = r } ∷ [];
  right = noted pc r h.right is;
  added = same ∙ ap (λ (ns : List Note). ns ++ record { function = f; place = pc; reliance = r } ∷ []) h.added ∙ append_assoc before h.notes (record { function = f; place = pc; reliance = r } ∷ []);
}

pub typing_of-requires-clause-typed : goal.typing_of-requires-clause-typed
typing_of-requires-clause-typed c = (c.requires.accepted.sound c.args.function c.requires.in_program).typed

pub loop-place-init : goal.loop-place-init
loop-place-init c = nothing_noted c.args.program.now c.args.function c.args.notes.now.items

pub loop-place-preserved : goal.loop-place-preserved
loop-place-preserved c =
    let p = c.args.program.now in
    let f = c.args.function in
    let l = c.loop-place in
    let count = ap (λ (code : List Instr). length code) c.code_of-count.ensures.value in
    let here = rule_at p f c.in_ok-rules.rules.items l.place c.index.result.now c.in_ok-rules.ensures (omega (arith, count)) c.index.ensures in
    elim c.match-index.branch [
      | in-Some+in_ok-push w ↦ noted_more p f l.place w.in-Some.reliance c.args.notes.now.items l.notes.items c.match-index.notes.items l.invariant
          (ap (λ (v : Vec Note Global). v.items) w.notes-is ∙ w.in_ok-push.ensures.items) (rw w.in-Some.is at here)
      | in_default w ↦ plain_more p f l.place c.args.notes.now.items l.notes.items c.match-index.notes.items l.invariant
          (ap (λ (v : Vec Note Global). v.items) w.notes-is) (rw w.in_default.is at here)
    ]
