-- A cause without the same remedy everywhere is a cause of an instruction in a typestate.
use Rattle.std.proofs.Common.{◌≡◌, ◌≢◌, ℕ, ◌<◌, List, None, ap, ◌∙◌, subst}
use Rattle.sts_code.specs.Program.{Program, routine, instr_at}
use Rattle.sts_code.specs.declared.instr.Instr.{Instr}
use Rattle.sts_code.specs.declared.profile.Profile.{Profile}
use Rattle.sts_rules.specs.declared.budget.Budgets.{Budgets}
use Rattle.sts_rules.specs.declared.typing.Cause.{Cause}
use Rattle.sts_rules.specs.declared.typing.Cause.TheVariants.{LoopMismatch, DeadCode, SlotKind, SlotBusy, IllegalState, Structure, Unbound, JoinEdges}
use Rattle.sts_rules.specs.Budget.{Exceeds}
use Rattle.sts_rules.specs.Refusal.{IsUnsound, IsTypeRefusal, IsRefusal, ill_typed, too_much, size}
use Rattle.sts_rules.specs.TypeState.{TypeState}
use Rattle.look_refusal.specs.declared.remedy.Remedy.{Remedy}
use Rattle.look_refusal.specs.Remedies.{fixed_remedy, typed_remedy, remedy_in}
use Rattle.look_refusal.specs.Ways.{IsReached, AreClear}
use Rattle.look_refusal.proofs.MeetingLemmas.{reached_by}

-- no budget
no_excess : (earlier : List Budgets) (code : List Instr) (c : Cause) → Exceeds earlier code c → fixed_remedy c ≡ None → ⊥
no_excess earlier code LoopMismatch x e = absurd (x)
no_excess earlier code SlotKind x e = absurd (x)
no_excess earlier code SlotBusy x e = absurd (x)
no_excess earlier code IllegalState x e = absurd (x)
no_excess earlier code Structure x e = absurd (x)
no_excess earlier code Unbound x e = absurd (x)
no_excess earlier code JoinEdges x e = absurd (x)
no_excess earlier code _ x e = absurd (cc)

of_type : (p : Program) (f pc : ℕ) (c : Cause) → fixed_remedy c ≡ None → IsUnsound p f pc c → IsTypeRefusal p f pc c
of_type p f pc c e (ill_typed r) = r
of_type p f pc c e (too_much earlier typed long right excess) = absurd (no_excess earlier (routine p f).code c excess.0 e)

pub typed_place : (p : Program) (f pc : ℕ) (c : Cause) → fixed_remedy c ≡ None → IsRefusal p f pc c → (pc < size p f) × IsReached p f pc × AreClear p f pc
typed_place p f pc c e h =
    let r = of_type p f pc c e h.1 in
    let ne : c ≢ DeadCode = λ d. (let none : fixed_remedy DeadCode ≡ None = subst (λ (x : Cause). fixed_remedy x ≡ None) d e in absurd (cc)) in
    (r.0, reached_by p f pc c ne r.1, r.2)

-- the remedy from the parts of the program is the remedy for the place
pub same_remedy : (p : Program) (f pc : ℕ) (s : TypeState) (c : Cause) (profile : Profile) (code : List Instr) (instr : Instr) (r : Remedy) → profile ≡ p.profile → code ≡ (routine p f).code → instr ≡ instr_at code pc → r ≡ typed_remedy profile code pc instr s c → r ≡ remedy_in p f pc s c
same_remedy p f pc s c profile code instr r e g h k =
    k ∙ ap (λ (x : Profile). typed_remedy x code pc instr s c) e
    ∙ ap (λ (i : Instr). typed_remedy p.profile code pc i s c) h
    ∙ ap (λ (is : List Instr). typed_remedy p.profile is pc (instr_at is pc) s c) g
