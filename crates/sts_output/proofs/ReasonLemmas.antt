-- The line about the fault of a text.
use Rattle.std.proofs.Common.{◌≡◌, ℕ, List, Bool, true, false, Option, None, Result, Ok, Err, arith, ap, refl, sym, ◌∙◌}
use Rattle.std.specs.Prelude.{◌==◌}
use Rattle.std.proofs.lemmas.Bool.Decides.{nat_tests}
use Rattle.sts_code.specs.Program.{Program}
use Rattle.sts_asm.specs.declared.fault.AsmError.{AsmError}
use Rattle.sts_output.specs.Kept.{KeepsFault, fault_in, kept_fault}
use Rattle.sts_output.specs.Reasons.{Adds, first_reason, status_reason}
use Rattle.sts_output.specs.declared.assembled.Assembled.{Assembled}

-- the fault that is kept is that of the text
pub own_fault : (read : Result Program AsmError) (old new : Assembled) → KeepsFault read old new → kept_fault old ≡ None → kept_fault new ≡ fault_in read
own_fault (Ok p) old new keeps none = keeps none
own_fault (Err e) old new keeps none = ap kept_fault keeps

-- the line about the fault that is kept is the one about the fault of the text
pub own_line : (program : List ℕ) (status : ℕ) (name text : List ℕ) (read : Result Program AsmError) (old new : Assembled) (fault : Option AsmError) (of_events : Option (List ℕ)) (before after : List ℕ)
    → (status ≡ 3 → KeepsFault read old new) → kept_fault old ≡ None → fault ≡ kept_fault new → Adds before after (status_reason program status name text fault of_events)
    → Adds before after (status_reason program status name text (fault_in read) of_events)
own_line program status name text read old new fault of_events before after keeps none given line = by_status (status == 3) refl line where
  by_status : (is : Bool) → (status == 3) ≡ is → Adds before after (status_reason program status name text fault of_events) → Adds before after (status_reason program status name text (fault_in read) of_events)
  by_status true e h = rw (sym (given ∙ own_fault read old new (keeps (grind (arith, nat_tests, e))) none)) h
  by_status false e h = rw e (rw e at h)

-- the line of the status of a fault
pub faulty_reason : (program : List ℕ) (status : ℕ) (name text : List ℕ) (fault own : Option AsmError) (of_events : Option (List ℕ)) → status ≡ 3 → fault ≡ own
    → status_reason program status name text fault of_events ≡ first_reason program name text own of_events
faulty_reason program status name text fault own of_events three same = rw (three, same) refl
