-- The lines of ends, with the lines and the names of a text, and what is printed below them (this
-- project's own).
use Rattle.std.specs.Prelude.{ℕ, ◌+◌, ◌-◌, ◌==◌, List, [], ◌∷◌, ◌++◌, Bool, true, false, not, ◌&&◌}
use Rattle.std.specs.Prelude.{if◌then◌else◌, codes, length, slice_get, Option, Some, None, is_some}
use Rattle.std.specs.List.{list_any}
use Rattle.std.specs.Fmt.{decimal}
use Rattle.sts_code.specs.Program.{Program}
use Rattle.sts_plain.specs.declared.misstep.PlainState.{PlainState}
use Rattle.sts_plain.specs.declared.misstep.PlainState.TheVariants as plain
use Rattle.ends_plain.specs.declared.config.Found.{Found}
use Rattle.ends_plain.specs.declared.config.Setting.{Setting}
use Rattle.look_run.specs.States.{state_line}

-- ---- an end

-- the number of the end at this place, which is counted from 0, and the length of its trace
abbrev pub head_words : ℕ → ℕ → List ℕ
head_words place events =
    decimal (place + 1) ++ codes " after " ++ decimal events ++ codes " events"

-- `1 after 14 events: success 42`
abbrev pub found_line : List ℕ → Program → ℕ → Found → List ℕ
found_line text p place f = head_words place (length f.trace) ++ codes ": " ++ state_line text p f.end

-- the lines of these ends, the first of which is at this place
abbrev pub found_lines : List ℕ → Program → List Found → ℕ → List ℕ
found_lines text p [] place = []
found_lines text p (f ∷ fs) place = found_line text p place f ++ found_lines text p fs (place + 1)

-- `, in 183 of 200 schedules: `
abbrev pub share_words : ℕ → ℕ → List ℕ
share_words times schedules =
    codes ", in " ++ decimal times ++ codes " of " ++ decimal schedules ++ codes " schedules: "

-- `1 after 14 events, in 183 of 200 schedules: success 42`
abbrev pub sampled_line : List ℕ → Program → ℕ → Found → ℕ → ℕ → List ℕ
sampled_line text p place f times schedules =
    head_words place (length f.trace) ++ (share_words times schedules ++ state_line text p f.end)

abbrev pub times_or_none : Option ℕ → ℕ
times_or_none None = 0
times_or_none (Some n) = n

-- how often the end at a place came
abbrev pub times_at : List ℕ → ℕ → ℕ
times_at times place = times_or_none (slice_get times place)

-- the lines of these ends, with the number of times that each came
abbrev pub sampled_lines : List ℕ → Program → List Found → List ℕ → ℕ → ℕ → List ℕ
sampled_lines text p [] times schedules place = []
sampled_lines text p (f ∷ fs) times schedules place =
    sampled_line text p place f (times_at times place) schedules
    ++ sampled_lines text p fs times schedules (place + 1)

-- ---- below the ends

abbrev pub is_fault : PlainState → Bool
is_fault (plain.Fault kind t f pc) = true
is_fault _ = false

abbrev pub has_fault : List Found → Bool
has_fault found = list_any (λ (f : Found). is_fault f.end) found

-- the interrupts of the runs that were searched: at most this many
abbrev pub interrupt_words : ℕ → List ℕ
interrupt_words most =
    if most == 0 then codes "without interrupts"
    else if most == 1 then codes "with at most 1 interrupt"
    else codes "with at most " ++ decimal most ++ codes " interrupts"

-- the expiries of these runs: any, or none
abbrev pub expiry_words : Bool → List ℕ
expiry_words may_expire = if may_expire then [] else codes " and without expiries"

-- `refused, but no run without interrupts faults`
abbrev pub no_fault_words : Bool → ℕ → List ℕ
no_fault_words may_expire most =
    codes "refused, but no run "
    ++ (interrupt_words most ++ (expiry_words may_expire ++ codes " faults\n"))

-- the program is refused, these are the ends of all runs with these events, and none is a fault
abbrev pub refused_line : Setting → Bool → Bool → List Found → List ℕ
refused_line g is_refused whole found =
    if is_refused && (whole && not (has_fault found)) then no_fault_words g.expiries g.interrupts
    else []

abbrev pub states_line : Bool → ℕ → List ℕ
states_line whole states =
    if whole then decimal states ++ codes " states, all schedules\n"
    else codes "stopped at " ++ decimal states ++ codes " states, not all schedules\n"

-- the states of a search by calls that found no other end. It is not proved that there is none
abbrev pub by_calls_line : Option ℕ → List ℕ
by_calls_line None = []
by_calls_line (Some states) =
    codes "a search by calls of " ++ decimal states
    ++ codes " states found no other end; that there is none is not proved\n"

-- schedules that came to no end
abbrev pub unfinished_line : ℕ → List ℕ
unfinished_line unfinished =
    if unfinished == 0 then [] else decimal unfinished ++ codes " schedules were cut off\n"

abbrev pub seed_words : ℕ → List ℕ
seed_words seed =
    codes " random schedules by seed " ++ decimal seed ++ codes ", not all schedules\n"

abbrev pub schedules_line : ℕ → ℕ → List ℕ
schedules_line schedules seed = decimal schedules ++ seed_words seed

-- ---- the end whose trace is kept

-- the end of a number, the first one having number 1
abbrev pub found_at : {A : Type 0} → List A → ℕ → Option A
found_at found k = if k == 0 then None else slice_get found (k - 1)

abbrev pub is_number : {A : Type 0} → List A → ℕ → Bool
is_number found k = is_some (found_at found k)

-- is there an end of the number that is asked for, if one is?
abbrev pub has_number : {A : Type 0} → Option ℕ → List A → Bool
has_number None found = true
has_number (Some k) found = is_number found k

abbrev pub unless_there : {A : Type 0} → ℕ → List A → List ℕ
unless_there k found =
    if is_number found k then [] else codes "no end has number " ++ decimal k ++ codes "\n"

abbrev pub no_number_line : {A : Type 0} → Option ℕ → List A → List ℕ
no_number_line None found = []
no_number_line (Some k) found = unless_there k found
