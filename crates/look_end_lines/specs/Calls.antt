-- The lines of the ends of calls, with the names of a text (this project's own).
use Rattle.std.specs.Prelude.{ℕ, ◌+◌, List, [], ◌∷◌, ◌++◌, Bool}
use Rattle.std.specs.Prelude.{if◌then◌else◌, codes, length, Option, Some, None}
use Rattle.std.specs.Fmt.{decimal}
use Rattle.sts_code.specs.Program.{Program}
use Rattle.sts_model.specs.declared.event.Event.{Event}
use Rattle.look_calls.specs.declared.found.CallEnd.{CallEnd}
use Rattle.look_names.specs.Words.{arguments_words, function_words}
use Rattle.look_end_lines.specs.Lines.{found_at, head_words, no_number_line}
use Rattle.look_run.specs.States.{end_line}

-- ---- an end of a call

-- `charge(10)`
abbrev pub call_words : List ℕ → Program → CallEnd → List ℕ
call_words text p c = function_words text p c.function ++ arguments_words text c.arguments.items

-- whether the joiner of the scope was told of the end
abbrev pub unheard_words : Bool → List ℕ
unheard_words is_heard = if is_heard then [] else codes "unheard "

-- `2 after 9 events: charge(10): unheard success 10`
abbrev pub call_line : List ℕ → Program → ℕ → CallEnd → List ℕ
call_line text p place c =
    head_words place (length c.trace.items) ++ (codes ": " ++ (call_words text p c ++ (codes ": "
    ++ (unheard_words c.is_heard ++ end_line text c.end))))

-- the lines of these ends, the first of which is at this place
abbrev pub call_lines : List ℕ → Program → List CallEnd → ℕ → List ℕ
call_lines text p [] place = []
call_lines text p (c ∷ cs) place = call_line text p place c ++ call_lines text p cs (place + 1)

-- ---- below the ends

abbrev pub cut_off_line : Bool → List ℕ
cut_off_line is_cut_off = if is_cut_off then codes "stopped, not all calls were tried\n" else []

-- each line has a trace that shows it. Nothing says that these are all ends
abbrev pub searched_line : ℕ → List ℕ
searched_line states =
    codes "a search by calls of " ++ decimal states
    ++ codes " states; calls may have more ends than these\n"

-- a refused program isn't searched
abbrev pub below_calls : Bool → ℕ → Bool → List ℕ
below_calls is_refused states is_cut_off =
    if is_refused then codes "refused, so its calls were not searched\n"
    else cut_off_line is_cut_off ++ searched_line states

-- ---- all that is printed

abbrev pub calls_lines : List ℕ → Program → Bool → Option ℕ → List CallEnd → ℕ → Bool → List ℕ
calls_lines text p is_refused number found states is_cut_off =
    call_lines text p found 0
    ++ (below_calls is_refused states is_cut_off ++ no_number_line number found)

-- ---- the trace that is kept

abbrev pub events_of_call : Option CallEnd → List Event
events_of_call None = []
events_of_call (Some c) = c.trace.items

-- the trace of the end whose number is asked for
abbrev pub trace_of_call : Option ℕ → List CallEnd → List Event
trace_of_call None found = []
trace_of_call (Some k) found = events_of_call (found_at found k)
