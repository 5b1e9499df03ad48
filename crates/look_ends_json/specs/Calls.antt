-- The ends of calls as lines of JSON (this project's own; docs/IMPLEMENTERS.md has the schema).
use Rattle.std.specs.Prelude.{ℕ, ◌+◌, List, [], ◌∷◌, ◌++◌, Bool, false, length, Option, codes}
use Rattle.serde_json.specs.Data.{Data, array, boolean, string}
use Rattle.serde_json.specs.View.{items_of}
use Rattle.sts_code.specs.Program.{Program, routine}
use Rattle.look_calls.specs.declared.found.CallEnd.{CallEnd}
use Rattle.look_cases.specs.Answer.{version}
use Rattle.look_cases.specs.Json.{count, count_or_null, object_of}
use Rattle.look_ends_json.specs.Outcome.{ended, missing}
use Rattle.look_names.specs.Names.{function_name}
use Rattle.look_views.specs.Named.{named}
use Rattle.look_views.specs.Task.{integers}
use Rattle.look_views.specs.Views.{line}

-- the end of a call, without its arguments and its end
abbrev pub call_head : Program → ℕ → CallEnd → Data
call_head p place c = object_of (
    (codes "after", count (length c.trace.items)) ∷
    (codes "end", count (place + 1)) ∷
    (codes "function", string (routine p c.function).name) ∷
    (codes "heard", boolean c.is_heard) ∷
    (codes "version", version) ∷ [])

-- the end of a call at a place, which has the next number, and the length of its trace
abbrev pub call : List ℕ → Program → ℕ → CallEnd → Data
call text p place c = object_of (
    (codes "after", count (length c.trace.items)) ∷
    (codes "arguments", array (items_of (integers c.arguments.items))) ∷
    (codes "end", count (place + 1)) ∷
    (codes "function", string (routine p c.function).name) ∷
    (codes "heard", boolean c.is_heard) ∷
    (codes "task", ended text c.end) ∷
    (codes "version", version) ∷ [])

-- with the name of its function
abbrev pub call_end : List ℕ → Program → ℕ → CallEnd → Data
call_end text p place c =
    named (codes "function_name") (function_name text c.function) (call text p place c)

-- the lines of these ends, the first of which is at this place
abbrev pub call_lines : List ℕ → Program → List CallEnd → ℕ → List ℕ
call_lines text p [] place = []
call_lines text p (c ∷ cs) place =
    line (call_end text p place c) ++ call_lines text p cs (place + 1)

-- the last line
abbrev pub calls : Bool → ℕ → Bool → Option ℕ → Data
calls is_refused states is_cut_off no_end = object_of (
    (codes "all_ends", boolean false) ∷
    (codes "no_end", count_or_null no_end) ∷
    (codes "refused", boolean is_refused) ∷
    (codes "states", count states) ∷
    (codes "stopped", boolean is_cut_off) ∷
    (codes "version", version) ∷ [])

abbrev pub calls_lines : List ℕ → Program → Bool → Option ℕ → List CallEnd → ℕ → Bool → List ℕ
calls_lines text p is_refused number found states is_cut_off =
    call_lines text p found 0
    ++ line (calls is_refused states is_cut_off (missing number found))
