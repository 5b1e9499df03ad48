-- What is printed of ends in lines (this project's own).
use Rattle.std.specs.Prelude.{ℕ, List, ◌++◌, Bool, Option}
use Rattle.sts_code.specs.Program.{Program}
use Rattle.ends_plain.specs.declared.config.Found.{Found}
use Rattle.ends_plain.specs.declared.config.Setting.{Setting}
use Rattle.look_refusal.specs.Output.{fault_output}
use Rattle.look_end_lines.specs.Calls.{calls_lines}
use Rattle.look_end_lines.specs.Form.{EndsForm}
use Rattle.look_end_lines.specs.Lines.{by_calls_line, found_lines, no_number_line, refused_line}
use Rattle.look_end_lines.specs.Lines.{sampled_lines, schedules_line, states_line, unfinished_line}

-- a line for each end, then what is to be said of all of them
abbrev pub search_lines : List ℕ → Setting → Bool → Option ℕ → List Found → ℕ → Bool → Option ℕ
    → List ℕ
search_lines text g is_refused number found states whole by_calls =
    found_lines text g.program found 0 ++ (refused_line g is_refused whole found
    ++ (by_calls_line by_calls ++ (states_line whole states ++ no_number_line number found)))

-- a line for each end of random schedules, with how often it came, and what is to be said of all
abbrev pub sample_lines : List ℕ → Program → ℕ → ℕ → Option ℕ → List Found → List ℕ → ℕ → List ℕ
sample_lines text p schedules seed number found times unfinished =
    sampled_lines text p found times schedules 0 ++ (unfinished_line unfinished
    ++ (schedules_line schedules seed ++ no_number_line number found))

abbrev pub lines_form : EndsForm
lines_form = record {
  of_search = search_lines;
  of_sample = sample_lines;
  of_calls = calls_lines;
  of_text_fault = fault_output;
}
