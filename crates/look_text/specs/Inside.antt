-- Whether a function is open before a line (this project's own).
use Rattle.std.specs.Prelude.{ℕ, ◌+◌, List, [], ◌∷◌, Bool, true, false, Some, ◌==◌}
use Rattle.std.specs.Prelude.{codes, if◌then◌else◌}
use Rattle.std.specs.Str.{bytes_eq}
use Rattle.sts_text.specs.Words.{lines}
use Rattle.sts_asm.specs.Source.{words_of}

-- is a function open after these words? `inside` says whether one was open before them
abbrev pub is_open_after : Bool → List (List ℕ) → Bool
is_open_after inside [] = inside
is_open_after inside (word ∷ rest) =
    if bytes_eq word (codes "func") then true
    else (if bytes_eq word (codes "end") then false else inside)

-- is one open before the line of this number, if these are the lines from another number on?
abbrev pub is_open_before : ℕ → Bool → ℕ → List (List ℕ) → Bool
is_open_before line inside number [] = inside
is_open_before line inside number (first ∷ more) =
    if number == line then inside
    else is_open_before line (is_open_after inside (words_of (Some first))) (number + 1) more

-- is a function of the text open before the line of this number?
abbrev pub is_inside : List ℕ → ℕ → Bool
is_inside text line = is_open_before line false 1 (lines text)
