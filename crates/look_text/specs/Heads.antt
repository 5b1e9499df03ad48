-- The line that begins a function (this project's own).
use Rattle.std.specs.Prelude.{◌≡◌, ℕ, ◌+◌, ◌<◌, ◌≤◌, Bool, false, List, [], ◌∷◌, take, length}
use Rattle.std.specs.Prelude.{slice_get, Option, Some, Ok, if◌then◌else◌, codes}
use Rattle.std.specs.Str.{bytes_eq}
use Rattle.sts_text.specs.Words.{lines}
use Rattle.sts_asm.specs.Outline.{Outline}
use Rattle.sts_asm.specs.Source.{outlined, name_at, words_of, words_at}

-- is this the first of the words?
abbrev pub begins_with : List (List ℕ) → List ℕ → Bool
begins_with [] keyword = false
begins_with (word ∷ rest) keyword = bytes_eq word keyword

-- do these words begin a function?
abbrev pub is_head : List (List ℕ) → Bool
is_head words = begins_with words (codes "func")

-- the numbers of the lines that begin a function; the first of these lines has this number
abbrev pub heads_from : ℕ → List (List ℕ) → List ℕ
heads_from number [] = []
heads_from number (line ∷ more) =
    if is_head (words_of (Some line)) then number ∷ heads_from (number + 1) more
    else heads_from (number + 1) more

-- the number of the line that begins this function; functions are counted from 0
abbrev pub head_at : List ℕ → ℕ → Option ℕ
head_at text f = slice_get (heads_from 1 (lines text)) f

-- the line of this number is one of the text, and begins with `func` and this name
abbrev pub Begins : List ℕ → List ℕ → ℕ → Type 0
Begins text name line =
    (0 < line) × (line ≤ length (lines text))
    × (take 2 (words_at text line) ≡ codes "func" ∷ name ∷ [])

-- Each function of a text has its line there, which begins with `func` and its name.
abbrev pub HeadsBeginFunctions : Type 0
HeadsBeginFunctions =
    (text : List ℕ) (o : Outline) (f : ℕ) (name : List ℕ) → outlined text ≡ Ok o
    → name_at o f ≡ Some name → (line : ℕ) × ((head_at text f ≡ Some line) × Begins text name line)
