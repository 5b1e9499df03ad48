-- The labels that come after the last instruction of a function (this project's own).
use Rattle.std.specs.Prelude.{◌≡◌, ℕ, ◌-◌, ◌<◌, List, [], ◌∷◌, drop, length, Bool, false, not}
use Rattle.std.specs.Prelude.{◌&&◌, ◌||◌, nat_le, Option, Some, None, Ok, slice_get, codes}
use Rattle.std.specs.List.{list_any}
use Rattle.std.specs.Str.{bytes_eq}
use Rattle.sts_text.specs.Words.{lines}
use Rattle.sts_asm.specs.Marks.{Mark}
use Rattle.sts_asm.specs.Outline.{Sentence, Draft, Outline, label_of}
use Rattle.sts_asm.specs.Source.{outlined, sentences_of, words_of}
use Rattle.look_text.specs.Heads.{begins_with}

-- is this the name?
abbrev pub is_named : Option (List ℕ) → List ℕ → Bool
is_named None word = false
is_named (Some name) word = bytes_eq name word

-- do these words end a function?
abbrev pub is_end : List (List ℕ) → Bool
is_end words = begins_with words (codes "end")

-- do they give this label?
abbrev pub gives : List (List ℕ) → List ℕ → Bool
gives [] name = false
gives (word ∷ rest) name = is_named (label_of word) name

-- does one of these lines give this label, before one ends the function?
abbrev pub are_giving : List (List ℕ) → List ℕ → Bool
are_giving [] name = false
are_giving (line ∷ more) name =
    not (is_end (words_of (Some line)))
    && (gives (words_of (Some line)) name || are_giving more name)

-- the number of a line; of none it is 0
abbrev pub number_of : Option Sentence → ℕ
number_of None = 0
number_of (Some s) = s.line

-- the number of the line of the last of these instructions
abbrev pub last_line : List Sentence → ℕ
last_line code = number_of (slice_get code (length code - 1))

-- does this label of a function come after the last of its instructions?
abbrev pub is_behind : List ℕ → Outline → ℕ → List ℕ → Bool
is_behind text o f name =
    are_giving (drop (last_line (sentences_of (slice_get o.done f))) (lines text)) name

-- is there a label of this name in a function that names none of its instructions?
abbrev pub names_none : Draft → List ℕ → Bool
names_none d name =
    list_any (λ (m : Mark). bytes_eq m.name name && nat_le (length d.code) m.at) d.labels

-- In a function with instructions, a label comes after the last one if and only if it names none.
abbrev pub BehindNamesNone : Type 0
BehindNamesNone =
    (text : List ℕ) (o : Outline) (f : ℕ) (d : Draft) (name : List ℕ) → outlined text ≡ Ok o
    → slice_get o.done f ≡ Some d → 0 < length d.code
    → is_behind text o f name ≡ names_none d name
