-- The name that a person may have meant by one that names nothing (this project's own).
use Rattle.std.specs.Prelude.{ℕ, List, [], ◌∷◌, Option, Some, None, option_map, option_and_then}
use Rattle.std.specs.Prelude.{if◌then◌else◌, codes, find}
use Rattle.std.specs.List.{flat_map}
use Rattle.std.specs.Option.{option_or}
use Rattle.std.specs.Str.{bytes_eq}
use Rattle.sts_text.specs.Words.{lines}
use Rattle.sts_asm.specs.Marks.{Names}
use Rattle.sts_asm.specs.Outline.{Draft, Outline, label_of}
use Rattle.sts_asm.specs.Source.{words_of}
use Rattle.look_text.specs.declared.wanted.Expected.{Expected}
use Rattle.look_text.specs.declared.wanted.Expected.TheVariants as w
use Rattle.look_text.specs.Names.{is_label, lines_stop}
use Rattle.look_text.specs.Near.{begins_other, is_one_apart, near_of}
use Rattle.look_text.specs.Wanted.{Stop}

-- ---- the names of a text

-- the name of the function that these words begin
abbrev pub function_given : List (List ℕ) → Option (List ℕ)
function_given (first ∷ name ∷ rest) =
    if bytes_eq first (codes "func") then Some name else None
function_given words = None

-- a label, if it is one of those that are known
abbrev pub known_label : Names → List ℕ → Option (List ℕ)
known_label names label = if is_label names label then Some label else None

-- the label that these words give, if it is one of those that are known
abbrev pub label_given : Names → List (List ℕ) → Option (List ℕ)
label_given names [] = None
label_given names (word ∷ rest) = option_and_then (known_label names) (label_of word)

-- the name that these words give: that of a function, or a label
abbrev pub name_given : Names → Expected → List (List ℕ) → Option (List ℕ)
name_given names w.KnownFunction words = function_given words
name_given names wanted words = label_given names words

abbrev pub listed : Option (List ℕ) → List (List ℕ)
listed None = []
listed (Some name) = name ∷ []

-- the names that these lines give
abbrev pub names_given : Names → Expected → List (List ℕ) → List (List ℕ)
names_given names wanted lines =
    flat_map (λ line. listed (name_given names wanted (words_of (Some line)))) lines

-- ---- the near one

-- the first one that is one letter apart, or else the first one that begins the word or begins
-- with it
abbrev pub similar_of : List (List ℕ) → List ℕ → Option (List ℕ)
similar_of names word = option_or (find (is_one_apart word) names) (find (begins_other word) names)

-- what is expected where a line stops, and the word that is there
abbrev pub missing : Option Stop → Option (Expected × List ℕ)
missing None = None
missing (Some s) = option_map (λ word. (s.wanted, word)) s.word

-- the name that may be meant where a line stops
abbrev pub near_name : List ℕ → Names → Option Stop → Option (List ℕ)
near_name text names stop =
    option_and_then (λ m. near_of (names_given names m.0 (lines text)) m.1) (missing stop)

-- where it stops, or else a name of a later function
abbrev pub near_or : List ℕ → Names → Option Stop → Option (List ℕ) → Option (List ℕ)
near_or text names None later = later
near_or text names (Some stop) later = near_name text names (Some stop)

-- the name that may be meant in the first of these functions with a word that names nothing
abbrev pub near_in : List ℕ → Outline → List Draft → Option (List ℕ)
near_in text o [] = None
near_in text o (d ∷ rest) =
    near_or text (record { labels = d.labels; functions = o.functions })
    (lines_stop (record { labels = d.labels; functions = o.functions }) d.code)
    (near_in text o rest)
