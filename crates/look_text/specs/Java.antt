-- The words here for words of Java, or of its API (this project's own).
use Rattle.std.specs.Prelude.{ℕ, ◌==◌, List, [], ◌∷◌, Bool, ◌||◌, codes, Option}
use Rattle.std.specs.List.{after_last, before_first}
use Rattle.sts_asm.specs.Operand.{looked_up}
use Rattle.look_text.specs.declared.wanted.Expected.{Expected}
use Rattle.look_text.specs.declared.wanted.Expected.TheVariants as w

-- ---- the name in a word

-- a parenthesis
abbrev pub is_paren : ℕ → Bool
is_paren b = b == 40 || b == 41

-- a dot, or the end of type arguments
abbrev pub is_joint : ℕ → Bool
is_joint b = b == 46 || b == 62

-- the name before a parenthesis, without the parts before it: `Joiner.<String>awaitAll()` has
-- `awaitAll`, `scope.fork(()` has `fork`, and `})` has `}`
abbrev pub java_name : List ℕ → List ℕ
java_name word = after_last is_joint (before_first is_paren word)

-- ---- names of Java, each with the word here

-- the methods of `Joiner`
abbrev pub joiners_of_java : List (List ℕ × List ℕ)
joiners_of_java =
    (codes "allSuccessfulOrThrow", codes "all")
    ∷ (codes "awaitAllSuccessfulOrThrow", codes "awaitok")
    ∷ (codes "anySuccessfulResultOrThrow", codes "any")
    ∷ (codes "awaitAll", codes "awaitall")
    ∷ (codes "allUntil", codes "until") ∷ []

-- what begins a line of a method, or is called there
abbrev pub statements_of_java : List (List ℕ × List ℕ)
statements_of_java =
    (codes "try", codes "open")
    ∷ (codes "open", codes "open")
    ∷ (codes "withTimeout", codes "timed, at the end of open,")
    ∷ (codes "fork", codes "fork")
    ∷ (codes "join", codes "join")
    ∷ (codes "close", codes "close")
    ∷ (codes "isCancelled", codes "cancelled")
    ∷ (codes "state", codes "case")
    ∷ (codes "get", codes "get of a subtask or read of a key")
    ∷ (codes "exception", codes "except")
    ∷ (codes "where", codes "bind")
    ∷ (codes "isBound", codes "bound")
    ∷ (codes "orElse", codes "orelse")
    ∷ (codes "interrupted", codes "interrupted")
    ∷ (codes "isInterrupted", codes "interrupted")
    ∷ (codes "return", codes "ret")
    ∷ (codes "throw", codes "fail")
    ∷ (codes "catch", codes "a label of join")
    ∷ (codes "if", codes "jz")
    ∷ (codes "for", codes "times")
    ∷ (codes "while", codes "times")
    ∷ (codes "var", codes "a slot or a local")
    ∷ (codes "}", codes "close, next or end")
    ∷ (codes "//", codes ";") ∷ []

-- a method of a scope's configuration, or a comment
abbrev pub timeouts_of_java : List (List ℕ × List ℕ)
timeouts_of_java = (codes "withTimeout", codes "timed") ∷ (codes "//", codes ";") ∷ []

-- what begins a comment behind an instruction
abbrev pub comments_of_java : List (List ℕ × List ℕ)
comments_of_java = (codes "//", codes ";") ∷ []

-- what begins the head of a method
abbrev pub heads_of_java : List (List ℕ × List ℕ)
heads_of_java =
    (codes "static", codes "func")
    ∷ (codes "public", codes "func")
    ∷ (codes "private", codes "func")
    ∷ (codes "void", codes "func")
    ∷ (codes "//", codes ";") ∷ []

-- the names that may be written at a place of a line
abbrev pub names_of_java : Expected → List (List ℕ × List ℕ)
names_of_java w.Joiner = joiners_of_java
names_of_java w.Inner = statements_of_java
names_of_java w.Timed = timeouts_of_java
names_of_java w.Nothing = comments_of_java
names_of_java w.Outer = heads_of_java
names_of_java wanted = []

-- the word here for a word of Java that is written at this place
abbrev pub java_word : Expected → List ℕ → Option (List ℕ)
java_word wanted word = looked_up (names_of_java wanted) (java_name word)
