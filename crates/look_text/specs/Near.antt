-- The known word that a wrong one is near to (this project's own).
use Rattle.std.specs.Prelude.{◌≡◌, ℕ, ◌+◌, pos, List, [], ◌∷◌, ◌++◌, drop, length, map, find}
use Rattle.std.specs.Prelude.{Bool, true, false, ◌||◌, ◌&&◌, ◌==◌, nat_lt, nat_le, if◌then◌else◌}
use Rattle.std.specs.Prelude.{Option, None, codes}
use Rattle.std.specs.List.{list_any}
use Rattle.std.specs.Option.{option_or}
use Rattle.std.specs.Str.{bytes_eq}
use Rattle.sts_code.specs.declared.instr.Instr.{Instr}
use Rattle.sts_code.specs.declared.instr.Instr.TheVariants as i
use Rattle.sts_code.specs.declared.instr.Joiner.{Joiner}
use Rattle.sts_code.specs.declared.instr.Joiner.TheVariants.{AllSucceed, AnySucceeds, AwaitOk}
use Rattle.sts_code.specs.declared.instr.Joiner.TheVariants.{AwaitAll, Until}
use Rattle.sts_code.specs.declared.instr.Pred.{Pred}
use Rattle.sts_code.specs.declared.instr.Pred.TheVariants.{Failed, Success, AtLeast}
use Rattle.sts_code.specs.declared.instr.Kind.TheVariants.{S}
use Rattle.sts_list.specs.Spelling.{keyword, joiner_words, condition_words, timed_words}
use Rattle.look_text.specs.declared.near.Nearness.{Nearness}
use Rattle.look_text.specs.declared.near.Nearness.TheVariants as n
use Rattle.look_text.specs.declared.wanted.Expected.{Expected}
use Rattle.look_text.specs.declared.wanted.Expected.TheVariants as w

-- ---- two words

-- the first two letters change places
abbrev pub is_swapped : List ℕ → List ℕ → Bool
is_swapped (a ∷ b ∷ xs) (c ∷ d ∷ ys) = a == d && (b == c && bytes_eq xs ys)
is_swapped xs ys = false

-- the first letter is changed, left out or added, or changes places with the second
abbrev pub is_one_off : List ℕ → List ℕ → Bool
is_one_off a b =
    bytes_eq (drop 1 a) (drop 1 b) || (bytes_eq (drop 1 a) b || (bytes_eq a (drop 1 b)
    || is_swapped a b))

-- one letter apart, after what both begin with
abbrev pub is_one_apart : List ℕ → List ℕ → Bool
is_one_apart [] ys = length ys == 1
is_one_apart (x ∷ xs) [] = length (x ∷ xs) == 1
is_one_apart (x ∷ xs) (y ∷ ys) =
    if x == y then is_one_apart xs ys else is_one_off (x ∷ xs) (y ∷ ys)

-- one of them is longer, and begins with the second one
abbrev pub begins_other : List ℕ → List ℕ → Bool
begins_other [] ys = nat_lt 0 (length ys)
begins_other (x ∷ xs) [] = true
begins_other (x ∷ xs) (y ∷ ys) = x == y && begins_other xs ys

-- a letter in lower case; other bytes stay
abbrev pub lower : ℕ → ℕ
lower b = if nat_le 65 b && nat_le b 90 then b + 32 else b

-- the same word, if upper and lower case count as one
abbrev pub is_same_word : List ℕ → List ℕ → Bool
is_same_word [] ys = length ys == 0
is_same_word (x ∷ xs) [] = false
is_same_word (x ∷ xs) (y ∷ ys) = lower x == lower y && is_same_word xs ys

-- the same word in other case
abbrev pub is_other_case : List ℕ → List ℕ → Bool
is_other_case a b = if bytes_eq a b then false else is_same_word a b

-- two words are near in this way
abbrev pub is_near : Nearness → List ℕ → List ℕ → Bool
is_near n.OtherCase word = is_other_case word
is_near n.OneApart word = is_one_apart word
is_near n.Begins word = begins_other word

-- ---- the words of the language

-- one instruction of each kind, in the order of the rows
abbrev pub each_instr : List Instr
each_instr =
    i.Push (pos 0) ∷ i.Pop ∷ i.Dup ∷ i.Swap ∷ i.Load 0 ∷ i.Store 0 ∷ i.Add ∷ i.Sub ∷ i.Mul ∷ i.Lt
    ∷ i.Eq ∷ i.Div 0 ∷ i.Jmp 0 ∷ i.Jz 0 ∷ i.Times 0 ∷ i.Next ∷ i.Open 0 false AllSucceed
    ∷ i.Fork 0 0 None ∷ i.Join 0 None None 0 ∷ i.Close 0 ∷ i.Cancelled 0 ∷ i.Case 0 0 0 ∷ i.Get 0
    ∷ i.Except 0 ∷ i.Tally 0 S ∷ i.Total 0 ∷ i.Forget 0 ∷ i.Bind 0 ∷ i.Unbind ∷ i.Read 0
    ∷ i.Bound 0 ∷ i.OrElse 0 ∷ i.Interrupted ∷ i.Ret ∷ i.Fail ∷ []

-- one joiner of each kind
abbrev pub each_joiner : List Joiner
each_joiner =
    AllSucceed ∷ AnySucceeds ∷ AwaitAll ∷ AwaitOk ∷ Until (Failed 0) ∷ []

-- one condition of each kind
abbrev pub each_condition : List Pred
each_condition = Failed 0 ∷ Success 0 ∷ AtLeast (pos 0) ∷ []

abbrev pub first_of : List (List ℕ) → List ℕ
first_of [] = []
first_of (word ∷ rest) = word

-- the words that begin a line in a function
abbrev pub inner_words : List (List ℕ)
inner_words = map keyword each_instr ++ codes "end" ∷ []

abbrev pub outer_words : List (List ℕ)
outer_words = codes "func" ∷ codes "profile" ∷ []

-- the first words of the joiners
abbrev pub first_joiner_words : List (List ℕ)
first_joiner_words = map (λ joiner. first_of (joiner_words joiner)) each_joiner

-- the first words of the conditions of `until`
abbrev pub first_condition_words : List (List ℕ)
first_condition_words = map (λ condition. first_of (condition_words condition)) each_condition

-- those that may be expected at a place of a line
abbrev pub known_words : Expected → List (List ℕ)
known_words w.Inner = inner_words
known_words w.Outer = outer_words
known_words w.Joiner = first_joiner_words
known_words w.Condition = first_condition_words
known_words w.Timed = timed_words true
known_words w.Needs = codes "needs" ∷ []
known_words wanted = []

-- ---- no kind is left out

-- the word is among these
abbrev pub IsKnown : List (List ℕ) → List ℕ → Type 0
IsKnown words word = list_any (bytes_eq word) words ≡ true

-- The first word of each instruction, joiner and condition is among the words that are known where
-- it is expected.
pub record AllAreKnown : Type 0 where
  pub instrs : (instr : Instr) → IsKnown (known_words w.Inner) (keyword instr)
  pub joiners : (joiner : Joiner) → IsKnown (known_words w.Joiner) (first_of (joiner_words joiner))
  pub conditions : (condition : Pred)
      → IsKnown (known_words w.Condition) (first_of (condition_words condition))

-- ---- the near one

-- The word itself in other case, or else the first of these words that is one letter apart. If there
-- is none, the first one that begins the word, or begins with it. So `OPEN`, `jnz`, `gt` and `puhs`
-- are near open, jz, lt and push, and `returns` is near ret.
abbrev pub near_of : List (List ℕ) → List ℕ → Option (List ℕ)
near_of words word =
    option_or (find (is_other_case word) words)
    (option_or (find (is_one_apart word) words) (find (begins_other word) words))

-- the word that a person may have meant by one that isn't what is expected there
abbrev pub meant : Expected → List ℕ → Option (List ℕ)
meant wanted word = near_of (known_words wanted) word
