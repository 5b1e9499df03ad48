-- Lines of cases, and the lines that answer them (this project's own).
use Rattle.std.specs.Prelude.{◌≡◌, ◌⊎◌, ℕ, ◌+◌, List, [], ◌∷◌, ◌++◌, length, Some, None, IsUtf8}
use Rattle.serde_json.specs.Data.{Data}
use Rattle.serde_json.specs.Read.{read}
use Rattle.serde_json.specs.Written.{compact_text}
use Rattle.sts_text.specs.Words.{lines}
use Rattle.sts_output.specs.Output.{Output, memory_output}
use Rattle.look_cases.specs.Answer.{IsAnswer, no_case}
use Rattle.look_cases.specs.Case.{case_of}

-- the answer to a line of this number, which may be JSON
pub data IsReply (n : ℕ) (line : List ℕ) (d : Data) : Type 0 where
  json : (said : Data) → IsUtf8 line → read line ≡ Some said → IsAnswer n (case_of said) d
      → IsReply n line d
  other : (IsUtf8 line → read line ≡ None) → d ≡ no_case n → IsReply n line d

-- an empty line has no answer, and any other has a line of compact JSON
abbrev pub IsReplyLine : ℕ → List ℕ → List ℕ → Type 0
IsReplyLine n [] reply = reply ≡ []
IsReplyLine n (b ∷ bs) reply =
    (d : Data) × IsReply n (b ∷ bs) d × (reply ≡ compact_text d ++ 10 ∷ [])

-- the replies to these lines, in order; a line has its number, from 1
pub data AreReplies : List (List ℕ) → List ℕ → Type 0 where
  none : AreReplies [] []
  more : (lines : List (List ℕ)) (replies line reply : List ℕ) → AreReplies lines replies
      → IsReplyLine (length lines + 1) line reply → AreReplies (lines ++ line ∷ []) (replies ++ reply)

-- the replies to all lines of an input, with status 0, or that memory was refused
abbrev pub IsRepliesTo : List ℕ → Output → Type 0
IsRepliesTo input o = (AreReplies (lines input) o.bytes × (o.status ≡ 0)) ⊎ (o ≡ memory_output)
