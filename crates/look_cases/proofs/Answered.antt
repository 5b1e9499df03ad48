-- The replies to the lines of an input, line by line.
use Rattle.std.proofs.Common.{◌≡◌, ◌≢◌, ℕ, ◌+◌, ◌≤◌, ◌<◌, List, [], ◌∷◌, ◌++◌, length, refl, sym, ap, subst, ◌∙◌, arith, append_assoc}
use Rattle.std.proofs.lemmas.List.{length-append}
use Rattle.serde_json.specs.Data.{Data}
use Rattle.serde_json.specs.Written.{compact_text}
use Rattle.sts_text.specs.Words.{lines}
use Rattle.look_cases.specs.Lines.{AreReplies, none, more, IsReply, IsReplyLine}

-- the lines before the rest have these replies, and the rest begins with the line of this number
pub record IsAnswered (input rest out : List ℕ) (number : ℕ) : Type 0 where
  pub done : List (List ℕ)
  pub split : lines input ≡ done ++ lines rest
  pub replied : AreReplies done out
  pub count : number ≡ length done + 1
  pub short : number + length rest ≤ length input + 1

pub at_start : (input : List ℕ) → IsAnswered input input [] 1
at_start input = record { done = []; split = refl; replied = none; count = refl; short = omega arith }

pub one_more : (input rest line after out reply : List ℕ) (number : ℕ) → IsAnswered input rest out number
    → lines rest ≡ line ∷ lines after → length after < length rest → IsReplyLine number line reply
    → IsAnswered input after (out ++ reply) (number + 1)
one_more input rest line after out reply number h cut shorter r =
    let grown : length (h.done ++ line ∷ []) ≡ length h.done + 1 = length-append h.done (line ∷ []) in
    record {
      done = h.done ++ line ∷ [];
      split = h.split ∙ ap (λ xs. h.done ++ xs) cut ∙ sym (append_assoc h.done (line ∷ []) (lines after));
      replied = more h.done out line reply h.replied (subst (λ n. IsReplyLine n line reply) h.count r);
      count = let e = h.count in omega (arith, grown, e);
      short = let e = h.short in omega (arith, e);
    }

pub at_end : (input rest out reply : List ℕ) (number : ℕ) → IsAnswered input rest out number
    → lines rest ≡ rest ∷ [] → IsReplyLine number rest reply → AreReplies (lines input) (out ++ reply)
at_end input rest out reply number h last r =
    subst (λ ls. AreReplies ls (out ++ reply)) (sym (h.split ∙ ap (λ xs. h.done ++ xs) last))
    (more h.done out rest reply h.replied (subst (λ n. IsReplyLine n rest reply) h.count r))

-- a line that isn't empty has the answer as its reply
pub filled_line : (n : ℕ) (line : List ℕ) (d : Data) → line ≢ [] → IsReply n line d
    → IsReplyLine n line (compact_text d ++ 10 ∷ [])
filled_line n [] d some h = absurd (some refl)
filled_line n (b ∷ bs) d some h = (d, h, refl)
