-- Whatever a text spells is read.
use Rattle.std.proofs.Common.{◌≡◌, ℕ, ◌+◌, ◌<◌, ◌≤◌, ◌^◌, Bool, true, false, List, [], ◌∷◌, ◌++◌, length, arith, refl, ◌∙◌, ap, append_assoc}
use Rattle.std.proofs.lemmas.Bool.{cond-true, cond-false, and_from}
use Rattle.std.proofs.lemmas.Bool.Decides.{nat_tests}
use Rattle.std.specs.Prelude.{Result, Ok, Err, Option, Some, None, IfSome, nat_lt, not, ◌&&◌, codes}
use Rattle.std.specs.List.{flat_map, All, list_all}
use Rattle.std.specs.Fmt.{decimal}
use Rattle.std.specs.Str.{bytes_eq}
use Rattle.std.proofs.lemmas.List.Elements.{All-nil, All-cons, All-head, All-tail, All-append, All-same}
use Rattle.std.proofs.lemmas.List.Splits.{slice_split_at}
use Rattle.sts_text.specs.Number.{numeral}
use Rattle.sts_text.specs.Words.{is_newline, lines, fields, is_filled}
use Rattle.sts_text.proofs.NumberLemmas.{numeral_spelled}
use Rattle.sts_model.specs.declared.event.Event.{Event}
use Rattle.sts_model.specs.declared.event.Event.TheVariants.{Step, Interrupt, Expire}
use Rattle.sts_trace.specs.declared.outside.Due.{Due}
use Rattle.sts_trace.specs.declared.error.TraceError.{TraceError}
use Rattle.sts_trace.specs.declared.error.TraceError.TheVariants.{BadLine}
use Rattle.sts_trace.specs.Reading.{◌>>=◌, Gives, bytes_of, numeral_at, event_of, event_said, event_line, is_outside_word, due_said, due_line, lines_read}
use Rattle.sts_trace.specs.Reading.{trace_read, outside_read}
use Rattle.sts_trace.specs.Spelling.{event_text, trace_text, due_text, outside_text, number_of, IsEvent, IsDue, AreDues}
use Rattle.sts_trace.proofs.Lines.{cut}
use Rattle.sts_trace.proofs.Spelled.{word_of, event_fields, due_parts, due_fields, outside_word, number_no_newline, number_filled}

number_read : (at n : ℕ) → n < 2 ^ 32 → numeral_at at (decimal n) ≡ Ok n
number_read at n h = rw ((numeral_spelled (decimal n) (numeral (decimal n)) refl n).1 (h, refl)) refl

event_read : (at : ℕ) (e : Event) → number_of e < 2 ^ 32 → event_of at (word_of e) (decimal (number_of e)) ≡ Ok e
event_read at (Step n) h = rw (number_read at n h) refl
event_read at (Interrupt n) h = rw (number_read at n h) refl
event_read at (Expire n) h = rw (number_read at n h) refl

goes_on : {A B : Type 0} (r : Result A TraceError) (f : A → Result B TraceError) (x : A) → r ≡ Ok x → (r >>= f) ≡ f x
goes_on (Ok y) f x e = let same : y ≡ x = cc in ap f same
goes_on (Err k) f x e = cc

pub event_line_only : (at : ℕ) (e : Event) → IsEvent e → event_line at (event_text e) ≡ Ok e
event_line_only at e h =
    ap (event_said at) (event_fields e h)
    ∙ cond-true (is_filled (decimal (number_of e))) (event_of at (word_of e) (decimal (number_of e))) (Err (BadLine at)) (number_filled (number_of e) h)
    ∙ event_read at e h

-- a line that is known to be a step
pub step_read : (at : ℕ) (task : Option ℕ) (line : List ℕ) (n : ℕ) → task ≡ Some n → IfSome task (λ m. m < 2 ^ 32) → event_line at (bytes_of task line) ≡ Ok (Step n)
step_read at None line n e h = cc
step_read at (Some m) line n e h =
    let same : m ≡ n = cc in
    let ok : ℕ → Result Event TraceError = λ k. Ok (Step k) in
    event_line_only at (Step m) h ∙ ap ok same

due_read : (at : ℕ) (a b c d : List ℕ) (n : ℕ) (e : Event) → (bytes_eq a (codes "at") && (is_filled b && (is_outside_word c && is_filled d))) ≡ true → numeral_at at b ≡ Ok n → event_of at c d ≡ Ok e → due_said at (a ∷ b ∷ c ∷ d ∷ []) ≡ Ok (record { at = n; event = e })
due_read at a b c d n e t p q =
    let made : Event → Result Due TraceError = λ e. Ok (record { at = n; event = e }) in
    cond-true (bytes_eq a (codes "at") && (is_filled b && (is_outside_word c && is_filled d))) (numeral_at at b >>= λ n. event_of at c d >>= λ e. Ok (record { at = n; event = e })) (Err (BadLine at)) t
    ∙ goes_on (numeral_at at b) (λ n. event_of at c d >>= λ e. Ok (record { at = n; event = e })) n p
    ∙ goes_on (event_of at c d) made e q

due_line_only : (at : ℕ) (due : Due) → at ≤ 4096 → IsDue due → due_line at (due_text due) ≡ Ok due
due_line_only at due k h =
    let time = decimal due.at in
    let word = word_of due.event in
    let number = decimal (number_of due.event) in
    let in_time : nat_lt 4096 at ≡ false = grind (arith, nat_tests) in
    let t = and_from (bytes_eq (codes "at") (codes "at")) _ refl (and_from (is_filled time) _ (number_filled due.at h.0) (and_from (is_outside_word word) (is_filled number) (outside_word due.event ∙ h.2) (number_filled (number_of due.event) h.1))) in
    cond-false (nat_lt 4096 at) (Err (BadLine at)) (due_said at (fields (due_text due))) in_time
    ∙ ap (due_said at) (due_fields due h.0 h.1)
    ∙ due_read at (codes "at") time word number due.at due.event t (number_read at due.at h.0) (event_read at due.event h.1)

free_step : (x : ℕ) (xs : List ℕ) (b : Bool) → is_newline x ≡ b → (not b && list_all (λ b. not (is_newline b)) xs) ≡ true → (list_all (λ b. not (is_newline b)) xs ≡ true → All (λ b. is_newline b ≡ false) xs) → All (λ b. is_newline b ≡ false) (x ∷ xs)
free_step x xs true p e more = cc
free_step x xs false p e more = All-cons (λ b. is_newline b ≡ false) x xs p (more e)

free : (xs : List ℕ) → list_all (λ b. not (is_newline b)) xs ≡ true → All (λ b. is_newline b ≡ false) xs
free [] e = All-nil (λ b. is_newline b ≡ false)
free (x ∷ xs) e = free_step x xs (is_newline x) refl e (free xs)

pub event_one_line : (e : Event) → IsEvent e → All (λ b. is_newline b ≡ false) (event_text e)
event_one_line (Step n) h = All-append (λ b. is_newline b ≡ false) (codes "step ") (decimal n) (free (codes "step ") refl) (number_no_newline n h)
event_one_line (Interrupt n) h = All-append (λ b. is_newline b ≡ false) (codes "interrupt ") (decimal n) (free (codes "interrupt ") refl) (number_no_newline n h)
event_one_line (Expire n) h = All-append (λ b. is_newline b ≡ false) (codes "expire ") (decimal n) (free (codes "expire ") refl) (number_no_newline n h)

due_one_line : (due : Due) → IsDue due → All (λ b. is_newline b ≡ false) (due_text due)
due_one_line due h =
    let event = All-append (λ b. is_newline b ≡ false) (codes " ") (event_text due.event) (free (codes " ") refl) (event_one_line due.event h.1) in
    let time = All-append (λ b. is_newline b ≡ false) (decimal due.at) (codes " " ++ event_text due.event) (number_no_newline due.at h.0) event in
    All-same (λ b. is_newline b ≡ false) (due_text due) (codes "at " ++ (decimal due.at ++ 32 ∷ event_text due.event)) (due_parts due) (All-append (λ b. is_newline b ≡ false) (codes "at ") (decimal due.at ++ 32 ∷ event_text due.event) (free (codes "at ") refl) time)

-- if each line is read back, so is the text
lines_only : {A : Type 0} (said : ℕ → List ℕ → Result A TraceError) (spelling : A → List ℕ) (Is : A → Type 0) (most : ℕ) → ((at : ℕ) (x : A) → at ≤ most → Is x → said at (spelling x) ≡ Ok x) → ((x : A) → Is x → All (λ b. is_newline b ≡ false) (spelling x)) → (at : ℕ) (xs : List A) → at + length xs ≤ most + 1 → All Is xs → lines_read said at (lines (flat_map (λ x. spelling x ++ codes "\n") xs)) ≡ Ok xs
unfolding lines_read
lines_only said spelling Is most one one_line at [] k h = refl
lines_only {A} said spelling Is most one one_line at (x ∷ xs) k h =
    let is = All-head Is x xs h in
    let text = flat_map (λ y. spelling y ++ codes "\n") xs in
    let e : lines ((spelling x ++ codes "\n") ++ text) ≡ spelling x ∷ lines text = rw (append_assoc (spelling x) (codes "\n") text) (slice_split_at is_newline (spelling x) 10 text (one_line x is) refl) in
    let r = lines_only said spelling Is most one one_line (at + 1) xs (omega arith) (All-tail Is x xs h) in
    rw (cut said at ((spelling x ++ codes "\n") ++ text) (spelling x) text e, one at x (omega arith) is, r) refl

trace_back : (events : List Event) → All IsEvent events → trace_read (trace_text events) ≡ Ok events
trace_back events h = lines_only event_line event_text IsEvent (1 + length events) (λ at e k is. event_line_only at e is) event_one_line 1 events (omega arith) h

outside_back : (dues : List Due) → AreDues dues → outside_read (outside_text dues) ≡ Ok dues
outside_back dues h = lines_only due_line due_text IsDue 4096 due_line_only due_one_line 1 dues (omega (arith, h.0)) h.1

pub trace_only : {X : Type 0} (view : X → List Event) (r : Result X TraceError) (text : List ℕ) → Gives view r (trace_read text) → (events : List Event) → All IsEvent events → text ≡ trace_text events → Gives view r (Ok events)
trace_only view r text g events h e = rw (ap trace_read e ∙ trace_back events h) at g

pub outside_only : {X : Type 0} (view : X → List Due) (r : Result X TraceError) (text : List ℕ) → Gives view r (outside_read text) → (dues : List Due) → AreDues dues → text ≡ outside_text dues → Gives view r (Ok dues)
outside_only view r text g dues h e = rw (ap outside_read e ∙ outside_back dues h) at g
