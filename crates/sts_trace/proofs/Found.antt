-- If events are read, the text spells them.
use Rattle.std.proofs.Common.{◌≡◌, ℕ, ◌+◌, ◌<◌, ◌≤◌, ◌^◌, true, false, cond, List, [], ◌∷◌, ◌++◌, length, arith, refl, sym, ◌∙◌, ap, append_assoc, inl, inr}
use Rattle.std.proofs.lemmas.Bool.{and_parts}
use Rattle.std.proofs.lemmas.Bool.Decides.{nat_tests}
use Rattle.std.specs.Prelude.{◌&&◌, Result, Ok, Err, Option, Some, None, nat_lt, codes, IfOk}
use Rattle.std.specs.List.{join_with_byte, flat_map, All}
use Rattle.std.specs.Fmt.{decimal}
use Rattle.std.specs.Str.{bytes_eq}
use Rattle.std.proofs.lemmas.List.Elements.{All-nil, All-cons}
use Rattle.std.proofs.lemmas.List.Splits.{join_with_byte-slice_split}
use Rattle.std.proofs.lemmas.Slice.Eq.{bytes_eq-Decides}
use Rattle.sts_text.specs.Number.{numeral}
use Rattle.sts_text.specs.Words.{lines, fields, is_filled}
use Rattle.sts_text.proofs.NumberLemmas.{numeral_spelled}
use Rattle.sts_model.specs.declared.event.Event.{Event}
use Rattle.sts_model.specs.declared.event.Event.TheVariants.{Step, Interrupt, Expire}
use Rattle.sts_trace.specs.declared.outside.Due.{Due}
use Rattle.sts_trace.specs.declared.error.TraceError.{TraceError}
use Rattle.sts_trace.specs.declared.error.TraceError.TheVariants.{BadLine, NoNewline}
use Rattle.sts_trace.specs.Reading.{◌>>=◌, Gives, spelled_at, numeral_at, event_of, event_said, event_line, is_outside_word, due_said, due_line, lines_read}
use Rattle.sts_trace.specs.Reading.{trace_read, outside_read}
use Rattle.sts_trace.specs.Spelling.{event_text, trace_text, due_text, outside_text, number_of, is_outside, IsEvent, IsDue, AreDues}
use Rattle.sts_trace.proofs.Spelled.{word_of, event_parts, due_parts, outside_word}
use Rattle.sts_text.proofs.WordLemmas.{by_cond}

ok_same : {A : Type 0} (x y : A) (r : Result A TraceError) → r ≡ Ok x → r ≡ Ok y → x ≡ y
ok_same x y r a b = cc

bind_ok : {A B : Type 0} (r : Result A TraceError) (f : A → Result B TraceError) (y : B) → (r >>= f) ≡ Ok y → (x : A) × (r ≡ Ok x) × (f x ≡ Ok y)
bind_ok (Ok x) f y e = (x, refl, e)
bind_ok (Err k) f y e = cc

spelled_ok : (at : ℕ) (o : Option ℕ) (n : ℕ) → spelled_at at o ≡ Ok n → o ≡ Some n
spelled_ok at None n e = cc
spelled_ok at (Some m) n e = cc

-- a field that is read as a number is its one spelling
number_found : (at : ℕ) (field : List ℕ) (n : ℕ) → numeral_at at field ≡ Ok n → (n < 2 ^ 32) × (field ≡ decimal n)
number_found at field n e = (numeral_spelled field (numeral field) refl n).0 (spelled_ok at (numeral field) n e)

-- an event's word and number
record SaysEvent (word number : List ℕ) (e : Event) : Type 0 where
  word_is : word ≡ word_of e
  number_is : number ≡ decimal (number_of e)
  small : number_of e < 2 ^ 32

made : (at : ℕ) (word number : List ℕ) (make : ℕ → Event) (e : Event) → ((n : ℕ) → number_of (make n) ≡ n) → ((n : ℕ) → word ≡ word_of (make n)) → (numeral_at at number >>= λ n. Ok (make n)) ≡ Ok e → SaysEvent word number e
made at word number make e counts names h =
    let p = bind_ok (numeral_at at number) (λ n. Ok (make n)) e h in
    let q = number_found at number p.0 p.1 in
    let same = ok_same (make p.0) e (Ok (make p.0)) refl p.2 in
    rw (← same) (record { word_is = names p.0; number_is = rw (counts p.0) q.1; small = rw (counts p.0) q.0 })

event_found : (at : ℕ) (word number : List ℕ) (e : Event) → event_of at word number ≡ Ok e → SaysEvent word number e
event_found at word number e h = elim (by_cond (bytes_eq word (codes "step")) (numeral_at at number >>= λ n. Ok (Step n)) (cond (bytes_eq word (codes "interrupt")) (numeral_at at number >>= λ n. Ok (Interrupt n)) (cond (bytes_eq word (codes "expire")) (numeral_at at number >>= λ n. Ok (Expire n)) (Err (BadLine at)))) (Ok e) h) [
  | inl p ↦ let is = (bytes_eq-Decides word (codes "step")).0 p.0 in made at word number (λ n. Step n) e (λ n. refl) (λ n. is) p.1
  | inr p ↦ elim (by_cond (bytes_eq word (codes "interrupt")) (numeral_at at number >>= λ n. Ok (Interrupt n)) (cond (bytes_eq word (codes "expire")) (numeral_at at number >>= λ n. Ok (Expire n)) (Err (BadLine at))) (Ok e) p.1) [
    | inl q ↦ let is = (bytes_eq-Decides word (codes "interrupt")).0 q.0 in made at word number (λ n. Interrupt n) e (λ n. refl) (λ n. is) q.1
    | inr q ↦ elim (by_cond (bytes_eq word (codes "expire")) (numeral_at at number >>= λ n. Ok (Expire n)) (Err (BadLine at)) (Ok e) q.1) [
      | inl r ↦ let is = (bytes_eq-Decides word (codes "expire")).0 r.0 in made at word number (λ n. Expire n) e (λ n. refl) (λ n. is) r.1
      | inr r ↦ cc
    ]
  ]
]

event_said_found : (at : ℕ) (ps : List (List ℕ)) (e : Event) → event_said at ps ≡ Ok e → (join_with_byte 32 ps ≡ event_text e) × IsEvent e
event_said_found at [] e h = cc
event_said_found at (a ∷ []) e h = cc
event_said_found at (a ∷ b ∷ []) e h = elim (by_cond (is_filled b) (event_of at a b) (Err (BadLine at)) (Ok e) h) [
  | inl p ↦ let s = event_found at a b e p.1 in (rw (s.word_is, s.number_is) (sym (event_parts e)), s.small)
  | inr p ↦ cc
]
event_said_found at (a ∷ b ∷ c ∷ ps) e h = cc

event_line_found : (at : ℕ) (line : List ℕ) (e : Event) → event_line at line ≡ Ok e → (line ≡ event_text e) × IsEvent e
event_line_found at line e h =
    let p = event_said_found at (fields line) e h in
    (sym (join_with_byte-slice_split 32 line) ∙ p.0, p.1)

rejoined : (a b c d : List ℕ) (due : Due) → a ≡ codes "at" → b ≡ decimal due.at → c ≡ word_of due.event → d ≡ decimal (number_of due.event) → join_with_byte 32 (a ∷ b ∷ c ∷ d ∷ []) ≡ due_text due
rejoined a b c d due p q r s = rw (p, q, r, s, due_parts due, event_parts due.event) refl

due_said_found : (at : ℕ) (ps : List (List ℕ)) (due : Due) → due_said at ps ≡ Ok due → (join_with_byte 32 ps ≡ due_text due) × IsDue due
due_said_found at [] due h = cc
due_said_found at (a ∷ []) due h = cc
due_said_found at (a ∷ b ∷ []) due h = cc
due_said_found at (a ∷ b ∷ c ∷ []) due h = cc
due_said_found at (a ∷ b ∷ c ∷ d ∷ []) due h = elim (by_cond (bytes_eq a (codes "at") && (is_filled b && (is_outside_word c && is_filled d))) (numeral_at at b >>= λ n. event_of at c d >>= λ e. Ok (record { at = n; event = e })) (Err (BadLine at)) (Ok due) h) [
  | inl p ↦
      let t = and_parts (bytes_eq a (codes "at")) (is_filled b && (is_outside_word c && is_filled d)) p.0 in
      let u = and_parts (is_filled b) (is_outside_word c && is_filled d) t.1 in
      let v = and_parts (is_outside_word c) (is_filled d) u.1 in
      let q = bind_ok (numeral_at at b) (λ n. event_of at c d >>= λ e. Ok (record { at = n; event = e })) due p.1 in
      let r = bind_ok (event_of at c d) (λ e. Ok (record { at = q.0; event = e })) due q.2 in
      let n = number_found at b q.0 q.1 in
      let s = event_found at c d r.0 r.1 in
      let is = (bytes_eq-Decides a (codes "at")).0 t.0 in
      let made_of : Due = record { at = q.0; event = r.0 } in
      let same = ok_same made_of due (Ok made_of) refl r.2 in
      let inside : is_outside r.0 ≡ true = sym (outside_word r.0) ∙ sym (ap is_outside_word s.word_is) ∙ v.0 in
      rw (← same) (rejoined a b c d made_of is n.1 s.word_is s.number_is, (n.0, s.small, inside))
  | inr p ↦ cc
]
due_said_found at (a ∷ b ∷ c ∷ d ∷ e ∷ ps) due h = cc

in_time : (at : ℕ) (r : Result Due TraceError) (due : Due) → cond (nat_lt 4096 at) (Err (BadLine at)) r ≡ Ok due → (at ≤ 4096) × (r ≡ Ok due)
in_time at r due h = elim (by_cond (nat_lt 4096 at) (Err (BadLine at)) r (Ok due) h) [
  | inl p ↦ cc
  | inr p ↦ (grind (arith, nat_tests, p.0), p.1)
]

due_line_found : (at : ℕ) (line : List ℕ) (due : Due) → due_line at line ≡ Ok due → (line ≡ due_text due) × IsDue due
due_line_found at line due h =
    let p = due_said_found at (fields line) due (in_time at (due_said at (fields line)) due h).1 in
    (sym (join_with_byte-slice_split 32 line) ∙ p.0, p.1)

nothing : (xs : List ℕ) → is_filled xs ≡ false → xs ≡ []
nothing [] e = refl
nothing (x ∷ xs) e = grind (arith, nat_tests)

-- if each line is one spelling, so is the text
lines_found : {A : Type 0} (said : ℕ → List ℕ → Result A TraceError) (spelling : A → List ℕ) (Is : A → Type 0) → ((at : ℕ) (line : List ℕ) (x : A) → said at line ≡ Ok x → (line ≡ spelling x) × Is x) → (at : ℕ) (ps : List (List ℕ)) (xs : List A) → lines_read said at ps ≡ Ok xs → (join_with_byte 10 ps ≡ flat_map (λ x. spelling x ++ codes "\n") xs) × All Is xs
unfolding lines_read
lines_found {A} said spelling Is one at [] xs h = rw (← ok_same {A = List A} [] xs (Ok []) refl h) (refl, All-nil Is)
lines_found {A} said spelling Is one at (rest ∷ []) xs h = elim (by_cond (is_filled rest) (Err NoNewline) (Ok []) (Ok xs) h) [
  | inl p ↦ cc
  | inr p ↦ rw (← ok_same {A = List A} [] xs (Ok []) refl p.1, nothing rest p.0) (refl, All-nil Is)
]
lines_found {A} said spelling Is one at (line ∷ next ∷ more) xs h =
    let a = bind_ok (said at line) (λ x. lines_read said (at + 1) (next ∷ more) >>= λ ys. Ok (x ∷ ys)) xs h in
    let b = bind_ok (lines_read said (at + 1) (next ∷ more)) (λ ys. Ok (a.0 ∷ ys)) xs a.2 in
    let r = lines_found said spelling Is one (at + 1) (next ∷ more) b.0 b.1 in
    let w = one at line a.0 a.1 in
    let e = ap (λ (l : List ℕ). l ++ 10 ∷ join_with_byte 10 (next ∷ more)) w.0 ∙ ap (λ (l : List ℕ). spelling a.0 ++ 10 ∷ l) r.0 ∙ sym (append_assoc (spelling a.0) (10 ∷ []) (flat_map (λ x. spelling x ++ codes "\n") b.0)) in
    rw (← ok_same {A = List A} (a.0 ∷ b.0) xs (Ok (a.0 ∷ b.0)) refl b.2) (e, All-cons Is a.0 b.0 w.1 r.1)

dues_counted : (at : ℕ) (ps : List (List ℕ)) (dues : List Due) → lines_read due_line at ps ≡ Ok dues → at ≤ 4097 → at + length dues ≤ 4097
unfolding lines_read
dues_counted at [] dues h k = rw (← ok_same {A = List Due} [] dues (Ok []) refl h) (omega arith)
dues_counted at (rest ∷ []) dues h k = elim (by_cond (is_filled rest) (Err NoNewline) (Ok []) (Ok dues) h) [
  | inl p ↦ cc
  | inr p ↦ rw (← ok_same {A = List Due} [] dues (Ok []) refl p.1) (omega arith)
]
dues_counted at (line ∷ next ∷ more) dues h k =
    let a = bind_ok (due_line at line) (λ x. lines_read due_line (at + 1) (next ∷ more) >>= λ ys. Ok (x ∷ ys)) dues h in
    let b = bind_ok (lines_read due_line (at + 1) (next ∷ more)) (λ ys. Ok (a.0 ∷ ys)) dues a.2 in
    let t = in_time at (due_said at (fields line)) a.0 a.1 in
    let r = dues_counted (at + 1) (next ∷ more) b.0 b.1 (omega (arith, t.0)) in
    rw (← ok_same {A = List Due} (a.0 ∷ b.0) dues (Ok (a.0 ∷ b.0)) refl b.2) (omega (arith, r))

-- the events that are read are those that the text spells
trace_found : (text : List ℕ) (events : List Event) → trace_read text ≡ Ok events → All IsEvent events × (text ≡ trace_text events)
trace_found text events h =
    let p = lines_found event_line event_text IsEvent event_line_found 1 (lines text) events h in
    (p.1, sym (join_with_byte-slice_split 10 text) ∙ p.0)

-- the outside events that are read are those that the text spells
outside_found : (text : List ℕ) (dues : List Due) → outside_read text ≡ Ok dues → AreDues dues × (text ≡ outside_text dues)
outside_found text dues h =
    let p = lines_found due_line due_text IsDue due_line_found 1 (lines text) dues h in
    let n = dues_counted 1 (lines text) dues h (omega arith) in
    ((omega (arith, n), p.1), sym (join_with_byte-slice_split 10 text) ∙ p.0)

pub events_found : {X : Type 0} (view : X → List Event) (r : Result X TraceError) (text : List ℕ) → Gives view r (trace_read text) → IfOk r (λ x. All IsEvent (view x) × (text ≡ trace_text (view x)))
events_found view (Ok x) text h = trace_found text (view x) h
events_found view (Err e) text h = tt

pub dues_found : {X : Type 0} (view : X → List Due) (r : Result X TraceError) (text : List ℕ) → Gives view r (outside_read text) → IfOk r (λ x. AreDues (view x) × (text ≡ outside_text (view x)))
dues_found view (Ok x) text h = outside_found text (view x) h
dues_found view (Err e) text h = tt
