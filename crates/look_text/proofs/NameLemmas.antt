-- The word at which an unknown name is found is the first one that names nothing.
use Rattle.std.proofs.Common.{◌≡◌, ℕ, suc, ◌^◌, ◌-◌, Bool, true, false, cond, List, [], ◌∷◌, slice_get, refl, sym, ap, ◌∙◌, subst}
use Rattle.std.specs.Prelude.{Option, Some, None, Result, Ok, Err, is_some, codes, nat_lt, length, option_map}
use Rattle.std.specs.Str.{bytes_eq}
use Rattle.sts_code.specs.Name.{is_name}
use Rattle.sts_code.specs.Checks.{program_fault}
use Rattle.sts_code.specs.Program.{Program, Routine}
use Rattle.sts_code.specs.declared.checking.CodeError.{CodeError}
use Rattle.sts_code.specs.declared.profile.Profile.{Profile}
use Rattle.sts_code.specs.declared.instr.Instr.{Instr}
use Rattle.sts_code.specs.declared.instr.Instr.TheVariants as i
use Rattle.sts_code.specs.declared.instr.Joiner.TheVariants.{Until}
use Rattle.sts_code.specs.declared.instr.Pred.{Pred}
use Rattle.sts_code.specs.declared.instr.Pred.TheVariants as pred
use Rattle.sts_text.specs.Number.{number, number_up_to}
use Rattle.sts_asm.specs.declared.fault.AsmKind.{AsmKind}
use Rattle.sts_asm.specs.declared.fault.AsmKind.TheVariants.{BadNumber, BadOperands, UnknownLabel, UnknownWord, TextTooLong, Code}
use Rattle.sts_asm.specs.declared.fault.AsmError.{AsmError}
use Rattle.sts_asm.specs.declared.mnemonic.Mnemonic.{Mnemonic}
use Rattle.sts_asm.specs.declared.mnemonic.Mnemonic.TheVariants as m
use Rattle.sts_asm.specs.Fault.{◌>>=◌, at_line}
use Rattle.sts_asm.specs.Line.{operated, known, mnemonic_of, instr_of, with_number, with_slot, with_target}
use Rattle.sts_asm.specs.Marks.{Mark, Names, marked}
use Rattle.sts_asm.specs.Operand.{wanted, looked_up, number_at, value_at, slot, slot_at, handle, handle_at, target_at, function_at, maybe_target_at}
use Rattle.sts_asm.specs.Operand.{until_count_at, until_value_at, until_at, joiners, joiner_at, timed_at, kinds_counted, kind_at, finished}
use Rattle.sts_asm.specs.Outline.{Sentence, Draft, Outline, outline_of}
use Rattle.sts_asm.specs.Source.{sentence_at, names_at}
use Rattle.sts_asm.specs.Text.{each, instr_at, routine_of, checked, program_of}
use Rattle.sts_asm.proofs.TextLemmas.{mapped_err}
use Rattle.look_text.specs.declared.wanted.Expected.{Expected}
use Rattle.look_text.specs.declared.wanted.Expected.TheVariants as w
use Rattle.look_text.specs.Wanted.{Stop, behind, first_wrong, after, of_mnemonic}
use Rattle.look_text.specs.WrongWord.{wrong, Stops}
use Rattle.look_text.specs.Names as def
use Rattle.look_text.proofs.StopLemmas.{one_before, same_kind}

pub is_some_mapped : {A B : Type 0} (f : A → B) (o : Option A) → is_some o ≡ is_some (option_map f o)
is_some_mapped f None = refl
is_some_mapped f (Some x) = refl

-- Reading by names finds the first word that names nothing, and finds no fault if each word names
-- something.
pub record Named {X : Type 0} (names : Names) (s : Expected) (read : List (List ℕ) → Result X AsmKind) (words : List (List ℕ)) : Type 0 where
  pub unknown : read words ≡ Err UnknownLabel → (t : Stop) × ((def.name_stop names s words ≡ Some t) × Stops read UnknownLabel words t)
  pub well : (x : X) → read words ≡ Ok x → def.name_stop names s words ≡ None

abbrev pub NamedFrom : {X : Type 0} → Names → Expected → (List (List ℕ) → Result X AsmKind) → Type 0
NamedFrom names s read = (words : List (List ℕ)) → Named names s read words

-- what one word does
data Goes {X : Type 0} (names : Names) (s : Expected) (read : List (List ℕ) → Result X AsmKind) (word : List ℕ) : Type 0 where
  unnamed : def.names_some names s word ≡ false → ((more : List (List ℕ)) → read (word ∷ more) ≡ Err UnknownLabel) → Goes names s read word
  on : (next : List (List ℕ) → Result X AsmKind) → def.names_some names s word ≡ true → ((more : List (List ℕ)) → read (word ∷ more) ≡ next more) → NamedFrom names (after s word) next → Goes names s read word
  other : (kind : AsmKind) → (kind ≡ UnknownLabel → ⊥) → ((more : List (List ℕ)) → read (word ∷ more) ≡ Err kind) → Goes names s read word

goes_named : {X : Type 0} (names : Names) (s : Expected) (read : List (List ℕ) → Result X AsmKind) (word : List ℕ) (rest : List (List ℕ)) → (read [] ≡ Err UnknownLabel → ⊥) → Goes names s read word → Named names s read (word ∷ rest)
goes_named names s read word rest empty (unnamed n bad) =
    record {
      unknown = λ e. (first_wrong (def.known s) word, (rw n refl, wrong word rest refl ([], empty) bad));
      well = λ x e. let no : Err UnknownLabel ≡ Ok x = sym (bad rest) ∙ e in absurd (cc);
    }
goes_named names s read word rest empty (on next y shift all) =
    record {
      unknown = λ e. let u = (all rest).unknown (sym (shift rest) ∙ e) in (behind word u.0, (rw (y, u.1.0) refl, one_before read next UnknownLabel word rest u.0.before u.0.word shift u.1.1));
      well = λ x e. let none = (all rest).well x (sym (shift rest) ∙ e) in rw (y, none) refl;
    }
goes_named names s read word rest empty (other kind isnt bad) =
    record {
      unknown = λ e. absurd (isnt (same_kind kind UnknownLabel (read (word ∷ rest)) (bad rest) e));
      well = λ x e. let no : Err kind ≡ Ok x = sym (bad rest) ∙ e in absurd (cc);
    }

step : {X : Type 0} (names : Names) (s : Expected) (read : List (List ℕ) → Result X AsmKind) → (read [] ≡ Err UnknownLabel → ⊥) → ((word : List ℕ) → Goes names s read word) → NamedFrom names s read
step names s read empty goes [] = record { unknown = λ e. absurd (empty e); well = λ x e. refl }
step names s read empty goes (word ∷ rest) = goes_named names s read word rest empty (goes word)

-- ---- where no name is wanted

abbrev pub Quiet : Names → Expected → Type 0
Quiet names s = (words : List (List ℕ)) → def.name_stop names s words ≡ None

quiet_nothing : (names : Names) → Quiet names w.Nothing
quiet_nothing names [] = refl
quiet_nothing names (word ∷ rest) = rw (quiet_nothing names rest) refl

pass : (names : Names) (s : Expected) → ((word : List ℕ) → def.names_some names s word ≡ true) → ((word : List ℕ) → Quiet names (after s word)) → Quiet names s
pass names s y q [] = refl
pass names s y q (word ∷ rest) = rw (y word, q word rest) refl

quiet_timed : (names : Names) → Quiet names w.Timed
quiet_timed names = pass names w.Timed (λ word. refl) (λ word. quiet_nothing names)

quiet_condition : (names : Names) → Quiet names w.Condition
quiet_condition names = pass names w.Condition (λ word. refl) (λ word. either (bytes_eq word (codes "atleast")))
  where
    either : (b : Bool) → Quiet names (cond b w.Least w.Count)
    either true = pass names w.Least (λ word. refl) (λ word. quiet_timed names)
    either false = pass names w.Count (λ word. refl) (λ word. quiet_timed names)

quiet_joiner : (names : Names) → Quiet names w.Joiner
quiet_joiner names = pass names w.Joiner (λ word. refl) (λ word. either (bytes_eq word (codes "until")))
  where
    either : (b : Bool) → Quiet names (cond b w.Condition w.Timed)
    either true = quiet_condition names
    either false = quiet_timed names

quiet_open : (names : Names) → Quiet names w.OpenSlot
quiet_open names = pass names w.OpenSlot (λ word. refl) (λ word. quiet_joiner names)

quiet_state : (names : Names) → Quiet names w.State
quiet_state names = pass names w.State (λ word. refl) (λ word. quiet_nothing names)

-- ---- where no name is read

abbrev pub Never : {X : Type 0} → Result X AsmKind → Type 0
Never r = r ≡ Err UnknownLabel → ⊥

never_on : {A X : Type 0} (r : Result A AsmKind) (g : A → Result X AsmKind) → Never r → ((a : A) → Never (g a)) → Never (r >>= g)
never_on (Err k) g n all e = n (let k' : k ≡ UnknownLabel = cc in ap (λ (x : AsmKind). Err x) k')
never_on (Ok a) g n all e = all a e

never_wanted : {A : Type 0} (kind : AsmKind) (o : Option A) (rest : List (List ℕ)) → (kind ≡ UnknownLabel → ⊥) → Never (wanted kind o rest)
never_wanted kind None rest other_kind e = other_kind (cc)
never_wanted kind (Some x) rest other_kind e = absurd (cc)

never_either : {X : Type 0} (b : Bool) (x y : Result X AsmKind) → Never x → Never y → Never (cond b x y)
never_either true x y n k e = n e
never_either false x y n k e = k e

no_number : BadNumber ≡ UnknownLabel → ⊥
no_number e = absurd (cc)

no_operands : BadOperands ≡ UnknownLabel → ⊥
no_operands e = absurd (cc)

never_finished : {X : Type 0} (x : X) (words : List (List ℕ)) → Never (finished x words)
never_finished x [] e = absurd (cc)
never_finished x (word ∷ rest) e = absurd (cc)

never_number : (most : ℕ) (words : List (List ℕ)) → Never (number_at most words)
never_number most [] e = absurd (cc)
never_number most (word ∷ rest) e = never_wanted BadNumber (number_up_to most word) rest no_number e

never_value : (words : List (List ℕ)) → Never (value_at words)
never_value [] e = absurd (cc)
never_value (word ∷ rest) e = never_wanted BadNumber (number word) rest no_number e

never_slot : (words : List (List ℕ)) → Never (slot_at words)
never_slot [] e = absurd (cc)
never_slot (word ∷ rest) e = never_wanted BadOperands (slot word) rest no_operands e

never_handle : (words : List (List ℕ)) → Never (handle_at words)
never_handle [] e = absurd (cc)
never_handle (word ∷ rest) e = never_wanted BadOperands (handle word) rest no_operands e

never_timed : (words : List (List ℕ)) → Never (timed_at words)
never_timed [] e = absurd (cc)
never_timed (word ∷ rest) e = never_either (bytes_eq word (codes "timed")) (Ok (true, rest)) (Err BadOperands) (λ q. absurd (cc)) (λ q. absurd (cc)) e

never_count : (condition : ℕ → Pred) (words : List (List ℕ)) → Never (until_count_at condition words)
never_count condition words = never_on (number_at (2 ^ 32 - 1) words) (λ n. Ok (Until (condition n.0), n.1)) (never_number (2 ^ 32 - 1) words) (λ n q. absurd (cc))

never_least : (words : List (List ℕ)) → Never (until_value_at words)
never_least words = never_on (value_at words) (λ v. Ok (Until (pred.AtLeast v.0), v.1)) (never_value words) (λ v q. absurd (cc))

never_until : (words : List (List ℕ)) → Never (until_at words)
never_until [] e = absurd (cc)
never_until (word ∷ rest) e =
    never_either (bytes_eq word (codes "failed")) (until_count_at (λ n. pred.Failed n) rest) _ (never_count (λ n. pred.Failed n) rest)
    (never_either (bytes_eq word (codes "success")) (until_count_at (λ n. pred.Success n) rest) _ (never_count (λ n. pred.Success n) rest)
    (never_either (bytes_eq word (codes "atleast")) (until_value_at rest) (Err BadOperands) (never_least rest) (λ q. absurd (cc)))) e

never_joiner : (words : List (List ℕ)) → Never (joiner_at words)
never_joiner [] e = absurd (cc)
never_joiner (word ∷ rest) e = never_either (bytes_eq word (codes "until")) (until_at rest) (wanted BadOperands (looked_up joiners word) rest) (never_until rest) (never_wanted BadOperands (looked_up joiners word) rest no_operands) e

never_kind : (words : List (List ℕ)) → Never (kind_at words)
never_kind [] e = absurd (cc)
never_kind (word ∷ rest) e = never_wanted BadOperands (looked_up kinds_counted word) rest no_operands e

quiet_named : {X : Type 0} (names : Names) (s : Expected) (read : List (List ℕ) → Result X AsmKind) → ((words : List (List ℕ)) → Never (read words)) → Quiet names s → NamedFrom names s read
quiet_named names s read never quiet words = record { unknown = λ e. absurd (never words e); well = λ x e. quiet words }

nothing : {X : Type 0} (names : Names) (x : X) → NamedFrom names w.Nothing (finished x)
nothing names x = quiet_named names w.Nothing (finished x) (never_finished x) (quiet_nothing names)

-- ---- one word

slot_word : {X : Type 0} (names : Names) (s : Expected) (next : ℕ → List (List ℕ) → Result X AsmKind) → ((word : List ℕ) → def.names_some names s word ≡ true)
    → ((word : List ℕ) (x : ℕ) → NamedFrom names (after s word) (next x)) → NamedFrom names s (λ ws. slot_at ws >>= λ x. next x.0 x.1)
slot_word {X} names s next y rest = step names s read (λ q. absurd (cc)) (λ word. by word (slot word) refl)
  where
    read : List (List ℕ) → Result X AsmKind
    read ws = slot_at ws >>= λ x. next x.0 x.1

    by : (word : List ℕ) (o : Option ℕ) → slot word ≡ o → Goes names s read word
    by word None h = other BadOperands no_operands (λ more. rw h refl)
    by word (Some x) h = on (next x) (y word) (λ more. rw h refl) (rest word x)

target_word : {X : Type 0} (names : Names) (s : Expected) (next : ℕ → List (List ℕ) → Result X AsmKind) → ((word : List ℕ) → def.names_some names s word ≡ def.is_label names word)
    → ((word : List ℕ) (to : ℕ) → NamedFrom names (after s word) (next to)) → NamedFrom names s (λ ws. target_at (Some names) ws >>= λ x. next x.0 x.1)
target_word {X} names s next same rest = step names s read (λ q. absurd (cc)) (λ word. by word (is_name word) refl)
  where
    read : List (List ℕ) → Result X AsmKind
    read ws = target_at (Some names) ws >>= λ x. next x.0 x.1

    by_mark : (word : List ℕ) (o : Option ℕ) → is_name word ≡ true → marked names.labels word ≡ o → Goes names s read word
    by_mark word None n h = unnamed (same word ∙ rw h refl) (λ more. rw (n, h) refl)
    by_mark word (Some to) n h = on (next to) (same word ∙ rw h refl) (λ more. rw (n, h) refl) (rest word to)

    by : (word : List ℕ) (b : Bool) → is_name word ≡ b → Goes names s read word
    by word false n = other BadOperands no_operands (λ more. rw n refl)
    by word true n = by_mark word (marked names.labels word) n refl

function_word : {X : Type 0} (names : Names) (next : ℕ → List (List ℕ) → Result X AsmKind)
    → ((f : ℕ) → NamedFrom names w.Handle (next f)) → NamedFrom names w.Function (λ ws. function_at (Some names) ws >>= λ x. next x.0 x.1)
function_word {X} names next rest = step names w.Function read (λ q. absurd (cc)) (λ word. by word (is_name word) refl)
  where
    read : List (List ℕ) → Result X AsmKind
    read ws = function_at (Some names) ws >>= λ x. next x.0 x.1

    by_mark : (word : List ℕ) (o : Option ℕ) → is_name word ≡ true → marked names.functions word ≡ o → Goes names w.Function read word
    by_mark word None n h = unnamed (rw h refl) (λ more. rw (n, h) refl)
    by_mark word (Some f) n h = on (next f) (rw h refl) (λ more. rw (n, h) refl) (rest f)

    by : (word : List ℕ) (b : Bool) → is_name word ≡ b → Goes names w.Function read word
    by word false n = other BadOperands no_operands (λ more. rw n refl)
    by word true n = by_mark word (marked names.functions word) n refl

maybe_word : {X : Type 0} (names : Names) (s : Expected) (next : Option ℕ → List (List ℕ) → Result X AsmKind) → ((word : List ℕ) → def.names_some names s word ≡ def.is_maybe_label names word)
    → ((word : List ℕ) (to : Option ℕ) → NamedFrom names (after s word) (next to)) → NamedFrom names s (λ ws. maybe_target_at (Some names) ws >>= λ x. next x.0 x.1)
maybe_word {X} names s next same rest = step names s read (λ q. absurd (cc)) (λ word. by word (bytes_eq word (codes "-")) refl)
  where
    read : List (List ℕ) → Result X AsmKind
    read ws = maybe_target_at (Some names) ws >>= λ x. next x.0 x.1

    by_mark : (word : List ℕ) (o : Option ℕ) → bytes_eq word (codes "-") ≡ false → is_name word ≡ true → marked names.labels word ≡ o → Goes names s read word
    by_mark word None d n h = unnamed (same word ∙ rw (d, h) refl) (λ more. rw (d, n, h) refl)
    by_mark word (Some to) d n h = on (next (Some to)) (same word ∙ rw (d, h) refl) (λ more. rw (d, n, h) refl) (rest word (Some to))

    by_name : (word : List ℕ) (b : Bool) → bytes_eq word (codes "-") ≡ false → is_name word ≡ b → Goes names s read word
    by_name word false d n = other BadOperands no_operands (λ more. rw (d, n) refl)
    by_name word true d n = by_mark word (marked names.labels word) d n refl

    by : (word : List ℕ) (b : Bool) → bytes_eq word (codes "-") ≡ b → Goes names s read word
    by word true d = on (next None) (same word ∙ rw d refl) (λ more. rw d refl) (rest word None)
    by word false d = by_name word (is_name word) d refl

-- ---- instructions

opened : (names : Names) → NamedFrom names w.OpenSlot (operated (Some names) m.Open)
opened names =
    quiet_named names w.OpenSlot (operated (Some names) m.Open)
    (λ ws. never_on (slot_at ws) _ (never_slot ws) (λ s. never_on (joiner_at s.1) _ (never_joiner s.1) (λ j. never_on (timed_at j.1) _ (never_timed j.1) (λ t. never_finished (i.Open s.0 t.0 j.0) t.1))))
    (quiet_open names)

forked : (names : Names) → NamedFrom names w.ForkSlot (operated (Some names) m.Fork)
forked names =
    slot_word names w.ForkSlot (λ s ws. function_at (Some names) ws >>= λ f. (handle_at f.1 >>= λ h. finished (i.Fork s f.0 h.0) h.1)) (λ word. refl)
    (λ word s. function_word names (λ f ws. handle_at ws >>= λ h. finished (i.Fork s f h.0) h.1)
    (λ f. quiet_named names w.Handle (λ ws. handle_at ws >>= λ h. finished (i.Fork s f h.0) h.1)
    (λ ws. never_on (handle_at ws) _ (never_handle ws) (λ h. never_finished (i.Fork s f h.0) h.1)) (pass names w.Handle (λ word. refl) (λ word. quiet_nothing names))))

joined : (names : Names) → NamedFrom names w.JoinSlot (operated (Some names) m.Join)
joined names =
    slot_word names w.JoinSlot (λ s ws. maybe_target_at (Some names) ws >>= λ f. (maybe_target_at (Some names) f.1 >>= λ t. (target_at (Some names) t.1 >>= λ r. finished (i.Join s f.0 t.0 r.0) r.1))) (λ word. refl)
    (λ word s. maybe_word names w.JoinFailed (λ f ws. maybe_target_at (Some names) ws >>= λ t. (target_at (Some names) t.1 >>= λ r. finished (i.Join s f t.0 r.0) r.1)) (λ word. refl)
    (λ word f. maybe_word names w.JoinTimeout (λ t ws. target_at (Some names) ws >>= λ r. finished (i.Join s f t r.0) r.1) (λ word. refl)
    (λ word t. target_word names w.JoinInterrupted (λ r. finished (i.Join s f t r)) (λ word. refl) (λ word r. nothing names (i.Join s f t r)))))

cased : (names : Names) → NamedFrom names w.CaseSlot (operated (Some names) m.Case)
cased names =
    slot_word names w.CaseSlot (λ h ws. target_at (Some names) ws >>= λ s. (target_at (Some names) s.1 >>= λ f. finished (i.Case h s.0 f.0) f.1)) (λ word. refl)
    (λ word h. target_word names w.CaseSuccess (λ s ws. target_at (Some names) ws >>= λ f. finished (i.Case h s f.0) f.1) (λ word. refl)
    (λ word s. target_word names w.CaseFailed (λ f. finished (i.Case h s f)) (λ word. refl) (λ word f. nothing names (i.Case h s f))))

operands : (names : Names) (mnemonic : Mnemonic) → NamedFrom names (of_mnemonic (Some mnemonic)) (operated (Some names) mnemonic)
operands names (m.Plain instr) = nothing names instr
operands names (m.WithNumber form) =
    quiet_named names w.Byte (operated (Some names) (m.WithNumber form)) (λ ws. never_on (number_at 255 ws) _ (never_number 255 ws) (λ x. never_finished (with_number form x.0) x.1))
    (pass names w.Byte (λ word. refl) (λ word. quiet_nothing names))
operands names (m.WithSlot form) =
    quiet_named names w.Slot (operated (Some names) (m.WithSlot form)) (λ ws. never_on (slot_at ws) _ (never_slot ws) (λ x. never_finished (with_slot form x.0) x.1))
    (pass names w.Slot (λ word. refl) (λ word. quiet_nothing names))
operands names (m.WithTarget form) = target_word names w.Label (λ to. finished (with_target form to)) (λ word. refl) (λ word to. nothing names (with_target form to))
operands names m.Push =
    quiet_named names w.Value (operated (Some names) m.Push) (λ ws. never_on (value_at ws) _ (never_value ws) (λ v. never_finished (i.Push v.0) v.1))
    (pass names w.Value (λ word. refl) (λ word. quiet_nothing names))
operands names m.Times =
    quiet_named names w.Turns (operated (Some names) m.Times) (λ ws. never_on (number_at (2 ^ 16 - 1) ws) _ (never_number (2 ^ 16 - 1) ws) (λ n. never_finished (i.Times n.0) n.1))
    (pass names w.Turns (λ word. refl) (λ word. quiet_nothing names))
operands names m.Open = opened names
operands names m.Fork = forked names
operands names m.Join = joined names
operands names m.Case = cased names
operands names m.Tally =
    quiet_named names w.TallySlot (operated (Some names) m.Tally)
    (λ ws. never_on (slot_at ws) _ (never_slot ws) (λ s. never_on (kind_at s.1) _ (never_kind s.1) (λ k. never_finished (i.Tally s.0 k.0) k.1)))
    (pass names w.TallySlot (λ word. refl) (λ word. quiet_state names))

-- ---- a line

record LineNamed (names : Names) (words : List (List ℕ)) : Type 0 where
  unknown : instr_of (Some names) words ≡ Err UnknownLabel → (t : Stop) × ((def.line_stop names words ≡ Some t) × Stops (instr_of (Some names)) UnknownLabel words t)
  well : (x : Instr) → instr_of (Some names) words ≡ Ok x → def.line_stop names words ≡ None

line_some : (names : Names) (word : List ℕ) (rest : List (List ℕ)) (mnemonic : Mnemonic) (t : Stop) → mnemonic_of word ≡ Some mnemonic → def.name_stop names (of_mnemonic (Some mnemonic)) rest ≡ Some t → def.line_stop names (word ∷ rest) ≡ Some (behind word t)
line_some names word rest mnemonic t h e = rw (h, e) refl

first_named : (names : Names) (word : List ℕ) (rest : List (List ℕ)) (o : Option Mnemonic) → mnemonic_of word ≡ o → LineNamed names (word ∷ rest)
first_named names word rest None h =
    let same : instr_of (Some names) (word ∷ rest) ≡ Err UnknownWord = ap (λ (o : Option Mnemonic). known (Some names) o rest) h in
    record {
      unknown = λ e. let no : Err UnknownWord ≡ Err UnknownLabel = sym same ∙ e in absurd (cc);
      well = λ x e. let no : Err UnknownWord ≡ Ok x = sym same ∙ e in absurd (cc);
    }
first_named names word rest (Some mnemonic) h =
    let shift : (more : List (List ℕ)) → instr_of (Some names) (word ∷ more) ≡ operated (Some names) mnemonic more = λ more. ap (λ (o : Option Mnemonic). known (Some names) o more) h in
    let all = operands names mnemonic rest in
    record {
      unknown = λ e. let u = all.unknown (sym (shift rest) ∙ e) in (behind word u.0, (line_some names word rest mnemonic u.0 h u.1.0, one_before (instr_of (Some names)) (operated (Some names) mnemonic) UnknownLabel word rest u.0.before u.0.word shift u.1.1));
      well = λ x e. let none = all.well x (sym (shift rest) ∙ e) in rw (h, none) refl;
    }

line_named : (names : Names) (words : List (List ℕ)) → LineNamed names words
line_named names [] = record { unknown = λ e. absurd (cc); well = λ x e. absurd (cc) }
line_named names (word ∷ rest) = first_named names word rest (mnemonic_of word) refl

-- ---- the lines of a function

-- the lines of a function have the first unknown name
record InLines (names : Names) (code : List Sentence) (e : AsmError) : Type 0 where
  pc : ℕ
  line : Sentence
  stop : Stop
  there : slice_get code pc ≡ Some line
  number : line.line ≡ e.line
  first : def.lines_stop names code ≡ Some stop
  stops : Stops (instr_of (Some names)) UnknownLabel line.words stop

in_first : (names : Names) (s : Sentence) (rest : List Sentence) (e : AsmError) (k : AsmKind) → e.kind ≡ UnknownLabel → instr_of (Some names) s.words ≡ Err k → record { line = s.line; kind = k } ≡ e → InLines names (s ∷ rest) e
in_first names s rest e k is h same =
    let kinds : k ≡ UnknownLabel = ap (λ (x : AsmError). x.kind) same ∙ is in
    let u = (line_named names s.words).unknown (h ∙ ap (λ (x : AsmKind). Err x) kinds) in
    record { pc = 0; line = s; stop = u.0; there = refl; number = ap (λ (x : AsmError). x.line) same; first = rw (u.1.0) refl; stops = u.1.1 }

in_later : (names : Names) (s : Sentence) (rest : List Sentence) (e : AsmError) → def.line_stop names s.words ≡ None → InLines names rest e → InLines names (s ∷ rest) e
in_later names s rest e none l =
    let first = l.first in
    record { pc = suc (l.pc); line = l.line; stop = l.stop; there = l.there; number = l.number; first = rw (none, first) refl; stops = l.stops }

rest_well : {A B : Type 0} (r : Result A AsmError) (f : A → B) (y : B) → (r >>= λ x. Ok (f x)) ≡ Ok y → (x : A) × (r ≡ Ok x)
rest_well (Ok x) f y h = (x, refl)
rest_well (Err k) f y h = absurd (cc)

in_lines_on : (names : Names) (s : Sentence) (rest : List Sentence) (e : AsmError) (r : Result Instr AsmKind) → e.kind ≡ UnknownLabel → instr_of (Some names) s.words ≡ r
    → (at_line s.line r >>= λ y. each (instr_at names) rest >>= λ ys. Ok (y ∷ ys)) ≡ Err e → (each (instr_at names) rest ≡ Err e → InLines names rest e) → InLines names (s ∷ rest) e
in_lines_on names s rest e (Err k) is h g later = in_first names s rest e k is h (cc)
in_lines_on names s rest e (Ok x) is h g later = in_later names s rest e ((line_named names s.words).well x h) (later (mapped_err (each (instr_at names) rest) (λ ys. x ∷ ys) e g))

in_lines : (names : Names) (code : List Sentence) (e : AsmError) → e.kind ≡ UnknownLabel → each (instr_at names) code ≡ Err e → InLines names code e
in_lines names [] e is h = absurd (cc)
in_lines names (s ∷ rest) e is h = in_lines_on names s rest e (instr_of (Some names) s.words) is refl h (λ g. in_lines names rest e is g)

lines_well_on : (names : Names) (s : Sentence) (rest : List Sentence) (is : List Instr) (r : Result Instr AsmKind) → instr_of (Some names) s.words ≡ r
    → (at_line s.line r >>= λ y. each (instr_at names) rest >>= λ ys. Ok (y ∷ ys)) ≡ Ok is → ((ys : List Instr) → each (instr_at names) rest ≡ Ok ys → def.lines_stop names rest ≡ None) → def.lines_stop names (s ∷ rest) ≡ None
lines_well_on names s rest is (Err k) h g later = absurd (cc)
lines_well_on names s rest is (Ok x) h g later =
    let ys = rest_well (each (instr_at names) rest) (λ ys. x ∷ ys) is g in
    let none = (line_named names s.words).well x h in
    let more = later ys.0 ys.1 in
    rw (none, more) refl

lines_well : (names : Names) (code : List Sentence) (is : List Instr) → each (instr_at names) code ≡ Ok is → def.lines_stop names code ≡ None
lines_well names [] is h = refl
lines_well names (s ∷ rest) is h = lines_well_on names s rest is (instr_of (Some names) s.words) refl h (λ ys g. lines_well names rest ys g)

-- ---- the functions of a text

abbrev pub names_of : List Mark → Draft → Names
names_of functions d = record { labels = d.labels; functions = functions }

-- functions have the first unknown name
record InFunctions (functions : List Mark) (ds : List Draft) (e : AsmError) : Type 0 where
  at : ℕ
  draft : Draft
  stop : Stop
  there : slice_get ds at ≡ Some draft
  first : def.functions_stop functions ds ≡ Some stop
  lines : InLines (record { labels = draft.labels; functions = functions }) draft.code e
  same : lines.stop ≡ stop

first_function : (functions : List Mark) (d : Draft) (rest : List Draft) (e : AsmError) → InLines (names_of functions d) d.code e → InFunctions functions (d ∷ rest) e
first_function functions d rest e l =
    let first = l.first in
    record { at = 0; draft = d; stop = l.stop; there = refl; first = rw first refl; lines = l; same = refl }

later_function : (functions : List Mark) (d : Draft) (rest : List Draft) (e : AsmError) → def.lines_stop (names_of functions d) d.code ≡ None → InFunctions functions rest e → InFunctions functions (d ∷ rest) e
later_function functions d rest e none l =
    let first = l.first in
    record { at = suc (l.at); draft = l.draft; stop = l.stop; there = l.there; first = rw (none, first) refl; lines = l.lines; same = l.same }

in_functions_on : (functions : List Mark) (d : Draft) (rest : List Draft) (e : AsmError) (r : Result (List Instr) AsmError) → e.kind ≡ UnknownLabel → each (instr_at (names_of functions d)) d.code ≡ r
    → ((r >>= λ code. Ok (record { name = d.name; args = d.args; needs = d.needs; code = code })) >>= λ y. each (routine_of functions) rest >>= λ ys. Ok (y ∷ ys)) ≡ Err e
    → (each (routine_of functions) rest ≡ Err e → InFunctions functions rest e) → InFunctions functions (d ∷ rest) e
in_functions_on functions d rest e (Err k) is h g later = let same : k ≡ e = cc in first_function functions d rest e (in_lines (names_of functions d) d.code e is (h ∙ ap (λ (x : AsmError). Err x) same))
in_functions_on functions d rest e (Ok code) is h g later =
    later_function functions d rest e (lines_well (names_of functions d) d.code code h)
    (later (mapped_err (each (routine_of functions) rest) (λ ys. record { name = d.name; args = d.args; needs = d.needs; code = code } ∷ ys) e g))

in_functions : (functions : List Mark) (ds : List Draft) (e : AsmError) → e.kind ≡ UnknownLabel → each (routine_of functions) ds ≡ Err e → InFunctions functions ds e
in_functions functions [] e is h = absurd (cc)
in_functions functions (d ∷ rest) e is h = in_functions_on functions d rest e (each (instr_at (names_of functions d)) d.code) is refl h (λ g. in_functions functions rest e is g)

-- ---- the whole text

checked_fault : (profile : Profile) (rs : List Routine) (c : Option CodeError) (e : AsmError) → e.kind ≡ UnknownLabel → checked profile rs c ≡ Err e → ⊥
checked_fault profile rs None e is h = absurd (cc)
checked_fault profile rs (Some c) e is h =
    let same : record { line = 0; kind = Code c } ≡ e = cc in
    let no : Code c ≡ UnknownLabel = ap (λ (x : AsmError). x.kind) same ∙ is in
    absurd (cc)

program_fault_at : (o : Outline) (e : AsmError) (r : Result (List Routine) AsmError) → e.kind ≡ UnknownLabel → each (routine_of o.functions) o.done ≡ r
    → (r >>= λ rs. checked o.profile rs (program_fault rs)) ≡ Err e → InFunctions o.functions o.done e
program_fault_at o e (Err k) is h g = let same : k ≡ e = cc in in_functions o.functions o.done e is (h ∙ ap (λ (x : AsmError). Err x) same)
program_fault_at o e (Ok rs) is h g = absurd (checked_fault o.profile rs (program_fault rs) e is g)

judged_fault : (text : List ℕ) (o : Outline) (e : AsmError) (b : Bool) → cond {A = Result Outline AsmError} b (Err (record { line = 0; kind = TextTooLong })) (outline_of text) ≡ Ok o
    → cond {A = Result Program AsmError} b (Err (record { line = 0; kind = TextTooLong })) (outline_of text >>= program_of) ≡ Err e → program_of o ≡ Err e
judged_fault text o e true h g = absurd (cc)
judged_fault text o e false h g = sym (ap (λ (r : Result Outline AsmError). r >>= program_of) h) ∙ g

sentence_there : (o : Outline) (f pc : ℕ) (d : Draft) (s : Sentence) → slice_get o.done f ≡ Some d → slice_get d.code pc ≡ Some s → sentence_at o f pc ≡ Some s
sentence_there o f pc d s e h = rw e h

names_there : (o : Outline) (f : ℕ) (d : Draft) → slice_get o.done f ≡ Some d → names_of o.functions d ≡ names_at o f
names_there o f d e = rw e refl

pub unknown_names_stop : def.UnknownNamesStop
unknown_names_stop text o e h g is =
    let l = program_fault_at o e (each (routine_of o.functions) o.done) is refl (judged_fault text o e (nat_lt 1048576 (length text)) h g) in
    let lines = l.lines in (
      l.at,
      lines.pc,
      lines.line,
      lines.stop,
      sentence_there o l.at lines.pc l.draft lines.line l.there lines.there,
      lines.number,
      l.first ∙ ap (λ (t : Stop). Some t) (sym l.same),
      subst (λ (ns : Names). Stops (instr_of (Some ns)) UnknownLabel lines.line.words lines.stop) (names_there o l.at l.draft l.there) lines.stops,
    )
