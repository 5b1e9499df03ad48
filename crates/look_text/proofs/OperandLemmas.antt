-- The operands of each instruction stop being as expected where reading fails.
use Rattle.std.proofs.Common.{◌≡◌, ℕ, ◌^◌, ◌-◌, Bool, true, false, cond, List, [], ◌∷◌, refl, sym, ap, ◌∙◌}
use Rattle.std.specs.Prelude.{Option, Some, None, Result, Ok, is_some, codes, ◌||◌}
use Rattle.std.specs.Str.{bytes_eq}
use Rattle.std.proofs.lemmas.Bool.{or_parts}
use Rattle.sts_code.specs.Name.{is_name}
use Rattle.sts_code.specs.declared.instr.Instr.{Instr}
use Rattle.sts_code.specs.declared.instr.Instr.TheVariants as i
use Rattle.sts_code.specs.declared.instr.Joiner.{Joiner}
use Rattle.sts_code.specs.declared.instr.Joiner.TheVariants.{Until}
use Rattle.sts_code.specs.declared.instr.Pred.{Pred}
use Rattle.sts_code.specs.declared.instr.Pred.TheVariants as pred
use Rattle.sts_text.specs.Number.{number, number_up_to}
use Rattle.sts_asm.specs.declared.fault.AsmKind.{AsmKind}
use Rattle.sts_asm.specs.declared.fault.AsmKind.TheVariants.{BadNumber, BadOperands, UnknownLabel}
use Rattle.sts_asm.specs.declared.mnemonic.Mnemonic.{Mnemonic}
use Rattle.sts_asm.specs.declared.mnemonic.Mnemonic.TheVariants as m
use Rattle.sts_asm.specs.Fault.{◌>>=◌}
use Rattle.sts_asm.specs.Line.{operated, with_number, with_slot, with_target}
use Rattle.sts_asm.specs.Marks.{label_in}
use Rattle.sts_asm.specs.Operand.{Read, wanted, looked_up, number_at, slot, slot_at, handle, handle_at, named, target_at, function_at, maybe_target_at}
use Rattle.sts_asm.specs.Operand.{until_count_at, until_value_at, until_at, joiners, joiner_at, timed_at, kinds_counted, kind_at, finished}
use Rattle.look_text.specs.declared.wanted.Expected.{Expected}
use Rattle.look_text.specs.declared.wanted.Expected.TheVariants as w
use Rattle.look_text.specs.Wanted.{fits, after, of_mnemonic}
use Rattle.look_text.specs.WrongWord.{Allows}
use Rattle.look_text.proofs.StopLemmas.{StopsFrom, FailsAfter, GoesOnAfter, allows, one, spelled, nothing}
use Rattle.laws_words.proofs.OptionLemmas.{none_of}
use Rattle.sts_asm.proofs.TableLemmas.{same}

-- ---- truths

pub or_other : (a b : Bool) → a ≡ false → (a || b) ≡ true → b ≡ true
or_other true b f e = absurd (cc)
or_other false b f e = e

-- ---- one word that spells something

-- what is read of a word is handed on
pub handed_on : {A B X : Type 0} (kind : AsmKind) (o : Option A) (more : List (List ℕ)) (g : A × List (List ℕ) → Read B) (h : B × List (List ℕ) → Result X AsmKind) → ((wanted kind o more >>= g) >>= h) ≡ (wanted kind o more >>= λ a. (g a >>= h))
handed_on kind None more g h = refl
handed_on kind (Some a) more g h = refl

slot_word : {X : Type 0} (s : Expected) (next : ℕ → List (List ℕ) → Result X AsmKind) → ((word : List ℕ) → fits s word ≡ is_some (slot word))
    → ((kind : AsmKind) → Allows (λ ws. slot_at ws >>= λ x. next x.0 x.1) kind []) → ((word : List ℕ) (x : ℕ) → StopsFrom (after s word) (next x))
    → StopsFrom s (λ ws. slot_at ws >>= λ x. next x.0 x.1)
slot_word s next fit allowed rest = spelled s slot BadOperands next (λ ws. slot_at ws >>= λ x. next x.0 x.1) allowed fit (λ word more. refl) rest

pub named_fits : (b : Bool) (word : List ℕ) → b ≡ is_some (cond {A = Option (List ℕ)} b (Some word) None)
named_fits true word = refl
named_fits false word = refl

-- the name of a label or of a function; before names are known, each counts as known
name_word : {X : Type 0} (s : Expected) (next : ℕ → List (List ℕ) → Result X AsmKind) → ((word : List ℕ) → fits s word ≡ is_name word)
    → ((kind : AsmKind) → Allows (λ ws. target_at None ws >>= λ x. next x.0 x.1) kind []) → ((word : List ℕ) → StopsFrom (after s word) (next 0))
    → StopsFrom s (λ ws. target_at None ws >>= λ x. next x.0 x.1)
name_word s next fit allowed rest =
    spelled s named BadOperands (λ name. next 0) (λ ws. target_at None ws >>= λ x. next x.0 x.1) allowed (λ word. fit word ∙ named_fits (is_name word) word)
    (λ word more. handed_on BadOperands (named word) more (λ name. wanted UnknownLabel (label_in None name.0) name.1) (λ x. next x.0 x.1)) (λ word name. rest word)

maybe_word : {X : Type 0} (s : Expected) (next : Option ℕ → List (List ℕ) → Result X AsmKind) → ((word : List ℕ) → fits s word ≡ (bytes_eq word (codes "-") || is_name word))
    → ((kind : AsmKind) → Allows (λ ws. maybe_target_at None ws >>= λ x. next x.0 x.1) kind []) → ((word : List ℕ) (to : Option ℕ) → StopsFrom (after s word) (next to))
    → StopsFrom s (λ ws. maybe_target_at None ws >>= λ x. next x.0 x.1)
maybe_word {X} s next fit allowed rest = one s read allowed bad good
  where
    read : List (List ℕ) → Result X AsmKind
    read ws = maybe_target_at None ws >>= λ x. next x.0 x.1

    bad : (word : List ℕ) → fits s word ≡ false → FailsAfter (λ ws. maybe_target_at None ws >>= λ x. next x.0 x.1) word
    bad word q =
        let d : bytes_eq word (codes "-") ≡ false = (or_parts (bytes_eq word (codes "-")) (is_name word) (sym (fit word) ∙ q)).0 in
        let n : is_name word ≡ false = (or_parts (bytes_eq word (codes "-")) (is_name word) (sym (fit word) ∙ q)).1 in
        (BadOperands, λ more. rw (d, n) refl)

    by : (word : List ℕ) (b : Bool) → bytes_eq word (codes "-") ≡ b → fits s word ≡ true → GoesOnAfter s (λ ws. maybe_target_at None ws >>= λ x. next x.0 x.1) word
    by word true d q = (next None, ((λ more. rw d refl), rest word None))
    by word false d q =
        let n : is_name word ≡ true = or_other (bytes_eq word (codes "-")) (is_name word) d (sym (fit word) ∙ q) in
        (next (Some 0), ((λ more. rw (d, n) refl), rest word (Some 0)))

    good : (word : List ℕ) → fits s word ≡ true → GoesOnAfter s (λ ws. maybe_target_at None ws >>= λ x. next x.0 x.1) word
    good word q = by word (bytes_eq word (codes "-")) refl q

-- ---- instructions of one operand

numbered : (build : ℕ → Instr) → StopsFrom w.Byte (λ ws. number_at 255 ws >>= λ x. finished (build x.0) x.1)
numbered build =
    spelled w.Byte (number_up_to 255) BadNumber (λ n. finished (build n)) (λ ws. number_at 255 ws >>= λ x. finished (build x.0) x.1)
    (allows (λ ws. number_at 255 ws >>= λ x. finished (build x.0) x.1) (codes "0" ∷ []) (build 0) refl) (λ word. refl) (λ word more. refl) (λ word n. nothing (build n))

slotted : (build : ℕ → Instr) → StopsFrom w.Slot (λ ws. slot_at ws >>= λ x. finished (build x.0) x.1)
slotted build = slot_word w.Slot (λ x. finished (build x)) (λ word. refl) (allows (λ ws. slot_at ws >>= λ x. finished (build x.0) x.1) (codes "s0" ∷ []) (build 0) refl) (λ word x. nothing (build x))

targeted : (build : ℕ → Instr) → StopsFrom w.Label (λ ws. target_at None ws >>= λ x. finished (build x.0) x.1)
targeted build = name_word w.Label (λ x. finished (build x)) (λ word. refl) (allows (λ ws. target_at None ws >>= λ x. finished (build x.0) x.1) (codes "a" ∷ []) (build 0) refl) (λ word. nothing (build 0))

push : StopsFrom w.Value (operated None m.Push)
push = spelled w.Value number BadNumber (λ v. finished (i.Push v)) (operated None m.Push) (allows (operated None m.Push) (codes "0" ∷ []) _ refl) (λ word. refl) (λ word more. refl) (λ word v. nothing (i.Push v))

times : StopsFrom w.Turns (operated None m.Times)
times = spelled w.Turns (number_up_to (2 ^ 16 - 1)) BadNumber (λ n. finished (i.Times n)) (operated None m.Times) (allows (operated None m.Times) (codes "0" ∷ []) _ refl) (λ word. refl) (λ word more. refl) (λ word n. nothing (i.Times n))

-- ---- `open`

-- the joiner is read, and then whether the scope is timed
abbrev opening : (List (List ℕ) → Read Joiner) → (Joiner → Bool → Instr) → List (List ℕ) → Result Instr AsmKind
opening joiner_of build ws = joiner_of ws >>= λ j. (timed_at j.1 >>= λ t. finished (build j.0 t.0) t.1)

timed : {X : Type 0} (build : Bool → X) → StopsFrom w.Timed (λ ws. timed_at ws >>= λ t. finished (build t.0) t.1)
timed build =
    one w.Timed (λ ws. timed_at ws >>= λ t. finished (build t.0) t.1) (allows (λ ws. timed_at ws >>= λ t. finished (build t.0) t.1) [] (build false) refl)
    (λ word q. (BadOperands, λ more. rw q refl)) (λ word q. (finished (build true), ((λ more. rw q refl), nothing (build true))))

count : (condition : ℕ → Pred) (build : Joiner → Bool → Instr) → StopsFrom w.Count (opening (until_count_at condition) build)
count condition build =
    spelled w.Count (number_up_to (2 ^ 32 - 1)) BadNumber (λ n ws. timed_at ws >>= λ t. finished (build (Until (condition n)) t.0) t.1)
    (opening (until_count_at condition) build)
    (allows (opening (until_count_at condition) build) (codes "0" ∷ []) _ refl) (λ word. refl)
    (λ word more. handed_on BadNumber (number_up_to (2 ^ 32 - 1) word) more (λ n. Ok (Until (condition n.0), n.1)) (λ j. (timed_at j.1 >>= λ t. finished (build j.0 t.0) t.1)))
    (λ word n. timed (build (Until (condition n))))

least : (build : Joiner → Bool → Instr) → StopsFrom w.Least (opening until_value_at build)
least build =
    spelled w.Least number BadNumber (λ v ws. timed_at ws >>= λ t. finished (build (Until (pred.AtLeast v)) t.0) t.1)
    (opening until_value_at build)
    (allows (opening until_value_at build) (codes "0" ∷ []) _ refl) (λ word. refl)
    (λ word more. handed_on BadNumber (number word) more (λ v. Ok (Until (pred.AtLeast v.0), v.1)) (λ j. (timed_at j.1 >>= λ t. finished (build j.0 t.0) t.1)))
    (λ word v. timed (build (Until (pred.AtLeast v))))

not_atleast : (word other : List ℕ) → bytes_eq word other ≡ true → bytes_eq other (codes "atleast") ≡ false → bytes_eq word (codes "atleast") ≡ false
not_atleast word other e h = rw (same word other e) h

condition : (build : Joiner → Bool → Instr) → StopsFrom w.Condition (opening until_at build)
condition build = one w.Condition (opening until_at build) (allows (opening until_at build) (codes "failed" ∷ codes "0" ∷ []) (build (Until (pred.Failed 0)) false) refl) bad (λ word q. by_failed word (bytes_eq word (codes "failed")) refl q)
  where
    bad : (word : List ℕ) → fits w.Condition word ≡ false → FailsAfter (opening until_at build) word
    bad word q =
        let f : Bool = bytes_eq word (codes "failed") in
        let s : Bool = bytes_eq word (codes "success") in
        let a : Bool = bytes_eq word (codes "atleast") in
        let nf : f ≡ false = (or_parts f (s || a) q).0 in
        let ns : s ≡ false = (or_parts s a (or_parts f (s || a) q).1).0 in
        let na : a ≡ false = (or_parts s a (or_parts f (s || a) q).1).1 in
        (BadOperands, λ more. rw (nf, ns, na) refl)

    by_success : (word : List ℕ) (b : Bool) → bytes_eq word (codes "failed") ≡ false → bytes_eq word (codes "success") ≡ b → fits w.Condition word ≡ true → GoesOnAfter w.Condition (opening until_at build) word
    by_success word true nf e q =
        (opening (until_count_at (λ n. pred.Success n)) build, ((λ more. rw (nf, e) refl), rw (not_atleast word (codes "success") e refl) (count (λ n. pred.Success n) build)))
    by_success word false nf e q =
        let a : bytes_eq word (codes "atleast") ≡ true = or_other (bytes_eq word (codes "success")) (bytes_eq word (codes "atleast")) e (or_other (bytes_eq word (codes "failed")) (bytes_eq word (codes "success") || bytes_eq word (codes "atleast")) nf q) in
        (opening until_value_at build, ((λ more. rw (nf, e, a) refl), rw a (least build)))

    by_failed : (word : List ℕ) (b : Bool) → bytes_eq word (codes "failed") ≡ b → fits w.Condition word ≡ true → GoesOnAfter w.Condition (opening until_at build) word
    by_failed word true e q =
        (opening (until_count_at (λ n. pred.Failed n)) build, ((λ more. rw e refl), rw (not_atleast word (codes "failed") e refl) (count (λ n. pred.Failed n) build)))
    by_failed word false e q = by_success word (bytes_eq word (codes "success")) e refl q

joiner : (build : Joiner → Bool → Instr) → StopsFrom w.Joiner (opening joiner_at build)
joiner build = one w.Joiner (opening joiner_at build) (allows (opening joiner_at build) (codes "until" ∷ codes "failed" ∷ codes "0" ∷ []) (build (Until (pred.Failed 0)) false) refl) bad (λ word q. by word (bytes_eq word (codes "until")) refl q)
  where
    bad : (word : List ℕ) → fits w.Joiner word ≡ false → FailsAfter (opening joiner_at build) word
    bad word q =
        let u : bytes_eq word (codes "until") ≡ false = (or_parts (bytes_eq word (codes "until")) (is_some (looked_up joiners word)) q).0 in
        let n : looked_up joiners word ≡ None = none_of (looked_up joiners word) (or_parts (bytes_eq word (codes "until")) (is_some (looked_up joiners word)) q).1 in
        (BadOperands, λ more. rw (u, n) refl)

    one_word : (word : List ℕ) (o : Option Joiner) → bytes_eq word (codes "until") ≡ false → looked_up joiners word ≡ o → is_some (looked_up joiners word) ≡ true → GoesOnAfter w.Joiner (opening joiner_at build) word
    one_word word None e h q = let no : false ≡ true = sym (ap (λ (o : Option Joiner). is_some o) h) ∙ q in absurd (cc)
    one_word word (Some j) e h q = ((λ ws. timed_at ws >>= λ t. finished (build j t.0) t.1), ((λ more. rw (e, h) refl), rw e (timed (build j))))

    by : (word : List ℕ) (b : Bool) → bytes_eq word (codes "until") ≡ b → fits w.Joiner word ≡ true → GoesOnAfter w.Joiner (opening joiner_at build) word
    by word true e q = (opening until_at build, ((λ more. rw e refl), rw e (condition build)))
    by word false e q = one_word word (looked_up joiners word) e refl (or_other (bytes_eq word (codes "until")) (is_some (looked_up joiners word)) e q)

opened : StopsFrom w.OpenSlot (operated None m.Open)
opened = slot_word w.OpenSlot (λ s ws. joiner_at ws >>= λ j. (timed_at j.1 >>= λ t. finished (i.Open s t.0 j.0) t.1)) (λ word. refl) (allows (operated None m.Open) (codes "s0" ∷ codes "until" ∷ codes "failed" ∷ codes "0" ∷ []) _ refl) (λ word s. joiner (λ j t. i.Open s t j))

-- ---- `fork`, `join`, `case` and `tally`

forked : StopsFrom w.ForkSlot (operated None m.Fork)
forked = slot_word w.ForkSlot at_function (λ word. refl) (allows (operated None m.Fork) (codes "s0" ∷ codes "a" ∷ codes "s0" ∷ []) _ refl) (λ word s. function s)
  where
    at_handle : ℕ → ℕ → List (List ℕ) → Result Instr AsmKind
    at_handle s f ws = handle_at ws >>= λ h. finished (i.Fork s f h.0) h.1

    at_function : ℕ → List (List ℕ) → Result Instr AsmKind
    at_function s ws = function_at None ws >>= λ f. (handle_at f.1 >>= λ h. finished (i.Fork s f.0 h.0) h.1)

    last : (s f : ℕ) → StopsFrom w.Handle (λ ws. handle_at ws >>= λ h. finished (i.Fork s f h.0) h.1)
    last s f = spelled w.Handle handle BadOperands (λ h. finished (i.Fork s f h)) (λ ws. handle_at ws >>= λ h. finished (i.Fork s f h.0) h.1) (allows (λ ws. handle_at ws >>= λ h. finished (i.Fork s f h.0) h.1) (codes "s0" ∷ []) _ refl) (λ word. refl) (λ word more. refl) (λ word h. nothing (i.Fork s f h))

    function : (s : ℕ) → StopsFrom w.Function (λ ws. function_at None ws >>= λ f. (handle_at f.1 >>= λ h. finished (i.Fork s f.0 h.0) h.1))
    function s = name_word w.Function (λ f ws. handle_at ws >>= λ h. finished (i.Fork s f h.0) h.1) (λ word. refl) (allows (λ ws. function_at None ws >>= λ f. (handle_at f.1 >>= λ h. finished (i.Fork s f.0 h.0) h.1)) (codes "a" ∷ codes "s0" ∷ []) _ refl) (λ word. last s 0)

joined : StopsFrom w.JoinSlot (operated None m.Join)
joined =
    slot_word w.JoinSlot (λ s ws. maybe_target_at None ws >>= λ f. (maybe_target_at None f.1 >>= λ t. (target_at None t.1 >>= λ r. finished (i.Join s f.0 t.0 r.0) r.1)))
    (λ word. refl) (allows (operated None m.Join) (codes "s0" ∷ codes "a" ∷ codes "a" ∷ codes "a" ∷ []) _ refl) (λ word s. failed s)
  where
    interrupted : (s : ℕ) (f t : Option ℕ) → StopsFrom w.JoinInterrupted (λ ws. target_at None ws >>= λ r. finished (i.Join s f t r.0) r.1)
    interrupted s f t = name_word w.JoinInterrupted (λ r. finished (i.Join s f t r)) (λ word. refl) (allows (λ ws. target_at None ws >>= λ r. finished (i.Join s f t r.0) r.1) (codes "a" ∷ []) _ refl) (λ word. nothing (i.Join s f t 0))

    timeout : (s : ℕ) (f : Option ℕ) → StopsFrom w.JoinTimeout (λ ws. maybe_target_at None ws >>= λ t. (target_at None t.1 >>= λ r. finished (i.Join s f t.0 r.0) r.1))
    timeout s f = maybe_word w.JoinTimeout (λ t ws. target_at None ws >>= λ r. finished (i.Join s f t r.0) r.1) (λ word. refl) (allows (λ ws. maybe_target_at None ws >>= λ t. (target_at None t.1 >>= λ r. finished (i.Join s f t.0 r.0) r.1)) (codes "a" ∷ codes "a" ∷ []) _ refl) (λ word t. interrupted s f t)

    failed : (s : ℕ) → StopsFrom w.JoinFailed (λ ws. maybe_target_at None ws >>= λ f. (maybe_target_at None f.1 >>= λ t. (target_at None t.1 >>= λ r. finished (i.Join s f.0 t.0 r.0) r.1)))
    failed s =
        maybe_word w.JoinFailed (λ f ws. maybe_target_at None ws >>= λ t. (target_at None t.1 >>= λ r. finished (i.Join s f t.0 r.0) r.1)) (λ word. refl)
        (allows (λ ws. maybe_target_at None ws >>= λ f. (maybe_target_at None f.1 >>= λ t. (target_at None t.1 >>= λ r. finished (i.Join s f.0 t.0 r.0) r.1))) (codes "a" ∷ codes "a" ∷ codes "a" ∷ []) _ refl) (λ word f. timeout s f)

cased : StopsFrom w.CaseSlot (operated None m.Case)
cased =
    slot_word w.CaseSlot (λ h ws. target_at None ws >>= λ s. (target_at None s.1 >>= λ f. finished (i.Case h s.0 f.0) f.1)) (λ word. refl)
    (allows (operated None m.Case) (codes "s0" ∷ codes "a" ∷ codes "a" ∷ []) _ refl) (λ word h. success h)
  where
    failed : (h s : ℕ) → StopsFrom w.CaseFailed (λ ws. target_at None ws >>= λ f. finished (i.Case h s f.0) f.1)
    failed h s = name_word w.CaseFailed (λ f. finished (i.Case h s f)) (λ word. refl) (allows (λ ws. target_at None ws >>= λ f. finished (i.Case h s f.0) f.1) (codes "a" ∷ []) _ refl) (λ word. nothing (i.Case h s 0))

    success : (h : ℕ) → StopsFrom w.CaseSuccess (λ ws. target_at None ws >>= λ s. (target_at None s.1 >>= λ f. finished (i.Case h s.0 f.0) f.1))
    success h = name_word w.CaseSuccess (λ s ws. target_at None ws >>= λ f. finished (i.Case h s f.0) f.1) (λ word. refl) (allows (λ ws. target_at None ws >>= λ s. (target_at None s.1 >>= λ f. finished (i.Case h s.0 f.0) f.1)) (codes "a" ∷ codes "a" ∷ []) _ refl) (λ word. failed h 0)

tallied : StopsFrom w.TallySlot (operated None m.Tally)
tallied = slot_word w.TallySlot (λ s ws. kind_at ws >>= λ k. finished (i.Tally s k.0) k.1) (λ word. refl) (allows (operated None m.Tally) (codes "s0" ∷ codes "S" ∷ []) _ refl) (λ word s. state s)
  where
    state : (s : ℕ) → StopsFrom w.State (λ ws. kind_at ws >>= λ k. finished (i.Tally s k.0) k.1)
    state s = spelled w.State (looked_up kinds_counted) BadOperands (λ k. finished (i.Tally s k)) (λ ws. kind_at ws >>= λ k. finished (i.Tally s k.0) k.1) (allows (λ ws. kind_at ws >>= λ k. finished (i.Tally s k.0) k.1) (codes "S" ∷ []) _ refl) (λ word. refl) (λ word more. refl) (λ word k. nothing (i.Tally s k))

-- ---- all instructions

pub operands : (mnemonic : Mnemonic) → StopsFrom (of_mnemonic (Some mnemonic)) (operated None mnemonic)
operands (m.Plain instr) = nothing instr
operands (m.WithNumber form) = numbered (with_number form)
operands (m.WithSlot form) = slotted (with_slot form)
operands (m.WithTarget form) = targeted (with_target form)
operands m.Push = push
operands m.Times = times
operands m.Open = opened
operands m.Fork = forked
operands m.Join = joined
operands m.Case = cased
operands m.Tally = tallied
