use Rattle.std.proofs.Common.{◌≡◌, ℕ, ◌^◌, ◌-◌, Bool, true, false, cond, List, [], ◌∷◌, ◌++◌, refl, ◌∙◌, ap, sym, ◌⊎◌, inl, inr, append-nil}
use Rattle.std.specs.Prelude.{Option, Some, None, option_map, Result, Ok, Err, ℤ, codes}
use Rattle.std.specs.List.{AllByRecursion}
use Rattle.std.specs.Option.{option_or}
use Rattle.std.specs.Str.{bytes_eq}
use Rattle.std.proofs.lemmas.Slice.Eq.{bytes_eq-Decides}
use Rattle.std.proofs.lemmas.Option.{cond_some}
use Rattle.sts_code.specs.Name.{is_name}
use Rattle.sts_code.specs.declared.instr.Instr.{Instr}
use Rattle.sts_code.specs.Shape.{Operand, shape}
use Rattle.sts_code.specs.declared.instr.Instr.TheVariants as i
use Rattle.sts_code.specs.declared.instr.Joiner.{Joiner}
use Rattle.sts_code.specs.declared.instr.Joiner.TheVariants.{AllSucceed, AnySucceeds, AwaitOk, AwaitAll, Until}
use Rattle.sts_code.specs.declared.instr.Pred.{Pred}
use Rattle.sts_code.specs.declared.instr.Pred.TheVariants.{Failed, Success, AtLeast}
use Rattle.sts_code.specs.declared.instr.Kind.{Kind}
use Rattle.sts_code.specs.declared.instr.Kind.TheVariants.{S}
use Rattle.sts_text.specs.Number.{number, number_up_to}
use Rattle.sts_asm.specs.declared.fault.AsmKind.{AsmKind}
use Rattle.sts_asm.specs.declared.fault.AsmKind.TheVariants.{BadNumber, BadOperands, UnknownLabel}
use Rattle.sts_asm.specs.Fault.{◌>>=◌}
use Rattle.sts_asm.specs.Marks.{Names, label_in, function_in}
use Rattle.sts_asm.specs.Operand.{Read, wanted, looked_up, number_at, value_at, slot, slot_at, handle, handle_at, named, name_at, target_at, function_at}
use Rattle.sts_asm.specs.Operand.{maybe_target_at, until_count_at, until_value_at, until_at, joiners, joiner_at, timed_at, kinds_counted, kind_at, finished}
use Rattle.sts_asm.specs.declared.mnemonic.Mnemonic.{Mnemonic}
use Rattle.sts_asm.specs.declared.mnemonic.Mnemonic.TheVariants.{Plain, WithNumber, WithSlot, WithTarget, Push, Times, Open, Fork, Join, Case, Tally}
use Rattle.sts_asm.specs.declared.mnemonic.Numbered.{Numbered}
use Rattle.sts_asm.specs.declared.mnemonic.Numbered.TheVariants as numbered
use Rattle.sts_asm.specs.declared.mnemonic.Slotted.{Slotted}
use Rattle.sts_asm.specs.declared.mnemonic.Slotted.TheVariants as slotted
use Rattle.sts_asm.specs.declared.mnemonic.Targeted.{Targeted}
use Rattle.sts_asm.specs.declared.mnemonic.Targeted.TheVariants as targeted
use Rattle.sts_asm.specs.Line.{plain_words, numbered_words, slotted_words, other_words, with_number}
use Rattle.sts_asm.specs.Line.{with_slot, with_target, operated, known, mnemonic_of, instr_of, sample}
use Rattle.sts_asm.proofs.TextLemmas.{bind_ok}
use Rattle.sts_asm.specs.Table.{Spells, IsLabel, IsMaybeLabel, IsFunction, IsHandle, IsKind, IsWord, IsJoiner, IsTimed, ReadByTable}

-- ---- from the table to what is read

pub same : (u v : List ℕ) → bytes_eq u v ≡ true → u ≡ v
same u v e = (bytes_eq-Decides u v).0 e

some_handle : (b : Bool) (u : List ℕ) (s : ℕ) → bytes_eq u (codes "_") ≡ b → slot u ≡ Some s → cond b (Some None) (option_map (λ h. Some h) (slot u)) ≡ Some (Some s)
some_handle false u s e h = rw h refl
some_handle true u s e h = let none : slot u ≡ None = rw (same u (codes "_") e) refl in cc

handle_read : (h : Option ℕ) (u : List ℕ) → IsHandle h u → handle u ≡ Some h
handle_read None u e = rw e refl
handle_read (Some s) u e = some_handle (bytes_eq u (codes "_")) u s refl e

target_read : (names : Option Names) (to : ℕ) (w : List ℕ) (rest : List (List ℕ)) → IsLabel names to w → target_at names (w ∷ rest) ≡ Ok (to, rest)
target_read names to w rest (n, l) = rw (n, l) refl

some_target : (b : Bool) (names : Option Names) (to : ℕ) (w : List ℕ) (rest : List (List ℕ)) → bytes_eq w (codes "-") ≡ b → IsLabel names to w → cond {A = Read (Option ℕ)} b (Ok (None, rest)) (target_at names (w ∷ rest) >>= λ t. Ok (Some t.0, t.1)) ≡ Ok (Some to, rest)
some_target false names to w rest e h = rw (target_read names to w rest h) refl
some_target true names to w rest e h = let none : is_name w ≡ false = rw (same w (codes "-") e) refl in let named = h.0 in cc

maybe_read : (names : Option Names) (to : Option ℕ) (w : List ℕ) (rest : List (List ℕ)) → IsMaybeLabel names to w → maybe_target_at names (w ∷ rest) ≡ Ok (to, rest)
maybe_read names None w rest e = rw e refl
maybe_read names (Some to) w rest h = some_target (bytes_eq w (codes "-")) names to w rest refl h

joiner_read : (j : Joiner) (js rest : List (List ℕ)) → IsJoiner j js → joiner_at (js ++ rest) ≡ Ok (j, rest)
joiner_read AllSucceed js rest e = rw e refl
joiner_read AnySucceeds js rest e = rw e refl
joiner_read AwaitOk js rest e = rw e refl
joiner_read AwaitAll js rest e = rw e refl
joiner_read (Until (Failed n)) js rest (w, e, h) = rw (e, h) refl
joiner_read (Until (Success n)) js rest (w, e, h) = rw (e, h) refl
joiner_read (Until (AtLeast v)) js rest (w, e, h) = rw (e, h) refl

timed_read : (t : Bool) (ts : List (List ℕ)) → IsTimed t ts → timed_at ts ≡ Ok (t, [])
timed_read true ts e = rw e refl
timed_read false ts e = rw e refl

kind_read : (k : Kind) (u : List ℕ) → IsKind k u → kind_at (u ∷ []) ≡ Ok (k, [])
kind_read S u e = rw e refl
kind_read _ u e = rw e refl

-- what the table says is read
pub spelled_read : (names : Option Names) (instr : Instr) (words : List (List ℕ)) → Spells names instr words → instr_of names words ≡ Ok instr
spelled_read names (i.Push k) words (r, e, (o, s, f, (w, g, h), l)) = rw (e, f, g, l, h) refl
spelled_read names (i.Load n) words (r, e, (o, s, f, (w, g, h), l)) = rw (e, f, g, l, h) refl
spelled_read names (i.Store n) words (r, e, (o, s, f, (w, g, h), l)) = rw (e, f, g, l, h) refl
spelled_read names (i.Bind n) words (r, e, (o, s, f, (w, g, h), l)) = rw (e, f, g, l, h) refl
spelled_read names (i.Read n) words (r, e, (o, s, f, (w, g, h), l)) = rw (e, f, g, l, h) refl
spelled_read names (i.Bound n) words (r, e, (o, s, f, (w, g, h), l)) = rw (e, f, g, l, h) refl
spelled_read names (i.OrElse n) words (r, e, (o, s, f, (w, g, h), l)) = rw (e, f, g, l, h) refl
spelled_read names (i.Times n) words (r, e, (o, s, f, (w, g, h), l)) = rw (e, f, g, l, h) refl
spelled_read names (i.Close x) words (r, e, (o, s, f, (w, g, h), l)) = rw (e, f, g, l, h) refl
spelled_read names (i.Cancelled x) words (r, e, (o, s, f, (w, g, h), l)) = rw (e, f, g, l, h) refl
spelled_read names (i.Get x) words (r, e, (o, s, f, (w, g, h), l)) = rw (e, f, g, l, h) refl
spelled_read names (i.Except x) words (r, e, (o, s, f, (w, g, h), l)) = rw (e, f, g, l, h) refl
spelled_read names (i.Total x) words (r, e, (o, s, f, (w, g, h), l)) = rw (e, f, g, l, h) refl
spelled_read names (i.Forget x) words (r, e, (o, s, f, (w, g, h), l)) = rw (e, f, g, l, h) refl
spelled_read names (i.Div to) words (r, e, (o, s, f, (w, g, h), l)) = rw (e, f, g, l, h.0, h.1) refl
spelled_read names (i.Jmp to) words (r, e, (o, s, f, (w, g, h), l)) = rw (e, f, g, l, h.0, h.1) refl
spelled_read names (i.Jz to) words (r, e, (o, s, f, (w, g, h), l)) = rw (e, f, g, l, h.0, h.1) refl
spelled_read names (i.Open x t j) words (r, e, (o, s, f, (w, g, h), (js, u, k, m, (ts, v, n, q, l)))) = rw (e, f, g, k, n, l, h, append-nil ts, joiner_read j js ts m, timed_read t ts q) refl
spelled_read names (i.Fork x f h) words (r, e, (o, s, a, (w, b, c), (o1, s1, a1, (w1, b1, c1), (o2, s2, a2, (w2, b2, c2), l)))) = rw (e, a, b, a1, b1, a2, b2, l, c, c1.0, c1.1, handle_read h w2 c2) refl
spelled_read names (i.Join x f t to) words (r, e, (o, s, a, (w, b, c), (o1, s1, a1, (w1, b1, c1), (o2, s2, a2, (w2, b2, c2), (o3, s3, a3, (w3, b3, c3), l))))) = rw (e, a, b, a1, b1, a2, b2, a3, b3, l, c, maybe_read names f w1 (w2 ∷ w3 ∷ []) c1, maybe_read names t w2 (w3 ∷ []) c2, target_read names to w3 [] c3) refl
spelled_read names (i.Case h x f) words (r, e, (o, s, a, (w, b, c), (o1, s1, a1, (w1, b1, c1), (o2, s2, a2, (w2, b2, c2), l)))) = rw (e, a, b, a1, b1, a2, b2, l, c, target_read names x w1 (w2 ∷ []) c1, target_read names f w2 [] c2) refl
spelled_read names (i.Tally x k) words (r, e, (o, s, a, (w, b, c), (o1, s1, a1, (w1, b1, c1), l))) = rw (e, a, b, a1, b1, l, c, kind_read k w1 c1) refl
spelled_read names _ words (r, e, l) = rw (e, l) refl

-- ---- from what is read to the table

wanted_ok : {A : Type 0} (k : AsmKind) (o : Option A) (rest : List (List ℕ)) (p : A × List (List ℕ)) → wanted k o rest ≡ Ok p → (o ≡ Some p.0) × (rest ≡ p.1)
wanted_ok k None rest p e = cc
wanted_ok k (Some x) rest p e = let both : (x, rest) ≡ p = cc in (ap (λ (q : _ × List (List ℕ)). Some q.0) both, ap (λ (q : _ × List (List ℕ)). q.1) both)

finished_ok : {A : Type 0} (x y : A) (rest : List (List ℕ)) → finished x rest ≡ Ok y → (rest ≡ []) × (x ≡ y)
finished_ok x y [] e = (refl, cc)
finished_ok x y (w ∷ rest) e = cc

number_found : (most : ℕ) (words : List (List ℕ)) (p : ℕ × List (List ℕ)) → number_at most words ≡ Ok p → (w : List ℕ) × (words ≡ w ∷ p.1) × (number_up_to most w ≡ Some p.0)
number_found most [] p e = cc
number_found most (w ∷ rest) p e = let h = wanted_ok BadNumber (number_up_to most w) rest p e in (w, ap (λ (r : List (List ℕ)). w ∷ r) h.1, h.0)

value_found : (words : List (List ℕ)) (p : ℤ × List (List ℕ)) → value_at words ≡ Ok p → (w : List ℕ) × (words ≡ w ∷ p.1) × (number w ≡ Some p.0)
value_found [] p e = cc
value_found (w ∷ rest) p e = let h = wanted_ok BadNumber (number w) rest p e in (w, ap (λ (r : List (List ℕ)). w ∷ r) h.1, h.0)

slot_found : (words : List (List ℕ)) (p : ℕ × List (List ℕ)) → slot_at words ≡ Ok p → (w : List ℕ) × (words ≡ w ∷ p.1) × (slot w ≡ Some p.0)
slot_found [] p e = cc
slot_found (w ∷ rest) p e = let h = wanted_ok BadOperands (slot w) rest p e in (w, ap (λ (r : List (List ℕ)). w ∷ r) h.1, h.0)

name_found : (words : List (List ℕ)) (p : List ℕ × List (List ℕ)) → name_at words ≡ Ok p → (words ≡ p.0 ∷ p.1) × (is_name p.0 ≡ true)
name_found [] p e = cc
name_found (w ∷ rest) p e =
    let h = wanted_ok BadOperands (named w) rest p e in
    let n = cond_some (is_name w) w p.0 h.0 in
    (rw (← n.1, ← h.1) refl, rw (← n.1) n.0)

-- the name was looked up
meaning_found : (meaning : List ℕ → Option ℕ) (words : List (List ℕ)) (p : ℕ × List (List ℕ)) → (name_at words >>= λ name. wanted UnknownLabel (meaning name.0) name.1) ≡ Ok p → (w : List ℕ) × (words ≡ w ∷ p.1) × ((is_name w ≡ true) × (meaning w ≡ Some p.0))
meaning_found meaning words p e =
    let b = bind_ok (name_at words) (λ name. wanted UnknownLabel (meaning name.0) name.1) p e in
    let n = name_found words b.0 b.1 in
    let h = wanted_ok UnknownLabel (meaning b.0.0) b.0.1 p b.2 in
    (b.0.0, n.0 ∙ ap (λ (r : List (List ℕ)). b.0.0 ∷ r) h.1, (n.1, h.0))

target_found : (names : Option Names) (words : List (List ℕ)) (p : ℕ × List (List ℕ)) → target_at names words ≡ Ok p → (w : List ℕ) × (words ≡ w ∷ p.1) × IsLabel names p.0 w
target_found names words p e = meaning_found (label_in names) words p e

function_found : (names : Option Names) (words : List (List ℕ)) (p : ℕ × List (List ℕ)) → function_at names words ≡ Ok p → (w : List ℕ) × (words ≡ w ∷ p.1) × IsFunction names p.0 w
function_found names words p e = meaning_found (function_in names) words p e

parts : {A B E : Type 0} (x : A) (y : B) (p : A × B) → (let r : Result (A × B) E = Ok (x, y) in r ≡ Ok p) → (x ≡ p.0) × (y ≡ p.1)
parts x y p e = let both : (x, y) ≡ p = cc in (ap (λ (q : _ × _). q.0) both, ap (λ (q : _ × _). q.1) both)

maybe_same : (names : Option Names) (f g : Option ℕ) (w : List ℕ) → f ≡ g → IsMaybeLabel names f w → IsMaybeLabel names g w
maybe_same names f g w e h = rw (← e) h

maybe_if : (b : Bool) (names : Option Names) (w : List ℕ) (rest : List (List ℕ)) (p : Option ℕ × List (List ℕ)) → bytes_eq w (codes "-") ≡ b → cond {A = Read (Option ℕ)} b (Ok (None, rest)) (target_at names (w ∷ rest) >>= λ t. Ok (Some t.0, t.1)) ≡ Ok p → (v : List ℕ) × (w ∷ rest ≡ v ∷ p.1) × IsMaybeLabel names p.0 v
maybe_if true names w rest p d e = let h = parts None rest p e in (w, ap (λ (r : List (List ℕ)). w ∷ r) h.1, rw (← h.0) (same w (codes "-") d))
maybe_if false names w rest p d e =
    let b = bind_ok (target_at names (w ∷ rest)) (λ t. Ok (Some t.0, t.1)) p e in
    let t = target_found names (w ∷ rest) b.0 b.1 in
    let h = parts (Some b.0.0) b.0.1 p b.2 in
    (t.0, t.1 ∙ ap (λ (r : List (List ℕ)). t.0 ∷ r) h.1, maybe_same names (Some b.0.0) p.0 t.0 h.0 t.2)

maybe_found : (names : Option Names) (words : List (List ℕ)) (p : Option ℕ × List (List ℕ)) → maybe_target_at names words ≡ Ok p → (w : List ℕ) × (words ≡ w ∷ p.1) × IsMaybeLabel names p.0 w
maybe_found names [] p e = cc
maybe_found names (w ∷ rest) p e = maybe_if (bytes_eq w (codes "-")) names w rest p refl e

handle_ok : (b : Bool) (o : Option ℕ) (w : List ℕ) (h : Option ℕ) → bytes_eq w (codes "_") ≡ b → slot w ≡ o → cond b (Some None) (option_map (λ s. Some s) o) ≡ Some h → IsHandle h w
handle_ok true o w None d s e = same w (codes "_") d
handle_ok true o w (Some h) d s e = cc
handle_ok false None w h d s e = cc
handle_ok false (Some x) w None d s e = cc
handle_ok false (Some x) w (Some h) d s e = let is : x ≡ h = cc in rw (← is) s

handle_found : (words : List (List ℕ)) (p : Option ℕ × List (List ℕ)) → handle_at words ≡ Ok p → (w : List ℕ) × (words ≡ w ∷ p.1) × IsHandle p.0 w
handle_found [] p e = cc
handle_found (w ∷ rest) p e =
    let h = wanted_ok BadOperands (handle w) rest p e in
    (w, ap (λ (r : List (List ℕ)). w ∷ r) h.1, handle_ok (bytes_eq w (codes "_")) (slot w) w p.0 refl refl h.0)

-- a table gives a word the value of the word's own row
look_if : {A : Type 0} (P : List ℕ → A → Type 0) (b : Bool) (v w : List ℕ) (y x : A) (o : Option A) → bytes_eq w v ≡ b → P v y → (o ≡ Some x → P w x) → cond b (Some y) o ≡ Some x → P w x
look_if P true v w y x o d h more e = let is : y ≡ x = cc in rw (same w v d, ← is) h
look_if P false v w y x o d h more e = more e

looked_ok : {A : Type 0} (P : List ℕ → A → Type 0) (t : List (List ℕ × A)) (w : List ℕ) (x : A) → AllByRecursion (λ row. P row.0 row.1) t → looked_up t w ≡ Some x → P w x
looked_ok P [] w x h e = cc
looked_ok P (row ∷ rest) w x h e = look_if P (bytes_eq w row.0) row.0 w row.1 x (looked_up rest w) refl h.0 (looked_ok P rest w x h.1) e

kind_found : (words : List (List ℕ)) (p : Kind × List (List ℕ)) → kind_at words ≡ Ok p → (w : List ℕ) × (words ≡ w ∷ p.1) × IsKind p.0 w
kind_found [] p e = cc
kind_found (w ∷ rest) p e =
    let h = wanted_ok BadOperands (looked_up kinds_counted w) rest p e in
    (w, ap (λ (r : List (List ℕ)). w ∷ r) h.1, looked_ok (λ v k. IsKind k v) kinds_counted w p.0 (refl, (refl, (refl, tt))) h.0)

count_found : (condition : ℕ → Pred) (words : List (List ℕ)) (p : Joiner × List (List ℕ)) → until_count_at condition words ≡ Ok p → (w : List ℕ) × (n : ℕ) × (words ≡ w ∷ p.1) × (number_up_to (2 ^ 32 - 1) w ≡ Some n) × (Until (condition n) ≡ p.0)
count_found condition words p e =
    let b = bind_ok (number_at (2 ^ 32 - 1) words) (λ n. Ok (Until (condition n.0), n.1)) p e in
    let n = number_found (2 ^ 32 - 1) words b.0 b.1 in
    let h = parts (Until (condition b.0.0)) b.0.1 p b.2 in
    (n.0, b.0.0, n.1 ∙ ap (λ (r : List (List ℕ)). n.0 ∷ r) h.1, n.2, h.0)

joiner_same : (j k : Joiner) (words : List (List ℕ)) → j ≡ k → IsJoiner j words → IsJoiner k words
joiner_same j k words e h = rw (← e) h

record JoinerRead (first words : List (List ℕ)) (p : Joiner × List (List ℕ)) : Type 0 where
  front : List (List ℕ)
  whole : words ≡ front ++ p.1
  is : IsJoiner p.0 (first ++ front)

until_if : (a b c : Bool) (w : List ℕ) (rest : List (List ℕ)) (p : Joiner × List (List ℕ)) → bytes_eq w (codes "failed") ≡ a → bytes_eq w (codes "success") ≡ b → bytes_eq w (codes "atleast") ≡ c
    → cond a (until_count_at (λ n. Failed n) rest) (cond b (until_count_at (λ n. Success n) rest) (cond c (until_value_at rest) (Err BadOperands))) ≡ Ok p → JoinerRead (codes "until" ∷ []) (w ∷ rest) p
until_if true b c w rest p x y z e =
    let h = count_found (λ n. Failed n) rest p e in
    record { front = w ∷ h.0 ∷ []; whole = ap (λ (r : List (List ℕ)). w ∷ r) h.2; is = joiner_same (Until (Failed h.1)) p.0 (codes "until" ∷ w ∷ h.0 ∷ []) h.4 (h.0, rw (same w (codes "failed") x) refl, h.3) }
until_if false true c w rest p x y z e =
    let h = count_found (λ n. Success n) rest p e in
    record { front = w ∷ h.0 ∷ []; whole = ap (λ (r : List (List ℕ)). w ∷ r) h.2; is = joiner_same (Until (Success h.1)) p.0 (codes "until" ∷ w ∷ h.0 ∷ []) h.4 (h.0, rw (same w (codes "success") y) refl, h.3) }
until_if false false true w rest p x y z e =
    let b = bind_ok (value_at rest) (λ v. Ok (Until (AtLeast v.0), v.1)) p e in
    let v = value_found rest b.0 b.1 in
    let h = parts (Until (AtLeast b.0.0)) b.0.1 p b.2 in
    record { front = w ∷ v.0 ∷ []; whole = ap (λ (r : List (List ℕ)). w ∷ r) (v.1 ∙ ap (λ (r : List (List ℕ)). v.0 ∷ r) h.1); is = joiner_same (Until (AtLeast b.0.0)) p.0 (codes "until" ∷ w ∷ v.0 ∷ []) h.0 (v.0, rw (same w (codes "atleast") z) refl, v.2) }
until_if false false false w rest p x y z e = cc

until_found : (words : List (List ℕ)) (p : Joiner × List (List ℕ)) → until_at words ≡ Ok p → JoinerRead (codes "until" ∷ []) words p
until_found [] p e = cc
until_found (w ∷ rest) p e = until_if (bytes_eq w (codes "failed")) (bytes_eq w (codes "success")) (bytes_eq w (codes "atleast")) w rest p refl refl refl e

joiner_if : (b : Bool) (w : List ℕ) (rest : List (List ℕ)) (p : Joiner × List (List ℕ)) → bytes_eq w (codes "until") ≡ b → cond b (until_at rest) (wanted BadOperands (looked_up joiners w) rest) ≡ Ok p → JoinerRead [] (w ∷ rest) p
joiner_if true w rest p d e =
    let h = until_found rest p e in
    record { front = w ∷ h.front; whole = ap (λ (r : List (List ℕ)). w ∷ r) h.whole; is = rw (same w (codes "until") d) h.is }
joiner_if false w rest p d e =
    let h = wanted_ok BadOperands (looked_up joiners w) rest p e in
    record { front = w ∷ []; whole = ap (λ (r : List (List ℕ)). w ∷ r) h.1; is = looked_ok (λ v j. IsJoiner j (v ∷ [])) joiners w p.0 (refl, (refl, (refl, (refl, tt)))) h.0 }

joiner_found : (words : List (List ℕ)) (p : Joiner × List (List ℕ)) → joiner_at words ≡ Ok p → JoinerRead [] words p
joiner_found [] p e = cc
joiner_found (w ∷ rest) p e = joiner_if (bytes_eq w (codes "until")) w rest p refl e

timed_if : (b : Bool) (w : List ℕ) (rest : List (List ℕ)) (p : Bool × List (List ℕ)) → bytes_eq w (codes "timed") ≡ b → cond {A = Read Bool} b (Ok (true, rest)) (Err BadOperands) ≡ Ok p → p.1 ≡ [] → IsTimed p.0 (w ∷ rest)
timed_if true w rest p d e none = let h = parts true rest p e in rw (← h.0, same w (codes "timed") d, h.1, none) refl
timed_if false w rest p d e none = cc

timed_found : (words : List (List ℕ)) (p : Bool × List (List ℕ)) → timed_at words ≡ Ok p → p.1 ≡ [] → IsTimed p.0 words
timed_found [] p e none = let h = parts false [] p e in rw (← h.0) refl
timed_found (w ∷ rest) p e none = timed_if (bytes_eq w (codes "timed")) w rest p refl e none

-- the operands that follow the first word of this mnemonic are read as its row says
abbrev IsRight : Mnemonic → Type 0
IsRight m = (names : Option Names) (rest : List (List ℕ)) (instr : Instr) → operated names m rest ≡ Ok instr → Spells names instr ((shape (sample m)).word ∷ rest)

number_row : (m : Numbered) (names : Option Names) (n : ℕ) (rest : List (List ℕ)) → IsWord (λ w. number_up_to 255 w ≡ Some n) rest → Spells names (with_number m n) ((shape (with_number m 0)).word ∷ rest)
number_row numbered.Load names n rest h = (rest, refl, (rest, [], sym (append-nil rest), h, refl))
number_row _ names n rest h = (rest, refl, (rest, [], sym (append-nil rest), h, refl))

slot_row : (m : Slotted) (names : Option Names) (s : ℕ) (rest : List (List ℕ)) → IsWord (λ w. slot w ≡ Some s) rest → Spells names (with_slot m s) ((shape (with_slot m 0)).word ∷ rest)
slot_row slotted.Close names s rest h = (rest, refl, (rest, [], sym (append-nil rest), h, refl))
slot_row _ names s rest h = (rest, refl, (rest, [], sym (append-nil rest), h, refl))

target_row : (m : Targeted) (names : Option Names) (to : ℕ) (rest : List (List ℕ)) → IsWord (IsLabel names to) rest → Spells names (with_target m to) ((shape (with_target m 0)).word ∷ rest)
target_row targeted.Div names to rest h = (rest, refl, (rest, [], sym (append-nil rest), h, refl))
target_row _ names to rest h = (rest, refl, (rest, [], sym (append-nil rest), h, refl))

-- the operands of the instruction that a mnemonic is, if it has none to be read
abbrev left_over : Mnemonic → List Operand
left_over (Plain instr) = (shape instr).operands
left_over _ = []

-- one word that is right; it is named here, so that a proof doesn't write it out
one_word : {P : List ℕ → Type 0} (w : List ℕ) → P w → IsWord P (w ∷ [])
one_word w h = (w, refl, h)

right : (m : Mnemonic) → left_over m ≡ [] → IsRight m
right (Plain x) none names rest instr e = let f = finished_ok x instr rest e in rw (← f.1) (rest, refl, rw none f.0)
right (WithNumber m) none names rest instr e =
    let b = bind_ok (number_at 255 rest) (λ x. finished (with_number m x.0) x.1) instr e in
    let n = number_found 255 rest b.0 b.1 in
    let f = finished_ok (with_number m b.0.0) instr b.0.1 b.2 in
    rw (← f.1) (number_row m names b.0.0 rest (n.0, n.1 ∙ ap (λ (r : List (List ℕ)). n.0 ∷ r) f.0, n.2))
right (WithSlot m) none names rest instr e =
    let b = bind_ok (slot_at rest) (λ s. finished (with_slot m s.0) s.1) instr e in
    let n = slot_found rest b.0 b.1 in
    let f = finished_ok (with_slot m b.0.0) instr b.0.1 b.2 in
    rw (← f.1) (slot_row m names b.0.0 rest (n.0, n.1 ∙ ap (λ (r : List (List ℕ)). n.0 ∷ r) f.0, n.2))
right (WithTarget m) none names rest instr e =
    let b = bind_ok (target_at names rest) (λ to. finished (with_target m to.0) to.1) instr e in
    let n = target_found names rest b.0 b.1 in
    let f = finished_ok (with_target m b.0.0) instr b.0.1 b.2 in
    rw (← f.1) (target_row m names b.0.0 rest (n.0, n.1 ∙ ap (λ (r : List (List ℕ)). n.0 ∷ r) f.0, n.2))
right Push none names rest instr e =
    let b = bind_ok (value_at rest) (λ k. finished (i.Push k.0) k.1) instr e in
    let n = value_found rest b.0 b.1 in
    let f = finished_ok (i.Push b.0.0) instr b.0.1 b.2 in
    rw (← f.1) (rest, refl, (n.0 ∷ [], b.0.1, n.1, one_word n.0 n.2, f.0))
right Times none names rest instr e =
    let b = bind_ok (number_at (2 ^ 16 - 1) rest) (λ n. finished (i.Times n.0) n.1) instr e in
    let n = number_found (2 ^ 16 - 1) rest b.0 b.1 in
    let f = finished_ok (i.Times b.0.0) instr b.0.1 b.2 in
    rw (← f.1) (rest, refl, (n.0 ∷ [], b.0.1, n.1, one_word n.0 n.2, f.0))
right Open none names rest instr e =
    let a = bind_ok (slot_at rest) (λ s. joiner_at s.1 >>= λ j. timed_at j.1 >>= λ t. finished (i.Open s.0 t.0 j.0) t.1) instr e in
    let b = bind_ok (joiner_at a.0.1) (λ j. timed_at j.1 >>= λ t. finished (i.Open a.0.0 t.0 j.0) t.1) instr a.2 in
    let c = bind_ok (timed_at b.0.1) (λ t. finished (i.Open a.0.0 t.0 b.0.0) t.1) instr b.2 in
    let s = slot_found rest a.0 a.1 in
    let j = joiner_found a.0.1 b.0 b.1 in
    let f = finished_ok (i.Open a.0.0 c.0.0 b.0.0) instr c.0.1 c.2 in
    let t = timed_found b.0.1 c.0 c.1 f.0 in
    rw (← f.1) (rest, refl, (s.0 ∷ [], a.0.1, s.1, one_word s.0 s.2, (j.front, b.0.1, j.whole, j.is, (b.0.1, [], sym (append-nil b.0.1), t, refl))))
right Fork none names rest instr e =
    let a = bind_ok (slot_at rest) (λ s. function_at names s.1 >>= λ f. handle_at f.1 >>= λ h. finished (i.Fork s.0 f.0 h.0) h.1) instr e in
    let b = bind_ok (function_at names a.0.1) (λ f. handle_at f.1 >>= λ h. finished (i.Fork a.0.0 f.0 h.0) h.1) instr a.2 in
    let c = bind_ok (handle_at b.0.1) (λ h. finished (i.Fork a.0.0 b.0.0 h.0) h.1) instr b.2 in
    let s = slot_found rest a.0 a.1 in
    let g = function_found names a.0.1 b.0 b.1 in
    let h = handle_found b.0.1 c.0 c.1 in
    let f = finished_ok (i.Fork a.0.0 b.0.0 c.0.0) instr c.0.1 c.2 in
    rw (← f.1) (rest, refl, (s.0 ∷ [], a.0.1, s.1, one_word s.0 s.2, (g.0 ∷ [], b.0.1, g.1, one_word {P = IsFunction names b.0.0} g.0 g.2, (h.0 ∷ [], c.0.1, h.1, one_word {P = IsHandle c.0.0} h.0 h.2, f.0))))
right Join none names rest instr e =
    let a = bind_ok (slot_at rest) (λ s. maybe_target_at names s.1 >>= λ f. maybe_target_at names f.1 >>= λ t. target_at names t.1 >>= λ r. finished (i.Join s.0 f.0 t.0 r.0) r.1) instr e in
    let b = bind_ok (maybe_target_at names a.0.1) (λ f. maybe_target_at names f.1 >>= λ t. target_at names t.1 >>= λ r. finished (i.Join a.0.0 f.0 t.0 r.0) r.1) instr a.2 in
    let c = bind_ok (maybe_target_at names b.0.1) (λ t. target_at names t.1 >>= λ r. finished (i.Join a.0.0 b.0.0 t.0 r.0) r.1) instr b.2 in
    let d = bind_ok (target_at names c.0.1) (λ r. finished (i.Join a.0.0 b.0.0 c.0.0 r.0) r.1) instr c.2 in
    let s = slot_found rest a.0 a.1 in
    let x = maybe_found names a.0.1 b.0 b.1 in
    let y = maybe_found names b.0.1 c.0 c.1 in
    let z = target_found names c.0.1 d.0 d.1 in
    let f = finished_ok (i.Join a.0.0 b.0.0 c.0.0 d.0.0) instr d.0.1 d.2 in
    rw (← f.1) (rest, refl, (s.0 ∷ [], a.0.1, s.1, one_word s.0 s.2, (x.0 ∷ [], b.0.1, x.1, one_word {P = IsMaybeLabel names b.0.0} x.0 x.2, (y.0 ∷ [], c.0.1, y.1, one_word {P = IsMaybeLabel names c.0.0} y.0 y.2, (z.0 ∷ [], d.0.1, z.1, one_word {P = IsLabel names d.0.0} z.0 z.2, f.0)))))
right Case none names rest instr e =
    let a = bind_ok (slot_at rest) (λ h. target_at names h.1 >>= λ s. target_at names s.1 >>= λ f. finished (i.Case h.0 s.0 f.0) f.1) instr e in
    let b = bind_ok (target_at names a.0.1) (λ s. target_at names s.1 >>= λ f. finished (i.Case a.0.0 s.0 f.0) f.1) instr a.2 in
    let c = bind_ok (target_at names b.0.1) (λ f. finished (i.Case a.0.0 b.0.0 f.0) f.1) instr b.2 in
    let s = slot_found rest a.0 a.1 in
    let x = target_found names a.0.1 b.0 b.1 in
    let y = target_found names b.0.1 c.0 c.1 in
    let f = finished_ok (i.Case a.0.0 b.0.0 c.0.0) instr c.0.1 c.2 in
    rw (← f.1) (rest, refl, (s.0 ∷ [], a.0.1, s.1, one_word s.0 s.2, (x.0 ∷ [], b.0.1, x.1, one_word {P = IsLabel names b.0.0} x.0 x.2, (y.0 ∷ [], c.0.1, y.1, one_word {P = IsLabel names c.0.0} y.0 y.2, f.0))))
right Tally none names rest instr e =
    let a = bind_ok (slot_at rest) (λ s. kind_at s.1 >>= λ k. finished (i.Tally s.0 k.0) k.1) instr e in
    let b = bind_ok (kind_at a.0.1) (λ k. finished (i.Tally a.0.0 k.0) k.1) instr a.2 in
    let s = slot_found rest a.0 a.1 in
    let k = kind_found a.0.1 b.0 b.1 in
    let f = finished_ok (i.Tally a.0.0 b.0.0) instr b.0.1 b.2 in
    rw (← f.1) (rest, refl, (s.0 ∷ [], a.0.1, s.1, one_word s.0 s.2, (k.0 ∷ [], b.0.1, k.1, one_word {P = IsKind b.0.0} k.0 k.2, f.0)))

-- the word of an instruction without operands is no other instruction's word
no_other : (word : List ℕ) (m : Mnemonic) → looked_up plain_words word ≡ Some m → looked_up other_words word ≡ None
no_other word m e = looked_ok (λ w n. looked_up other_words w ≡ None) plain_words word m (refl, (refl, (refl, (refl, (refl, (refl, (refl, (refl, (refl, (refl, (refl, (refl, (refl, tt))))))))))))) e

-- so the order in which they are looked for doesn't matter
pub plain_first : (word : List ℕ) (m : Mnemonic) → looked_up plain_words word ≡ Some m → mnemonic_of word ≡ Some m
plain_first word m e = rw (no_other word m e, e) refl

or_ok : {A : Type 0} (a b : Option A) (x : A) → option_or a b ≡ Some x → (a ≡ Some x) ⊎ (b ≡ Some x)
or_ok None b x e = inr e
or_ok (Some y) b x e = inl e

-- a mnemonic has the word of its sample
abbrev HasWord : List ℕ → Mnemonic → Type 0
HasWord word m = ◌≡◌ {A = List ℕ × List Operand} (word, left_over m) ((shape (sample m)).word, [])

has_word : (word : List ℕ) (m : Mnemonic) → mnemonic_of word ≡ Some m → HasWord word m
has_word word m e =
    elim (or_ok (looked_up other_words word) (option_or (looked_up plain_words word) (option_or (looked_up numbered_words word) (looked_up slotted_words word))) m e) [
      | inl h ↦ looked_ok HasWord other_words word m (refl, (refl, (refl, (refl, (refl, (refl, (refl, (refl, (refl, (refl, tt)))))))))) h
      | inr h ↦ elim (or_ok (looked_up plain_words word) (option_or (looked_up numbered_words word) (looked_up slotted_words word)) m h) [
        | inl g ↦ looked_ok HasWord plain_words word m (refl, (refl, (refl, (refl, (refl, (refl, (refl, (refl, (refl, (refl, (refl, (refl, (refl, tt))))))))))))) g
        | inr g ↦ elim (or_ok (looked_up numbered_words word) (looked_up slotted_words word) m g) [
          | inl f ↦ looked_ok HasWord numbered_words word m (refl, (refl, (refl, (refl, (refl, (refl, tt)))))) f
          | inr f ↦ looked_ok HasWord slotted_words word m (refl, (refl, (refl, (refl, (refl, (refl, tt)))))) f
        ]
      ]
    ]

known_spelled : (names : Option Names) (word : List ℕ) (rest : List (List ℕ)) (o : Option Mnemonic) (instr : Instr) → mnemonic_of word ≡ o → known names o rest ≡ Ok instr → Spells names instr (word ∷ rest)
known_spelled names word rest None instr m e = cc
known_spelled names word rest (Some k) instr m e =
    let h = has_word word k m in
    let is : word ≡ (shape (sample k)).word = ap (λ (q : List ℕ × List Operand). q.0) h in
    rw is (right k (ap (λ (q : List ℕ × List Operand). q.1) h) names rest instr e)

-- what is read is what the table says
pub read_spelled : (names : Option Names) (words : List (List ℕ)) (instr : Instr) → instr_of names words ≡ Ok instr → Spells names instr words
read_spelled names [] instr e = cc
read_spelled names (word ∷ rest) instr e = known_spelled names word rest (mnemonic_of word) instr refl e

pub read_by_table : ReadByTable
read_by_table names words instr = (read_spelled names words instr, spelled_read names instr words)
