-- The scopes in structure lists, in every state of every run.
use Rattle.std.proofs.Common.{◌≡◌, ℕ, zero, suc, ◌<◌, ◌≤◌, ◌+◌, List, [], ◌∷◌, Bool, true, false, refl, sym, ◌∙◌, ap, length, arith, cond, ◌&&◌, ◌||◌, not, take, get_or, subst}
use Rattle.std.specs.Prelude.{◌==◌, count_by, nat_lt}
use Rattle.std.specs.List.{list_any}
use Rattle.std.proofs.lemmas.Bool.{cond_both, and_parts}
use Rattle.std.proofs.lemmas.Bool.Decides.{nat_tests}
use Rattle.std.proofs.lemmas.List.Sums.{sum_by_more}
use Rattle.sts_code.specs.Program.{Program}
use Rattle.sts_model.specs.declared.record.Entry.{Entry}
use Rattle.sts_model.specs.declared.record.Entry.TheVariants as entry
use Rattle.sts_model.specs.declared.record.Scope.{Scope}
use Rattle.sts_model.specs.World.{World, task_at, scope_at, no_scope}
use Rattle.sts_model.specs.Living.{lives, is_closed}
use Rattle.sts_model.specs.Misuse.{is_entry_of}
use Rattle.laws_runs.proofs.ListLemmas.{within, count-cons}
use Rattle.laws_runs.proofs.EventLemmas.{Also}
use Rattle.laws_runs.proofs.OrderlyLemmas.{Orderly}
use Rattle.look_drawing.specs.Place.{is_before, is_open_of}
use Rattle.look_drawing.specs.Present.{AreHeld}

-- an entry that occurs is counted
counted : (test : Entry → Bool) (es : List Entry) → list_any test es ≡ true → 1 ≤ count_by test es
counted test [] h = cc
counted test (e ∷ es) h = subst (λ n. 1 ≤ n) (sym (count-cons test e es)) (by (test e) (list_any test es) (counted test es) h)
  where
    by : (a b : Bool) → (b ≡ true → 1 ≤ count_by test es) → (a || b) ≡ true → 1 ≤ cond a 1 0 + count_by test es
    by true b rest h = omega arith
    by false b rest h = let k = rest h in omega (arith, k)

-- one that doesn't occur isn't
not_counted : (test : Entry → Bool) (es : List Entry) → list_any test es ≡ false → count_by test es ≡ 0
not_counted test [] h = refl
not_counted test (e ∷ es) h = count-cons test e es ∙ by (test e) (list_any test es) (not_counted test es) h
  where
    by : (a b : Bool) → (b ≡ false → count_by test es ≡ 0) → (a || b) ≡ false → cond a 1 0 + count_by test es ≡ 0
    by true b rest h = cc
    by false b rest h = let k = rest h in omega (arith, k)

-- a scope of a task that isn't closed was born, and the task is its owner
is_born : (w : World) (t s : ℕ) → is_open_of t (scope_at w s) ≡ true → s < length w.scopes
is_born w t s is = within (λ (x : Scope). not (is_closed x.phase)) w.scopes s no_scope refl (and_parts ((scope_at w s).owner == t) _ is).1

is_owned : (w : World) (t s : ℕ) → is_open_of t (scope_at w s) ≡ true → (scope_at w s).owner ≡ t
is_owned w t s is = let k = (and_parts ((scope_at w s).owner == t) _ is).0 in grind (arith, nat_tests)

is_still : (w : World) (t s : ℕ) → is_open_of t (scope_at w s) ≡ true → is_closed (scope_at w s).phase ≡ false
is_still w t s is = by (is_closed (scope_at w s).phase) (and_parts ((scope_at w s).owner == t) _ is).1
  where
    by : (b : Bool) → not b ≡ true → b ≡ false
    by true e = cc
    by false e = refl

are_open : (n t : ℕ) (b : Bool) → n ≡ t → b ≡ false → ((n == t) && not b) ≡ true
are_open n t true same e = cc
are_open n t false same e = let k : (n == t) ≡ true = grind (arith, nat_tests) in rw k refl

-- in a state of a run
pub held-orderly : (p : Program) (w : World) → Also Orderly w → AreHeld w
held-orderly p w h =
    record {
      entered = λ t s alive.
          cond_both (is_open_of t (scope_at w s)) 1 0 (λ n. count_by (is_entry_of s) (task_at w t).frame.entries ≡ n)
          (λ is. once t s is)
          (λ isn't. never t s alive isn't);
      resting = λ t s dead. none t s dead (is_open_of t (scope_at w s)) refl;
    }
  where
    held : (t s : ℕ) → is_open_of t (scope_at w s) ≡ true → (lives (task_at w t) ≡ true) × (list_any (is_entry_of s) (task_at w t).frame.entries ≡ true)
    held t s is =
        let k = h.right.sound.held s (is_born w t s is) (is_still w t s is) in
        let owner = is_owned w t s is in
        (ap (λ n. lives (task_at w n)) (sym owner) ∙ k.alive, ap (λ n. list_any (is_entry_of s) (task_at w n).frame.entries) (sym owner) ∙ k.entry)

    once : (t s : ℕ) → is_open_of t (scope_at w s) ≡ true → count_by (is_entry_of s) (task_at w t).frame.entries ≡ 1
    once t s is =
        let least = counted (is_entry_of s) (task_at w t).frame.entries (held t s is).1 in
        let most = h.also.entered.once t s in
        omega (arith, least, most)

    never : (t s : ℕ) → lives (task_at w t) ≡ true → is_open_of t (scope_at w s) ≡ false → count_by (is_entry_of s) (task_at w t).frame.entries ≡ 0
    never t s alive isn't = not_counted (is_entry_of s) (task_at w t).frame.entries (by (list_any (is_entry_of s) (task_at w t).frame.entries) refl)
      where
        by : (b : Bool) → list_any (is_entry_of s) (task_at w t).frame.entries ≡ b → b ≡ false
        by false e = refl
        by true e =
            let k = h.also.entered.opens t s alive e in
            let opens = are_open (scope_at w s).owner t (is_closed (scope_at w s).phase) k.owner.owner k.still in
            let clash : true ≡ false = sym opens ∙ isn't in
            cc

    none : (t s : ℕ) → lives (task_at w t) ≡ false → (b : Bool) → is_open_of t (scope_at w s) ≡ b → b ≡ false
    none t s dead false e = refl
    none t s dead true e = let alive = (held t s e).0 in let clash : true ≡ false = sym alive ∙ dead in cc

-- ---- how many scopes a scope is in

-- each of the first scopes is counted among the entries
is_before-more : (s : ℕ) (e : Entry) → cond (is_before (s + 1) e) 1 0 ≡ cond (is_before s e) 1 0 + cond (is_entry_of s e) 1 0
is_before-more s (entry.Binding k v) = refl
is_before-more s (entry.Scope r) = by (nat_lt r (s + 1)) (nat_lt r s) (r == s) refl refl refl
  where
    by : (a b c : Bool) → nat_lt r (s + 1) ≡ a → nat_lt r s ≡ b → (r == s) ≡ c → cond a 1 0 ≡ cond b 1 0 + cond c 1 0
    by a b c e f g = grind (arith, nat_tests)

count_before-more : (s : ℕ) (es : List Entry) → count_by (is_before (s + 1)) es ≡ count_by (is_before s) es + count_by (is_entry_of s) es
count_before-more s [] = refl
count_before-more s (e ∷ es) =
    let rest = count_before-more s es in
    let one = is_before-more s e in
    let a = count-cons (is_before (s + 1)) e es in
    let b = count-cons (is_before s) e es in
    let c = count-cons (is_entry_of s) e es in
    omega (arith, rest, one, a, b, c)

none_before : (es : List Entry) → count_by (is_before 0) es ≡ 0
none_before [] = refl
none_before (entry.Binding k v ∷ es) =
    let here = count-cons (is_before 0) (entry.Binding k v) es in
    let rest = none_before es in
    omega (arith, here, rest)
none_before (entry.Scope r ∷ es) =
    let never : nat_lt r 0 ≡ false = grind (arith, nat_tests) in
    let here = count-cons (is_before 0) (entry.Scope r) es in
    let zero' : ℕ = cond (is_before 0 (entry.Scope r)) 1 0 in
    let none : zero' ≡ 0 = rw never refl in
    let rest = none_before es in
    omega (arith, here, none, rest)

count_more : (test : Scope → Bool) (xs : List Scope) (i : ℕ) (d : Scope) → i < length xs → count_by test (take (i + 1) xs) ≡ count_by test (take i xs) + cond (test (get_or xs i d)) 1 0
count_more test xs i d less = sum_by_more (λ (x : Scope). cond (test x) 1 0) xs i d less

-- the scopes of a task that lives are in its structure list
pub count_entries : (w : World) (t s : ℕ) → AreHeld w → lives (task_at w t) ≡ true → s ≤ length w.scopes → count_by (is_open_of t) (take s w.scopes) ≡ count_by (is_before s) (task_at w t).frame.entries
count_entries w t zero h alive born = sym (none_before (task_at w t).frame.entries)
count_entries w t (suc s) h alive born =
    let before = count_entries w t s h alive (omega (arith, born)) in
    let more = count_more (is_open_of t) w.scopes s no_scope (omega (arith, born)) in
    let entries = count_before-more s (task_at w t).frame.entries in
    let here = h.entered t s alive in
    let one : suc s ≡ s + 1 = omega arith in
    let left = ap (λ (n : ℕ). count_by (is_open_of t) (take n w.scopes)) one in
    let right = ap (λ (n : ℕ). count_by (is_before n) (task_at w t).frame.entries) one in
    omega (arith, before, more, entries, here, left, right)

-- a task that doesn't live has none
pub count_none : (w : World) (t s : ℕ) → AreHeld w → lives (task_at w t) ≡ false → s ≤ length w.scopes → count_by (is_open_of t) (take s w.scopes) ≡ 0
count_none w t zero h dead born = refl
count_none w t (suc s) h dead born =
    let before = count_none w t s h dead (omega (arith, born)) in
    let more = count_more (is_open_of t) w.scopes s no_scope (omega (arith, born)) in
    let none = h.resting t s dead in
    let here : ℕ = cond (is_open_of t (scope_at w s)) 1 0 in
    let zero' : here ≡ 0 = rw none refl in
    let one : suc s ≡ s + 1 = omega arith in
    let left = ap (λ (n : ℕ). count_by (is_open_of t) (take n w.scopes)) one in
    omega (arith, before, more, zero', left)
