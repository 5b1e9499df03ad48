-- The frames after a step: they own no more, and have the entries of open scopes and bindings.
use Rattle.std.proofs.Common.{◌≡◌, ℕ, zero, suc, ◌+◌, List, [], ◌∷◌, Bool, true, false, Option, Some, None, refl, sym, ap, subst, ◌∙◌, get_or, set, drop, cond}
use Rattle.std.proofs.Common.{◌||◌, not, arith}
use Rattle.std.proofs.lemmas.Bool.Decides.{nat_tests}
use Rattle.std.specs.List.{list_any}
use Rattle.std.specs.Prelude.{◌==◌, ◌-◌, nat_le, pos, unwrap_or}
use Rattle.std.specs.Int.{int_wrapping_div, w64}
use Rattle.std.specs.Ordering.{int_eq}
use Rattle.sts_code.specs.declared.instr.Instr.{Instr}
use Rattle.sts_code.specs.declared.instr.Instr.TheVariants.{Div, Times, Next, Cancelled, Case, Get, Except, Tally, Total, Read, Bound, OrElse}
use Rattle.sts_code.specs.Program.{Program}
use Rattle.sts_model.specs.declared.record.Slot.{Slot}
use Rattle.sts_model.specs.declared.record.Slot.TheVariants as slots
use Rattle.sts_model.specs.declared.record.Entry.{Entry}
use Rattle.sts_model.specs.declared.record.Entry.TheVariants as entry
use Rattle.sts_model.specs.declared.record.Frame.{Frame}
use Rattle.sts_model.specs.declared.record.Loop.{Loop}
use Rattle.sts_model.specs.declared.record.Scope.{Scope}
use Rattle.sts_model.specs.World.{World, scope_at, code}
use Rattle.sts_model.specs.Local.{local, emptied_slot, turns, enters, clipped, operand, goes, steps}
use Rattle.sts_code.specs.Loops.{match_of}
use Rattle.sts_model.specs.Living.{is_closed}
use Rattle.sts_model.specs.Misuse.{is_scope, is_lent, is_binding, is_entry_of, innermost, at_own}
use Rattle.sts_model.specs.Effect.{named, cleared, is_of, with_slot, moved}
use Rattle.laws_runs.proofs.ListLemmas.{at_set}
use Rattle.laws_runs.proofs.StillLemmas.{Fits}

-- the same slots and entries
pub fits-refl : (w : World) (f : Frame) → Fits w f f
fits-refl w f = record { own = λ i s e. e; entries = λ s still e. e }

-- the two frames have the same function, entries and slots, except for a slot that is emptied
pub record Leaves (f g : Frame) (emptied : Option ℕ) : Type 0 where
  pub function : g.function ≡ f.function
  pub entries : g.entries ≡ f.entries
  pub slots : g.slots ≡ with_slot f.slots emptied slots.Empty

leaves-cond : (b : Bool) (f g h : Frame) → Leaves f g None → Leaves f h None → Leaves f (cond b g h) None
leaves-cond true f g h x y = x
leaves-cond false f g h x y = y

leaves-turns : (f : Frame) (ls : List Loop) → Leaves f (turns f ls) None
leaves-turns f [] = record { function = refl; entries = refl; slots = refl }
leaves-turns f (l ∷ ls) =
    leaves-cond (nat_le l.left 1) f (record (steps f 0 []) { loops = ls }) (record f { pc = l.at + 1; loops = record l { left = l.left - 1 } ∷ ls })
    (record { function = refl; entries = refl; slots = refl })
    (record { function = refl; entries = refl; slots = refl })

leaves-enters : (is : List Instr) (f : Frame) (n : ℕ) → Leaves f (enters is f n) None
leaves-enters is f n =
    leaves-cond (n == 0) f (goes f (unwrap_or (match_of is f.pc) 0 + 1) 1 []) (record (steps f 1 []) { loops = record { at = f.pc; left = n } ∷ f.loops })
    (record { function = refl; entries = refl; slots = refl })
    (record { function = refl; entries = refl; slots = refl })

-- an instruction in the frame leaves the function, the entries, and the slots, except for the one that it empties
pub leaves-local : (is : List Instr) (i : Instr) (f : Frame) → Leaves f (local is i f) (emptied_slot i)
leaves-local is (Div to) f =
    leaves-cond (int_eq (operand f 0) (pos 0)) f (goes f to 2 []) (steps f 2 (int_wrapping_div w64 (operand f 1) (operand f 0) ∷ []))
    (record { function = refl; entries = refl; slots = refl })
    (record { function = refl; entries = refl; slots = refl })
leaves-local is (Times n) f = leaves-enters is f (clipped n (operand f 0))
leaves-local is Next f = leaves-turns f f.loops
leaves-local is _ f = record { function = refl; entries = refl; slots = refl }

-- so does an instruction that reads
pub leaves-moved : (p : Program) (w : World) (t : ℕ) (f : Frame) (i : Instr) → Leaves f (moved p w t f i) (emptied_slot i)
leaves-moved p w t f (Cancelled x) = record { function = refl; entries = refl; slots = refl }
leaves-moved p w t f (Case x success failed) = record { function = refl; entries = refl; slots = refl }
leaves-moved p w t f (Get x) = record { function = refl; entries = refl; slots = refl }
leaves-moved p w t f (Except x) = record { function = refl; entries = refl; slots = refl }
leaves-moved p w t f (Tally x k) = record { function = refl; entries = refl; slots = refl }
leaves-moved p w t f (Total x) = record { function = refl; entries = refl; slots = refl }
leaves-moved p w t f (Read k) = record { function = refl; entries = refl; slots = refl }
leaves-moved p w t f (Bound k) = record { function = refl; entries = refl; slots = refl }
leaves-moved p w t f (OrElse k) = record { function = refl; entries = refl; slots = refl }
leaves-moved p w t f i = leaves-local (code p f) i f

-- ---- slots

owns-cleared : (w : World) (s : ℕ) (xs : List Slot) (i r : ℕ) → get_or (cleared w s xs) i slots.Empty ≡ slots.Own r → get_or xs i slots.Empty ≡ slots.Own r
owns-cleared w s [] i r e = e
owns-cleared w s (x ∷ xs) zero r e = by (is_of w s x) e
  where
    by : (b : Bool) → cond b slots.Empty x ≡ slots.Own r → x ≡ slots.Own r
    by true e = cc
    by false e = e
owns-cleared w s (x ∷ xs) (suc i) r e = owns-cleared w s xs i r e

-- a slot that is emptied or gets a subtask owns nothing
pub owns-set : (xs : List Slot) (h : ℕ) (x : Slot) → ((r : ℕ) → x ≡ slots.Own r → ⊥) → (i r : ℕ) → get_or (set xs h x) i slots.Empty ≡ slots.Own r → get_or xs i slots.Empty ≡ slots.Own r
owns-set xs h x never i r = at_set (λ (y : Slot). y ≡ slots.Own r → get_or xs i slots.Empty ≡ slots.Own r) xs h i x slots.Empty (λ e q. absurd (never r q)) (λ q. q)

owns-put : (xs : List Slot) (h : Option ℕ) (x : Slot) → ((r : ℕ) → x ≡ slots.Own r → ⊥) → (i r : ℕ) → get_or (with_slot xs h x) i slots.Empty ≡ slots.Own r → get_or xs i slots.Empty ≡ slots.Own r
owns-put xs None x never i r e = e
owns-put xs (Some h) x never i r e = owns-set xs h x never i r e

pub owns-with_slot : (xs : List Slot) (h : Option ℕ) (u i r : ℕ) → get_or (with_slot xs h (slots.Sub u)) i slots.Empty ≡ slots.Own r → get_or xs i slots.Empty ≡ slots.Own r
owns-with_slot xs h u = owns-put xs h (slots.Sub u) (λ r e. cc)

pub fits-leaves : (w : World) (f g : Frame) (emptied : Option ℕ) → Leaves f g emptied → Fits w f g
fits-leaves w f g emptied same =
    record {
      own = λ j s e. owns-put f.slots emptied slots.Empty (λ r q. cc) j s (ap (λ (xs : List Slot). get_or xs j slots.Empty) (sym same.slots) ∙ e);
      entries = λ s still e. subst (λ (es : List Entry). list_any (is_entry_of s) es ≡ true) (sym same.entries) e;
    }

-- a slot with a scope that isn't lent owns it
pub own_slot : (x : Slot) → not (is_scope x) ≡ false → is_lent x ≡ false → x ≡ slots.Own (named x)
own_slot (slots.Own s) a b = refl
own_slot _ a b = cc

pub at_own-is : (w : World) (x : Slot) (test : ℕ → Scope → Bool) → x ≡ slots.Own (named x) → at_own w x test ≡ test (named x) (scope_at w (named x))
at_own-is w (slots.Own s) test e = refl
at_own-is w _ test e = cc

-- ---- entries

-- the innermost entry is a binding, so no scope goes with it
entries-unbind : (es : List Entry) (s : ℕ) → not (innermost is_binding es) ≡ false → list_any (is_entry_of s) es ≡ true → list_any (is_entry_of s) (drop 1 es) ≡ true
entries-unbind [] s h e = cc
entries-unbind (entry.Binding k v ∷ es) s h e = e
entries-unbind (entry.Scope r ∷ es) s h e = cc

pub fits-unbind : (w : World) (f : Frame) → not (innermost is_binding f.entries) ≡ false → Fits w f (record (steps f 0 []) { entries = drop 1 f.entries })
fits-unbind w f h = record { own = λ i s e. e; entries = λ s still e. entries-unbind f.entries s h e }

pub fits-bind : (w : World) (f : Frame) (k : ℕ) → Fits w f (record (steps f 1 []) { entries = entry.Binding k (operand f 0) ∷ f.entries })
fits-bind w f k = record { own = λ i s e. e; entries = λ s still e. e }

either : (a b : Bool) → (a ≡ true → ⊥) → (a || b) ≡ true → b ≡ true
either true b never e = absurd (never refl)
either false b never e = e

-- the innermost entry is that of the closed scope s, so no open one goes with it
entries-close : (w : World) (es : List Entry) (s r : ℕ) → is_closed (scope_at w s).phase ≡ true → not (innermost (is_entry_of s) es) ≡ false → is_closed (scope_at w r).phase ≡ false → list_any (is_entry_of r) es ≡ true → list_any (is_entry_of r) (drop 1 es) ≡ true
entries-close w [] s r closed h still e = cc
entries-close w (entry.Binding k v ∷ es) s r closed h still e = cc
entries-close w (entry.Scope q ∷ es) s r closed h still e =
    either (q == r) (list_any (is_entry_of r) es)
    (λ same.
    let a : q ≡ r = grind (arith, nat_tests) in
    let b : q ≡ s = is_own (q == s) h refl in
    let c : s ≡ r = cc in
    let d : is_closed (scope_at w r).phase ≡ true = rw (← c) closed in
    let never : true ≡ false = cc in
    cc)
    e
  where
    is_own : (b : Bool) → not b ≡ false → (q == s) ≡ b → q ≡ s
    is_own true h e = grind (arith, nat_tests)
    is_own false h e = cc

pub fits-close : (w v : World) (f : Frame) (s : ℕ) → is_closed (scope_at v s).phase ≡ true → not (innermost (is_entry_of s) f.entries) ≡ false → Fits v f (record (steps f 0 []) { entries = drop 1 f.entries; slots = cleared w s f.slots })
fits-close w v f s closed h =
    record {
      own = λ i r e. owns-cleared w s f.slots i r e;
      entries = λ r still e. entries-close v f.entries s r closed h still e;
    }
