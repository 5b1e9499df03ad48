-- Each typestate that reaches a place, or arrives there, has 16 slots.
use Rattle.std.proofs.Common.{◌≡◌, ℕ, ◌+◌, inl, inr, List, [], ◌∷◌, ◌++◌, Bool, true, false, cond, Option, Some, None, Ok, map, length, option_map, option_to_list, refl, ap, ◌∙◌, subst}
use Rattle.std.proofs.lemmas.List.{length-set, length-map}
use Rattle.sts_code.specs.Program.{Program, routine, instr_at}
use Rattle.sts_code.specs.declared.instr.Instr.{Instr}
use Rattle.sts_code.specs.declared.instr.Instr.TheVariants.{Div, Jmp, Jz, Times, Open, Fork, Join, Close, Case, Ret, Fail}
use Rattle.sts_code.specs.Loops.{match_of}
use Rattle.sts_model.specs.Local.{emptied_slot}
use Rattle.sts_rules.specs.declared.typing.Cause.{Cause}
use Rattle.sts_rules.specs.declared.typing.SlotKind.{SlotKind}
use Rattle.sts_rules.specs.declared.typing.SlotKind.TheVariants.{Empty}
use Rattle.sts_rules.specs.Causes.{least_cause}
use Rattle.sts_rules.specs.Edges.{edges, follows, to_optional, moved, or_cause, with_slot, is_all_success, is_sub_of, joiner_of, succeeded, typing}
use Rattle.sts_rules.specs.Flow.{Reaches, Leads, first, then}
use Rattle.sts_rules.specs.TypeState.{TypeState, scope_in}
use Rattle.look_refusal.specs.declared.ways.WayOrigin.{WayOrigin}
use Rattle.look_refusal.specs.declared.ways.WayOrigin.TheVariants.{Beginning, Edge, Turn}
use Rattle.look_refusal.specs.Ways.{Arrives}
use Rattle.look_refusal.proofs.WayLemmas.{leads_at}

abbrev pub IsFull : TypeState → Type 0
IsFull s = length s.slots ≡ 16

-- so is that of each edge
abbrev AreFull : List (ℕ × TypeState) → Type 0
AreFull [] = Unit {0}
AreFull (e ∷ es) = IsFull e.1 × AreFull es

full_there : (es : List (ℕ × TypeState)) (to : ℕ) (x : TypeState) → AreFull es → Leads es to x → IsFull x
full_there [] to x h l = absurd l
full_there (e ∷ es) to x h (inl l) = subst IsFull l.1 h.0
full_there (e ∷ es) to x h (inr l) = full_there es to x h.1 l

skip_full : (s : TypeState) (o : Option ℕ) → IsFull s → AreFull (map (λ to. (to, s)) (option_to_list (option_map (λ q. q + 1) o)))
skip_full s None h = tt
skip_full s (Some q) h = (h, tt)

ok_full : (x : ℕ) (slots : List SlotKind) (b : Bool) → length slots ≡ 16 → length (cond b (succeeded x slots) slots) ≡ 16
ok_full x slots true h = length-map slots _ ∙ h
ok_full x slots false h = h

join_full : (failed timeout : Option ℕ) (interrupted : ℕ) (a b c : TypeState) → IsFull a → IsFull b → IsFull c → AreFull (to_optional failed a ++ to_optional timeout b ++ (interrupted, c) ∷ [])
join_full None None i a b c f g h = (h, tt)
join_full None (Some t) i a b c f g h = (g, (h, tt))
join_full (Some s) None i a b c f g h = (f, (h, tt))
join_full (Some s) (Some t) i a b c f g h = (f, (g, (h, tt)))

slot_full : (h : Option ℕ) (k : SlotKind) (s : TypeState) → IsFull s → IsFull (with_slot h k s)
slot_full None k s e = e
slot_full (Some x) k s e = length-set s.slots x k ∙ e

follow_full : (p : Program) (code : List Instr) (pc : ℕ) (i : Instr) (s : TypeState) → IsFull s → AreFull (follows p code pc i s)
follow_full p code pc (Div to) s h = (h, (h, tt))
follow_full p code pc (Jmp to) s h = (h, tt)
follow_full p code pc (Jz to) s h = (h, (h, tt))
follow_full p code pc (Times n) s h = (h, skip_full (moved p (Times n) s) (match_of code pc) h)
follow_full p code pc (Open x timed j) s h = (length-set s.slots x _ ∙ h, tt)
follow_full p code pc (Fork x g t) s h = (slot_full t _ (moved p (Fork x g t) s) h, tt)
follow_full p code pc (Join x failed timeout i) s h = (ok_full x s.slots (is_all_success (joiner_of (scope_in s.entries x))) h, join_full failed timeout i _ _ _ h h h)
follow_full p code pc (Close x) s h = (length-set (map (λ k. cond (is_sub_of x k) Empty k) s.slots) x Empty ∙ length-map s.slots _ ∙ h, tt)
follow_full p code pc (Case x a b) s h = (length-set s.slots x _ ∙ h, (length-set s.slots x _ ∙ h, (length-set s.slots x _ ∙ h, tt)))
follow_full p code pc Ret s h = tt
follow_full p code pc Fail s h = tt
follow_full p code pc i s h = (slot_full (emptied_slot i) Empty (moved p i s) h, tt)

followed : (o : Option Cause) (es out : List (ℕ × TypeState)) → or_cause o es ≡ Ok out → es ≡ out
followed None es out e = cc
followed (Some c) es out e = cc

edge_full : (p : Program) (f from : ℕ) (s : TypeState) (out : List (ℕ × TypeState)) (to : ℕ) (x : TypeState) → IsFull s → edges p f from s ≡ Ok out → Leads out to x → IsFull x
edge_full p f from s out to x h e l =
    let i : Instr = instr_at (routine p f).code from in
    let are : follows p (routine p f).code from i s ≡ out = followed (least_cause p f from i s) _ out e in
    full_there out to x (subst AreFull are (follow_full p (routine p f).code from i s h)) l

pub reached_full : (p : Program) (f pc : ℕ) (s : TypeState) → Reaches (typing p f) pc s → IsFull s
reached_full p f pc s first = refl
reached_full p f pc s ((then) from before out r e l) = edge_full p f from before out pc s (reached_full p f from before r) e l

pub arrived_full : (p : Program) (f to : ℕ) (o : WayOrigin) (s : TypeState) → Arrives p f to o s → IsFull s
arrived_full p f to Beginning s h = ap (λ (x : TypeState). length x.slots) h.1
arrived_full p f to (Edge from n) s h =
    edge_full p f from h.0 h.1.0 to s (reached_full p f from h.0 h.1.1.0) h.1.1.1 (leads_at h.1.0 n (to, s) h.1.1.2)
arrived_full p f to (Turn from) s h = reached_full p f from s h.0
