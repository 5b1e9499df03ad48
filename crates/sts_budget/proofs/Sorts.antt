-- The facts of the control flow and of the open entries that follow from the typing of each
-- instruction.
use Rattle.std.proofs.Common.{◌≡◌, ℕ, ◌+◌, ◌-◌, ◌⊎◌, inl, inr, List, [], ◌∷◌, ◌++◌, drop, map, true, false, cond, ◌==◌, Option, Some, None, refl, sym, ap, ◌∙◌}
use Rattle.std.proofs.Common.{subst, zero, suc, ◌<◌, length, get_or, arith}
use Rattle.sts_types.proofs.AmongLemmas.{among_left}
use Rattle.sts_code.specs.Program.{Program}
use Rattle.sts_code.specs.declared.instr.Instr.{Instr}
use Rattle.sts_code.specs.declared.instr.Instr.TheVariants.{Div, Jmp, Jz, Times, Next, Fork, Join, Close, Case, Unbind, Ret, Fail}
use Rattle.sts_rules.specs.declared.typing.TypedEntry.{TypedEntry}
use Rattle.sts_rules.specs.declared.typing.TypedEntry.TheVariants.{Scope, Binding}
use Rattle.sts_rules.specs.declared.typing.TypedPhase.{TypedPhase}
use Rattle.sts_rules.specs.declared.typing.TypedPhase.TheVariants.{Attempted, Joined, Late}
use Rattle.sts_rules.specs.declared.typing.Known.TheVariants.{Unknown, Success, Failed}
use Rattle.sts_rules.specs.declared.typing.SlotKind.{SlotKind}
use Rattle.sts_rules.specs.declared.typing.SlotKind.TheVariants.{Sub}
use Rattle.sts_rules.specs.TypeState.{TypeState, scope_in}
use Rattle.sts_rules.specs.Flow.{Leads}
use Rattle.sts_rules.specs.Around.{next_place, skipped_to, open_after}
use Rattle.sts_code.specs.Facts.{goes_straight_on, targets}
use Rattle.sts_rules.specs.Edges.{follows, moved, with_slot, with_known, with_phase, phase_set, raised, after_ok, joiner_of, join_follows}
use Rattle.sts_rules.specs.ControlPaths.{GoesTo, EndsPath, Among}
use Rattle.sts_rules.specs.Budget.{shape_of}
use Rattle.sts_budget.specs.Layout.{names_after}
use Rattle.sts_budget.specs.TypedNames.{name_of, names}

name_kept : (x : ℕ) (phase : TypedPhase) (e : TypedEntry) → name_of (phase_set x phase e) ≡ name_of e
name_kept x phase (Binding k) = refl
name_kept x phase (Scope r) = elim (r.slot == x) as (λ b. name_of (cond b (Scope (record r { phase = phase })) (Scope r)) ≡ Some r.slot) [ true ↦ refl | false ↦ refl ]

names_kept : (x : ℕ) (phase : TypedPhase) (es : List TypedEntry) → names (map (phase_set x phase) es) ≡ names es
names_kept x phase [] = refl
names_kept x phase (e ∷ es) = ap (λ n. n ∷ names (map (phase_set x phase) es)) (name_kept x phase e) ∙ ap (λ ns. name_of e ∷ ns) (names_kept x phase es)

names_dropped : (es : List TypedEntry) → names (drop 1 es) ≡ drop 1 (names es)
names_dropped [] = refl
names_dropped (e ∷ es) = refl

-- an instruction that goes on at the places that it names and at the next one, as its typing does
pub record GoesOn (p : Program) (code : List Instr) (pc : ℕ) (i : Instr) : Type 0 where
  pub shape : shape_of pc i ≡ GoesTo (targets i ++ next_place pc i)
  pub no_skip : skipped_to code pc i ≡ []
  pub keeps_loops : (hs : List ℕ) → open_after pc i hs ≡ hs
  pub from : (s : TypeState) (to : ℕ) (x : TypeState) → Leads (follows p code pc i s) to x → Among (targets i ++ next_place pc i) to × (x.loops ≡ s.loops) × (names x.entries ≡ names_after i (names s.entries))
  pub into : (s : TypeState) (to : ℕ) → Among (targets i ++ next_place pc i) to → (x : TypeState) × Leads (follows p code pc i s) to x
  pub some : (to : ℕ) × Among (targets i ++ next_place pc i) to

pub data Sort (p : Program) (code : List Instr) (pc : ℕ) : Instr → Type 0 where
  is_times : (n : ℕ) → Sort p code pc (Times n)
  is_next : Sort p code pc Next
  is_end : {i : Instr} → shape_of pc i ≡ EndsPath → ((s : TypeState) → follows p code pc i s ≡ []) → (targets i ++ next_place pc i ≡ []) → Sort p code pc i
  goes_on : {i : Instr} → GoesOn p code pc i → Sort p code pc i

-- an instruction that only goes on to the next place
single : (p : Program) (code : List Instr) (pc : ℕ) (i : Instr) (out : TypeState → TypeState) → shape_of pc i ≡ GoesTo (targets i ++ next_place pc i) → (targets i ++ next_place pc i ≡ (pc + 1) ∷ []) → skipped_to code pc i ≡ [] → ((hs : List ℕ) → open_after pc i hs ≡ hs)
    → ((s : TypeState) → follows p code pc i s ≡ (pc + 1, out s) ∷ []) → ((s : TypeState) → (out s).loops ≡ s.loops) → ((s : TypeState) → names (out s).entries ≡ names_after i (names s.entries)) → GoesOn p code pc i
single p code pc i out shape places no_skip keeps is loops entries = record {
  shape = shape;
  no_skip = no_skip;
  keeps_loops = keeps;
  from = λ s to x l. at s to x (subst (λ o. Leads o to x) (is s) l);
  into = λ s to a. (out s, subst (λ o. Leads o to (out s)) (sym (is s)) (elim (subst (λ ps. Among ps to) places a) [ inl e ↦ inl (e, refl) | inr out_of ↦ absurd out_of ]));
  some = (pc + 1, subst (λ ps. Among ps (pc + 1)) (sym places) (inl refl));
}
  where
    at : (s : TypeState) (to : ℕ) (x : TypeState) → Leads ((pc + 1, out s) ∷ []) to x → Among (targets i ++ next_place pc i) to × (x.loops ≡ s.loops) × (names x.entries ≡ names_after i (names s.entries))
    at s to x (inl e) = (subst (λ ps. Among ps to) (sym places) (inl e.0), ap (λ (y : TypeState). y.loops) (sym e.1) ∙ loops s, ap (λ (y : TypeState). names y.entries) (sym e.1) ∙ entries s)
    at s to x (inr out_of) = absurd out_of

-- one of two lists
pub among_of : (xs ys : List ℕ) (to : ℕ) → Among (xs ++ ys) to → Among xs to ⊎ Among ys to
among_of [] ys to a = inr a
among_of (x ∷ xs) ys to (inl e) = inl (inl e)
among_of (x ∷ xs) ys to (inr a) = elim (among_of xs ys to a) [ inl b ↦ inl (inr b) | inr b ↦ inr b ]

pub among_at : (xs : List ℕ) (i d : ℕ) → i < length xs → Among xs (get_or xs i d)
among_at [] i d lt = absurd (omega arith)
among_at (x ∷ xs) zero d lt = inl refl
among_at (x ∷ xs) (suc i) d lt = inr (among_at xs i d (omega arith))

-- an instruction that goes straight on leads only to the next place
pub straight : (i : Instr) (pc : ℕ) → goes_straight_on i ≡ true → (pc + 1) ∷ [] ≡ targets i ++ next_place pc i
straight (Div to) pc e = absurd (cc)
straight (Jmp to) pc e = absurd (cc)
straight (Jz to) pc e = absurd (cc)
straight (Join x a b c) pc e = absurd (cc)
straight (Case h a b) pc e = absurd (cc)
straight Ret pc e = absurd (cc)
straight Fail pc e = absurd (cc)
straight _ pc e = refl

pub slot_loops : (h : Option ℕ) (k : SlotKind) (s : TypeState) → (with_slot h k s).loops ≡ s.loops
slot_loops None k s = refl
slot_loops (Some x) k s = refl

slot_names : (h : Option ℕ) (k : SlotKind) (s : TypeState) → names (with_slot h k s).entries ≡ names s.entries
slot_names None k s = refl
slot_names (Some x) k s = refl

jump : (p : Program) (code : List Instr) (pc to : ℕ) → GoesOn p code pc (Jmp to)
jump p code pc to = record {
  shape = refl;
  no_skip = refl;
  keeps_loops = λ hs. refl;
  from = λ s q x. elim [ inl e ↦ (inl e.0, ap (λ (y : TypeState). y.loops) (sym e.1), ap (λ (y : TypeState). names y.entries) (sym e.1)) | inr out_of ↦ absurd out_of ];
  into = λ s q. elim [ inl e ↦ (s, inl (e, refl)) | inr out_of ↦ absurd out_of ];
  some = (to, inl refl);
}

-- to the next place, or to the only target
branch : (p : Program) (code : List Instr) (pc to : ℕ) (i : Instr) (here there : TypeState → TypeState) → shape_of pc i ≡ GoesTo (targets i ++ next_place pc i) → (targets i ++ next_place pc i ≡ to ∷ (pc + 1) ∷ []) → skipped_to code pc i ≡ [] → ((hs : List ℕ) → open_after pc i hs ≡ hs)
    → ((s : TypeState) → follows p code pc i s ≡ (pc + 1, here s) ∷ (to, there s) ∷ []) → ((s : TypeState) → ((here s).loops ≡ s.loops) × ((there s).loops ≡ s.loops)) → ((s : TypeState) → (names (here s).entries ≡ names_after i (names s.entries)) × (names (there s).entries ≡ names_after i (names s.entries))) → GoesOn p code pc i
branch p code pc to i here there shape places no_skip keeps is loops entries = record {
  shape = shape;
  no_skip = no_skip;
  keeps_loops = keeps;
  from = λ s q x l. at s q x (subst (λ o. Leads o q x) (is s) l);
  into = λ s q a. back s q (subst (λ ps. Among ps q) places a);
  some = (pc + 1, subst (λ ps. Among ps (pc + 1)) (sym places) (inr (inl refl)));
}
  where
    at : (s : TypeState) (q : ℕ) (x : TypeState) → Leads ((pc + 1, here s) ∷ (to, there s) ∷ []) q x → Among (targets i ++ next_place pc i) q × (x.loops ≡ s.loops) × (names x.entries ≡ names_after i (names s.entries))
    at s q x (inl e) = (subst (λ ps. Among ps q) (sym places) (inr (inl e.0)), ap (λ (y : TypeState). y.loops) (sym e.1) ∙ (loops s).0, ap (λ (y : TypeState). names y.entries) (sym e.1) ∙ (entries s).0)
    at s q x (inr (inl e)) = (subst (λ ps. Among ps q) (sym places) (inl e.0), ap (λ (y : TypeState). y.loops) (sym e.1) ∙ (loops s).1, ap (λ (y : TypeState). names y.entries) (sym e.1) ∙ (entries s).1)
    at s q x (inr (inr out_of)) = absurd out_of

    back : (s : TypeState) (q : ℕ) → Among (to ∷ (pc + 1) ∷ []) q → (x : TypeState) × Leads (follows p code pc i s) q x
    back s q (inl e) = (there s, subst (λ o. Leads o q (there s)) (sym (is s)) (inr (inl (e, refl))))
    back s q (inr (inl e)) = (here s, subst (λ o. Leads o q (here s)) (sym (is s)) (inl (e, refl)))
    back s q (inr (inr out_of)) = absurd out_of

cases_of : (p : Program) (code : List Instr) (pc h success failed : ℕ) → GoesOn p code pc (Case h success failed)
cases_of p code pc h success failed = record {
  shape = refl;
  no_skip = refl;
  keeps_loops = λ hs. refl;
  from = at;
  into = back;
  some = (pc + 1, inr (inr (inl refl)));
}
  where
    at : (s : TypeState) (q : ℕ) (x : TypeState) → Leads (follows p code pc (Case h success failed) s) q x → Among (success ∷ failed ∷ (pc + 1) ∷ []) q × (x.loops ≡ s.loops) × (names x.entries ≡ names s.entries)
    at s q x (inl e) = (inr (inr (inl e.0)), ap (λ (y : TypeState). y.loops) (sym e.1), ap (λ (y : TypeState). names y.entries) (sym e.1))
    at s q x (inr (inl e)) = (inl e.0, ap (λ (y : TypeState). y.loops) (sym e.1), ap (λ (y : TypeState). names y.entries) (sym e.1))
    at s q x (inr (inr (inl e))) = (inr (inl e.0), ap (λ (y : TypeState). y.loops) (sym e.1), ap (λ (y : TypeState). names y.entries) (sym e.1))
    at s q x (inr (inr (inr out_of))) = absurd out_of

    back : (s : TypeState) (q : ℕ) → Among (success ∷ failed ∷ (pc + 1) ∷ []) q → (x : TypeState) × Leads (follows p code pc (Case h success failed) s) q x
    back s q (inl e) = (with_known h Success s, inr (inl (e, refl)))
    back s q (inr (inl e)) = (with_known h Failed s, inr (inr (inl (e, refl))))
    back s q (inr (inr (inl e))) = (with_known h Unknown s, inl (e, refl))
    back s q (inr (inr (inr out_of))) = absurd out_of

join_of : (p : Program) (code : List Instr) (pc x : ℕ) (failed timeout : Option ℕ) (interrupted : ℕ) → GoesOn p code pc (Join x failed timeout interrupted)
join_of p code pc x failed timeout interrupted = record {
  shape = refl;
  no_skip = refl;
  keeps_loops = λ hs. refl;
  from = at failed timeout;
  into = back failed timeout;
  some = (interrupted, among_left (targets (Join x failed timeout interrupted)) ((pc + 1) ∷ []) interrupted (last failed timeout));
}
  where
    last : (failed timeout : Option ℕ) → Among (targets (Join x failed timeout interrupted)) interrupted
    last None None = inl refl
    last None (Some t) = inr (inl refl)
    last (Some f) None = inr (inl refl)
    last (Some f) (Some t) = inr (inr (inl refl))

    phased : (s y : TypeState) (phase : TypedPhase) → names y.entries ≡ names (map (phase_set x phase) s.entries) → names y.entries ≡ names s.entries
    phased s y phase e = e ∙ names_kept x phase s.entries

    joined : (s y : TypeState) → after_ok x (joiner_of (scope_in s.entries x)) s ≡ y → (y.loops ≡ s.loops) × (names y.entries ≡ names s.entries)
    joined s y e = (ap (λ (z : TypeState). z.loops) (sym e), phased s y Joined (ap (λ (z : TypeState). names z.entries) (sym e)))

    failing : (s y : TypeState) → raised 1 (with_phase x Joined s) ≡ y → (y.loops ≡ s.loops) × (names y.entries ≡ names s.entries)
    failing s y e = (ap (λ (z : TypeState). z.loops) (sym e), phased s y Joined (ap (λ (z : TypeState). names z.entries) (sym e)))

    moving : (s y : TypeState) (phase : TypedPhase) → with_phase x phase s ≡ y → (y.loops ≡ s.loops) × (names y.entries ≡ names s.entries)
    moving s y phase e = (ap (λ (z : TypeState). z.loops) (sym e), phased s y phase (ap (λ (z : TypeState). names z.entries) (sym e)))

    at : (failed timeout : Option ℕ) (s : TypeState) (q : ℕ) (y : TypeState) → Leads (join_follows pc x failed timeout interrupted s) q y → Among (targets (Join x failed timeout interrupted) ++ next_place pc (Join x failed timeout interrupted)) q × (y.loops ≡ s.loops) × (names y.entries ≡ names s.entries)
    at None None s q y (inl e) = (inr (inl e.0), (joined s y e.1).0, (joined s y e.1).1)
    at None None s q y (inr (inl e)) = (inl e.0, (moving s y Attempted e.1).0, (moving s y Attempted e.1).1)
    at None None s q y (inr (inr out_of)) = absurd out_of
    at None (Some t) s q y (inl e) = (inr (inr (inl e.0)), (joined s y e.1).0, (joined s y e.1).1)
    at None (Some t) s q y (inr (inl e)) = (inl e.0, (moving s y Late e.1).0, (moving s y Late e.1).1)
    at None (Some t) s q y (inr (inr (inl e))) = (inr (inl e.0), (moving s y Attempted e.1).0, (moving s y Attempted e.1).1)
    at None (Some t) s q y (inr (inr (inr out_of))) = absurd out_of
    at (Some f) None s q y (inl e) = (inr (inr (inl e.0)), (joined s y e.1).0, (joined s y e.1).1)
    at (Some f) None s q y (inr (inl e)) = (inl e.0, (failing s y e.1).0, (failing s y e.1).1)
    at (Some f) None s q y (inr (inr (inl e))) = (inr (inl e.0), (moving s y Attempted e.1).0, (moving s y Attempted e.1).1)
    at (Some f) None s q y (inr (inr (inr out_of))) = absurd out_of
    at (Some f) (Some t) s q y (inl e) = (inr (inr (inr (inl e.0))), (joined s y e.1).0, (joined s y e.1).1)
    at (Some f) (Some t) s q y (inr (inl e)) = (inl e.0, (failing s y e.1).0, (failing s y e.1).1)
    at (Some f) (Some t) s q y (inr (inr (inl e))) = (inr (inl e.0), (moving s y Late e.1).0, (moving s y Late e.1).1)
    at (Some f) (Some t) s q y (inr (inr (inr (inl e)))) = (inr (inr (inl e.0)), (moving s y Attempted e.1).0, (moving s y Attempted e.1).1)
    at (Some f) (Some t) s q y (inr (inr (inr (inr out_of)))) = absurd out_of

    back : (failed timeout : Option ℕ) (s : TypeState) (q : ℕ) → Among (targets (Join x failed timeout interrupted) ++ next_place pc (Join x failed timeout interrupted)) q → (y : TypeState) × Leads (join_follows pc x failed timeout interrupted s) q y
    back None None s q (inl e) = (with_phase x Attempted s, inr (inl (e, refl)))
    back None None s q (inr (inl e)) = (after_ok x (joiner_of (scope_in s.entries x)) s, inl (e, refl))
    back None None s q (inr (inr out_of)) = absurd out_of
    back None (Some t) s q (inl e) = (with_phase x Late s, inr (inl (e, refl)))
    back None (Some t) s q (inr (inl e)) = (with_phase x Attempted s, inr (inr (inl (e, refl))))
    back None (Some t) s q (inr (inr (inl e))) = (after_ok x (joiner_of (scope_in s.entries x)) s, inl (e, refl))
    back None (Some t) s q (inr (inr (inr out_of))) = absurd out_of
    back (Some f) None s q (inl e) = (raised 1 (with_phase x Joined s), inr (inl (e, refl)))
    back (Some f) None s q (inr (inl e)) = (with_phase x Attempted s, inr (inr (inl (e, refl))))
    back (Some f) None s q (inr (inr (inl e))) = (after_ok x (joiner_of (scope_in s.entries x)) s, inl (e, refl))
    back (Some f) None s q (inr (inr (inr out_of))) = absurd out_of
    back (Some f) (Some t) s q (inl e) = (raised 1 (with_phase x Joined s), inr (inl (e, refl)))
    back (Some f) (Some t) s q (inr (inl e)) = (with_phase x Late s, inr (inr (inl (e, refl))))
    back (Some f) (Some t) s q (inr (inr (inl e))) = (with_phase x Attempted s, inr (inr (inr (inl (e, refl)))))
    back (Some f) (Some t) s q (inr (inr (inr (inl e)))) = (after_ok x (joiner_of (scope_in s.entries x)) s, inl (e, refl))
    back (Some f) (Some t) s q (inr (inr (inr (inr out_of)))) = absurd out_of

-- the typestate at the first place that the instruction leads to
abbrev next : Program → List Instr → ℕ → Instr → TypeState → TypeState
next p code pc i s = (get_or (follows p code pc i s) 0 (pc, s)).1

-- which sort of instruction it is
pub sort : (p : Program) (code : List Instr) (pc : ℕ) (i : Instr) → Sort p code pc i
sort p code pc (Times n) = is_times n
sort p code pc Next = is_next
sort p code pc Ret = is_end refl (λ s. refl) refl
sort p code pc Fail = is_end refl (λ s. refl) refl
sort p code pc (Jmp to) = goes_on (jump p code pc to)
sort p code pc (Div to) = goes_on (branch p code pc to (Div to) (λ s. record s { height = s.height - 1 }) (λ s. record s { height = s.height - 2 }) refl refl refl (λ hs. refl) (λ s. refl) (λ s. (refl, refl)) (λ s. (refl, refl)))
sort p code pc (Jz to) = goes_on (branch p code pc to (Jz to) (λ s. moved p (Jz to) s) (λ s. moved p (Jz to) s) refl refl refl (λ hs. refl) (λ s. refl) (λ s. (refl, refl)) (λ s. (refl, refl)))
sort p code pc (Case h success failed) = goes_on (cases_of p code pc h success failed)
sort p code pc (Join x failed timeout interrupted) = goes_on (join_of p code pc x failed timeout interrupted)
sort p code pc (Close x) = goes_on (single p code pc (Close x) (next p code pc (Close x)) refl refl refl (λ hs. refl) (λ s. refl) (λ s. refl) (λ s. names_dropped s.entries))
sort p code pc Unbind = goes_on (single p code pc Unbind (next p code pc Unbind) refl refl refl (λ hs. refl) (λ s. refl) (λ s. refl) (λ s. names_dropped s.entries))
sort p code pc (Fork x g h) = goes_on (single p code pc (Fork x g h) (next p code pc (Fork x g h)) refl refl refl (λ hs. refl) (λ s. refl) (λ s. slot_loops h (Sub x Unknown) (moved p (Fork x g h) s)) (λ s. slot_names h (Sub x Unknown) (moved p (Fork x g h) s)))
sort p code pc i = goes_on (single p code pc i (next p code pc i) refl refl refl (λ hs. refl) (λ s. refl) (λ s. refl) (λ s. refl))
