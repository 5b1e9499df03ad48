-- The facts of an instruction that follow if no cause holds at it.
use Rattle.std.proofs.Common.{◌≡◌, ℕ, ◌<◌, ◌⊎◌, inl, inr, List, [], ◌∷◌, ◌++◌, length, Bool, true, false, cond, ◌||◌, Option, Some, None, Ok, find, refl, sym}
use Rattle.std.proofs.Common.{ap, ◌∙◌}
use Rattle.std.specs.List.{list_any}
use Rattle.std.proofs.lemmas.Bool.{leb-false, or_parts}
use Rattle.sts_types.proofs.AmongLemmas.{none_passes}
use Rattle.sts_types.proofs.PromisingLemmas.{not_other}
use Rattle.sts_code.specs.Program.{Program, routine}
use Rattle.sts_code.specs.declared.instr.Instr.{Instr}
use Rattle.sts_rules.specs.declared.typing.Cause.{Cause}
use Rattle.sts_rules.specs.declared.typing.Cause.TheVariants as cause
use Rattle.sts_rules.specs.TypeState.{TypeState, heads}
use Rattle.sts_rules.specs.Around.{next_place, skipped_to, open_after, around}
use Rattle.sts_code.specs.Facts.{targets}
use Rattle.sts_rules.specs.Causes.{holds, causes, least_cause, is_unmatched, breaks_structure, is_nested, is_illegal, has_wrong_slot, is_strangers}
use Rattle.sts_rules.specs.Causes.{is_other_loop}
use Rattle.sts_rules.specs.Edges.{follows, or_cause, edges_of}
use Rattle.sts_rules.specs.ControlPaths.{Among}

-- no cause was found, and these are the edges
fine : (o : Option Cause) (es out : List (ℕ × TypeState)) → or_cause o es ≡ Ok out → (o ≡ None) × (out ≡ es)
fine None es out e = (refl, (cc))
fine (Some c) es out e = absurd (cc)

not_found : (t : Cause → Bool) (x : Cause) (xs : List Cause) → find t (x ∷ xs) ≡ None → (t x ≡ false) × (find t xs ≡ None)
not_found t x xs e = by (t x) refl
  where
    by : (b : Bool) → t x ≡ b → (t x ≡ false) × (find t xs ≡ None)
    by true is = let z : Some x ≡ None = sym (ap (λ b. cond b (Some x) (find t xs)) is) ∙ e in absurd (cc)
    by false is = (is, sym (ap (λ b. cond b (Some x) (find t xs)) is) ∙ e)

abbrev Has : List Cause → Cause → Type 0
Has [] c = ⊥
Has (x ∷ xs) c = (x ≡ c) ⊎ Has xs c

none_holds : (t : Cause → Bool) (xs : List Cause) (c : Cause) → find t xs ≡ None → Has xs c → t c ≡ false
none_holds t [] c e h = absurd h
none_holds t (x ∷ xs) c e (inl same) = ap t (sym same) ∙ (not_found t x xs e).0
none_holds t (x ∷ xs) c e (inr h) = none_holds t xs c (not_found t x xs e).1 h

pub record Allowed (p : Program) (f pc : ℕ) (i : Instr) (s : TypeState) (out : List (ℕ × TypeState)) : Type 0 where
  pub is : out ≡ follows p (routine p f).code pc i s
  pub inside : (to : ℕ) → Among (targets i ++ next_place pc i ++ skipped_to (routine p f).code pc i) to → to < length (routine p f).code
  pub later : (to : ℕ) → Among (targets i) to → pc < to
  pub matched : is_unmatched (routine p f).code pc i s ≡ false
  pub around_named : (to : ℕ) → Among (targets i ++ skipped_to (routine p f).code pc i) to → around (routine p f).code to ≡ heads s.loops
  pub around_next : (to : ℕ) → Among (next_place pc i) to → around (routine p f).code to ≡ open_after pc i (heads s.loops)
  pub ordered : breaks_structure i s ≡ false
  pub nested : is_nested i s ≡ false
  pub legal : is_illegal p.profile i s ≡ false
  pub right_slot : has_wrong_slot i s ≡ false
  pub own_thread : is_strangers i s ≡ false

pub allowed : (p : Program) (f pc : ℕ) (i : Instr) (s : TypeState) (out : List (ℕ × TypeState)) → edges_of p f pc i s ≡ Ok out → Allowed p f pc i s out
allowed p f pc i s out e =
    let t = holds p f pc i s in
    let code = (routine p f).code in
    let o = fine (least_cause p f pc i s) (follows p code pc i s) out e in
    let c3 = none_holds t causes cause.FallsOff o.0 (inr (inr (inl refl))) in
    let c4 = none_holds t causes cause.BackJump o.0 (inr (inr (inr (inl refl)))) in
    let c5 = none_holds t causes cause.LoopMismatch o.0 (inr (inr (inr (inr (inl refl))))) in
    let c9 = none_holds t causes cause.SlotKind o.0 (inr (inr (inr (inr (inr (inr (inl refl))))))) in
    let c11 = none_holds t causes cause.WrongThread o.0 (inr (inr (inr (inr (inr (inr (inr (inr (inl refl))))))))) in
    let c12 = none_holds t causes cause.IllegalState o.0 (inr (inr (inr (inr (inr (inr (inr (inr (inr (inl refl)))))))))) in
    let c13 = none_holds t causes cause.Structure o.0 (inr (inr (inr (inr (inr (inr (inr (inr (inr (inr (inl refl))))))))))) in
    let c14 = none_holds t causes cause.Nesting o.0 (inr (inr (inr (inr (inr (inr (inr (inr (inr (inr (inr (inl refl)))))))))))) in
    let m = or_parts (is_unmatched code pc i s || list_any (is_other_loop code (heads s.loops)) (targets i ++ skipped_to code pc i)) (list_any (is_other_loop code (open_after pc i (heads s.loops))) (next_place pc i)) c5 in
    let m' = or_parts (is_unmatched code pc i s) (list_any (is_other_loop code (heads s.loops)) (targets i ++ skipped_to code pc i)) m.0 in
    record {
      is = o.1;
      inside = λ to a. leb-false (length code) to (none_passes _ (targets i ++ next_place pc i ++ skipped_to code pc i) to c3 a);
      later = λ to a. leb-false to pc (none_passes _ (targets i) to c4 a);
      matched = m'.0;
      around_named = λ to a. not_other code (heads s.loops) to (none_passes _ (targets i ++ skipped_to code pc i) to m'.1 a);
      around_next = λ to a. not_other code (open_after pc i (heads s.loops)) to (none_passes _ (next_place pc i) to m.1 a);
      ordered = c13;
      nested = c14;
      legal = c12;
      right_slot = c9;
      own_thread = c11;
    }
