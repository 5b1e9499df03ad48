-- The edges of instructions go forward and stay inside the function.
use Rattle.std.proofs.Common.{◌≡◌, ℕ, ◌+◌, ◌<◌, ◌≤◌, ◌⊎◌, inl, inr, true, false, List, [], ◌∷◌, ◌++◌, map, Option, Some, None, option_map, option_to_list}
use Rattle.std.proofs.Common.{slice_get, leb, cond, eqb-true, leb-false, refl, sym, ap, subst, arith}
use Rattle.std.proofs.lemmas.Bool.{not-false, or_parts}
use Rattle.sts_types.proofs.AmongLemmas.{none_passes, among_left, among_right}
use Rattle.sts_code.specs.Program.{Program, routine, instr_at}
use Rattle.sts_code.specs.declared.instr.Instr.{Instr}
use Rattle.sts_code.specs.declared.instr.Instr.TheVariants.{Div, Jmp, Jz, Times, Next, Join, Case, Ret, Fail}
use Rattle.sts_rules.specs.declared.typing.TypedLoop.{TypedLoop}
use Rattle.sts_code.specs.Loops.{match_of, is_at}
use Rattle.sts_rules.specs.TypeState.{TypeState}
use Rattle.sts_rules.specs.Around.{next_place, skipped_to}
use Rattle.sts_code.specs.Facts.{targets, falls_through}
use Rattle.sts_rules.specs.Causes.{closes_loop}
use Rattle.sts_rules.specs.ControlPaths.{Among}
use Rattle.sts_rules.specs.Edges.{follows, to_optional, moved, back_of, typing}
use Rattle.sts_rules.specs.Fits.{Fits}
use Rattle.sts_rules.specs.Flow.{Leads}
use Rattle.sts_rules.specs.Refusal.{size}
use Rattle.sts_types.proofs.Fitting.{fits}
use Rattle.sts_types.proofs.FollowLemmas.{at_place}
use Rattle.sts_types.proofs.MatchingLemmas.{ends}
use Rattle.sts_types.proofs.Passing.{IsForward}
use Rattle.sts_types.proofs.CauseLemmas.{or_cause_ok}

-- an instruction leads to a place that it names, to the next, or past its loop
abbrev pub LeadsTo : List Instr → ℕ → Instr → ℕ → Type 0
LeadsTo code pc i to = Among (targets i) to ⊎ (((pc + 1 ≡ to) × (falls_through i ≡ true)) ⊎ Among (skipped_to code pc i) to)

pub leads_among : (xs : List ℕ) (s : TypeState) (to : ℕ) (x : TypeState) → Leads (map (at_place s) xs) to x → Among xs to
leads_among [] s to x m = elim m [ ]
leads_among (y ∷ ys) s to x (inl l) = inl l.0
leads_among (y ∷ ys) s to x (inr m) = inr (leads_among ys s to x m)

-- the only edge, to the next place
next_leads : (code : List Instr) (pc : ℕ) (i : Instr) (y : TypeState) (to : ℕ) (x : TypeState) → falls_through i ≡ true → Leads ((pc + 1, y) ∷ []) to x → LeadsTo code pc i to
next_leads code pc i y to x f (inl l) = inr (inl (l.0, f))
next_leads code pc i y to x f (inr m) = elim m [ ]

abbrev Targets : Option ℕ → Option ℕ → ℕ → List ℕ
Targets failed timeout interrupted = option_to_list failed ++ (option_to_list timeout ++ interrupted ∷ [])

join_leads : (failed timeout : Option ℕ) (interrupted : ℕ) (a b c : TypeState) (to : ℕ) (x : TypeState) → Leads (to_optional failed a ++ to_optional timeout b ++ (interrupted, c) ∷ []) to x → Among (Targets failed timeout interrupted) to
join_leads None None i a b c to x (inl l) = inl l.0
join_leads None None i a b c to x (inr m) = elim m [ ]
join_leads None (Some t) i a b c to x (inl l) = inl l.0
join_leads None (Some t) i a b c to x (inr (inl l)) = inr (inl l.0)
join_leads None (Some t) i a b c to x (inr (inr m)) = elim m [ ]
join_leads (Some f) None i a b c to x (inl l) = inl l.0
join_leads (Some f) None i a b c to x (inr (inl l)) = inr (inl l.0)
join_leads (Some f) None i a b c to x (inr (inr m)) = elim m [ ]
join_leads (Some f) (Some t) i a b c to x (inl l) = inl l.0
join_leads (Some f) (Some t) i a b c to x (inr (inl l)) = inr (inl l.0)
join_leads (Some f) (Some t) i a b c to x (inr (inr (inl l))) = inr (inr (inl l.0))
join_leads (Some f) (Some t) i a b c to x (inr (inr (inr m))) = elim m [ ]

-- each edge leads to one of these places
pub follow_leads : (p : Program) (code : List Instr) (pc : ℕ) (i : Instr) (s : TypeState) (to : ℕ) (x : TypeState) → Leads (follows p code pc i s) to x → LeadsTo code pc i to
follow_leads p code pc (Div t) s to x (inl l) = inr (inl (l.0, refl))
follow_leads p code pc (Div t) s to x (inr (inl l)) = inl (inl l.0)
follow_leads p code pc (Div t) s to x (inr (inr m)) = elim m [ ]
follow_leads p code pc (Jmp t) s to x (inl l) = inl (inl l.0)
follow_leads p code pc (Jmp t) s to x (inr m) = elim m [ ]
follow_leads p code pc (Jz t) s to x (inl l) = inr (inl (l.0, refl))
follow_leads p code pc (Jz t) s to x (inr (inl l)) = inl (inl l.0)
follow_leads p code pc (Jz t) s to x (inr (inr m)) = elim m [ ]
follow_leads p code pc (Times n) s to x (inl l) = inr (inl (l.0, refl))
follow_leads p code pc (Times n) s to x (inr m) = inr (inr (leads_among (skipped_to code pc (Times n)) (moved p (Times n) s) to x m))
follow_leads p code pc (Join y failed timeout interrupted) s to x (inl l) = inr (inl (l.0, refl))
follow_leads p code pc (Join y failed timeout interrupted) s to x (inr m) = inl (join_leads failed timeout interrupted _ _ _ to x m)
follow_leads p code pc (Case h success failed) s to x (inl l) = inr (inl (l.0, refl))
follow_leads p code pc (Case h success failed) s to x (inr (inl l)) = inl (inl l.0)
follow_leads p code pc (Case h success failed) s to x (inr (inr (inl l))) = inl (inr (inl l.0))
follow_leads p code pc (Case h success failed) s to x (inr (inr (inr m))) = elim m [ ]
follow_leads p code pc Ret s to x m = elim m [ ]
follow_leads p code pc Fail s to x m = elim m [ ]
follow_leads p code pc i s to x m = next_leads code pc i _ to x refl m

-- ---- where no cause holds

past_pc : (pc to : ℕ) → leb to pc ≡ false → pc < to
past_pc pc to e = leb-false to pc e

skip_after : (code : List Instr) (pc : ℕ) (i : Instr) (to : ℕ) → Among (skipped_to code pc i) to → pc < to
skip_after code pc (Times n) to m = by (match_of code pc) refl m
  where
    by : (o : Option ℕ) → match_of code pc ≡ o → Among (option_to_list (option_map (λ q. q + 1) o)) to → pc < to
    by None e m = elim m [ ]
    by (Some q) e (inl same) = let after = (ends code pc q e).after in omega arith
    by (Some q) e (inr m) = elim m [ ]
skip_after code pc i to m = elim m [ ]

pub next_among : (pc : ℕ) (i : Instr) (to : ℕ) → (pc + 1 ≡ to) × (falls_through i ≡ true) → Among (next_place pc i) to
next_among pc i to h = subst (λ xs. Among xs to) (ap (λ b. cond b ((pc + 1) ∷ []) []) (sym h.1)) (inl h.0)

leads_up : (p : Program) (f pc : ℕ) (i : Instr) (s : TypeState) (to : ℕ) → Fits p f pc i s → LeadsTo (routine p f).code pc i to → (pc < to) × (to < size p f)
leads_up p f pc i s to fit m = (after m, leb-false (size p f) to (none_passes (leb (size p f)) (targets i ++ next_place pc i ++ skipped_to (routine p f).code pc i) to fit.inside (all m)))
  where
    after : LeadsTo (routine p f).code pc i to → pc < to
    after (inl m) = past_pc pc to (none_passes (λ t. leb t pc) (targets i) to fit.forward m)
    after (inr (inl h)) = omega (arith, h.0)
    after (inr (inr m)) = skip_after (routine p f).code pc i to m

    all : LeadsTo (routine p f).code pc i to → Among (targets i ++ next_place pc i ++ skipped_to (routine p f).code pc i) to
    all (inl m) = among_left (targets i ++ next_place pc i) (skipped_to (routine p f).code pc i) to (among_left (targets i) (next_place pc i) to m)
    all (inr (inl h)) = among_left (targets i ++ next_place pc i) (skipped_to (routine p f).code pc i) to (among_right (targets i) (next_place pc i) to (next_among pc i to h))
    all (inr (inr m)) = among_right (targets i ++ next_place pc i) (skipped_to (routine p f).code pc i) to m

ends_before : (code : List Instr) (pc : ℕ) (loops : List TypedLoop) (q : ℕ) → closes_loop code pc loops ≡ true → option_map (λ (l : TypedLoop). l.at + 1) (slice_get loops 0) ≡ Some q → q ≤ pc
ends_before code pc [] q e b = cc
ends_before code pc (l ∷ ls) q e b = by (match_of code l.at) refl e
  where
    by : (o : Option ℕ) → match_of code l.at ≡ o → is_at o pc ≡ true → q ≤ pc
    by None m e = cc
    by (Some end) m e =
        let at : end ≡ pc = eqb-true end pc e in
        let same : l.at + 1 ≡ q = cc in
        let after = (ends code l.at end m).after in
        omega arith

pub back_down : (p : Program) (f pc : ℕ) (i : Instr) (s : TypeState) (q : ℕ) → Fits p f pc i s → back_of i s ≡ Some q → q ≤ pc
back_down p f pc Next s q fit b =
    let matched = (or_parts _ _ (or_parts _ _ fit.loops).0).0 in
    ends_before (routine p f).code pc s.loops q (not-false (closes_loop (routine p f).code pc s.loops) matched) b
back_down p f pc _ s q fit b = cc

-- the edges of a function go forward and stay inside it, and a loop goes back to no later place
pub laws : (p : Program) (f : ℕ) → IsForward (typing p f) (size p f)
laws p f =
    record {
      up = λ pc s out to x e l. (let o = or_cause_ok _ _ out e in
          leads_up p f pc (instr_at (routine p f).code pc) s to (fits p f pc _ s o.0) (follow_leads p (routine p f).code pc _ s to x (subst (λ es. Leads es to x) (sym o.1) l)));
      down = λ pc s out q e b. (let o = or_cause_ok _ _ out e in back_down p f pc (instr_at (routine p f).code pc) s q (fits p f pc _ s o.0) b);
    }
