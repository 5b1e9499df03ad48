-- The promises of typing: the open loops of a typestate that is reached are those around its place.
use Rattle.std.proofs.Common.{◌≡◌, ℕ, ◌<◌, ◌⊎◌, inl, inr, false, ◌||◌, List, [], ◌∷◌, ◌++◌, map, drop, Option, Some, None, Ok, bytes_eq, refl, sym, ap, ◌∙◌}
use Rattle.std.proofs.Common.{subst}
use Rattle.std.specs.List.{list_any}
use Rattle.std.proofs.lemmas.Bool.{or_parts, not-false}
use Rattle.sts_types.proofs.AmongLemmas.{none_passes, among_left, among_right}
use lib.Pointwise.{bytes_decides}
use Rattle.sts_code.specs.Program.{Program, routine, instr_at}
use Rattle.sts_code.specs.Checks.{program_fault}
use Rattle.sts_code.specs.declared.instr.Instr.{Instr}
use Rattle.sts_code.specs.declared.instr.Instr.TheVariants.{Div, Jz, Times, Next, Fork, Join, Case, Ret, Fail}
use Rattle.sts_rules.specs.ControlPaths.{Among}
use Rattle.sts_rules.specs.declared.typing.TypedLoop.{TypedLoop}
use Rattle.sts_rules.specs.TypeState.{TypeState, heads}
use Rattle.sts_rules.specs.Around.{next_place, skipped_to, around, open_after}
use Rattle.sts_code.specs.Facts.{targets}
use Rattle.sts_rules.specs.Causes.{is_unmatched, is_other_loop}
use Rattle.sts_rules.specs.Edges.{follows, moved, typing, to_optional}
use Rattle.sts_rules.specs.Fits.{Fits}
use Rattle.sts_rules.specs.Flow.{Leads, Reaches, first, then}
use Rattle.sts_rules.specs.Promises.{TypingPromises}
use Rattle.sts_rules.specs.Refusal.{size, IsAccepted}
use Rattle.sts_code.proofs.LimitLemmas.{has_code}
use Rattle.sts_types.proofs.Fitting.{fits}
use Rattle.sts_types.proofs.FollowLemmas.{at_place}
use Rattle.sts_types.proofs.Laws.{LeadsTo, next_among, follow_leads, leads_among, laws}
use Rattle.sts_types.proofs.CauseLemmas.{or_cause_ok}

-- each edge has these loops open
abbrev KeepLoops : List ℕ → List (ℕ × TypeState) → Type 0
KeepLoops loops [] = Unit {0}
KeepLoops loops (e ∷ es) = (heads e.1.loops ≡ loops) × KeepLoops loops es

kept : (loops : List ℕ) (es : List (ℕ × TypeState)) (to : ℕ) (x : TypeState) → KeepLoops loops es → Leads es to x → heads x.loops ≡ loops
kept loops [] to x k l = elim l [ ]
kept loops (e ∷ es) to x k (inl l) = ap (λ (y : TypeState). heads y.loops) (sym l.1) ∙ k.0
kept loops (e ∷ es) to x k (inr l) = kept loops es to x k.1 l

keep_placed : (s : TypeState) (xs : List ℕ) → KeepLoops (heads s.loops) (map (at_place s) xs)
keep_placed s [] = tt
keep_placed s (x ∷ xs) = (refl, keep_placed s xs)

keep_join : (loops : List ℕ) (failed timeout : Option ℕ) (a b c : TypeState) (i : ℕ) → heads a.loops ≡ loops → heads b.loops ≡ loops → heads c.loops ≡ loops → KeepLoops loops (to_optional failed a ++ to_optional timeout b ++ (i, c) ∷ [])
keep_join loops None None a b c i x y z = (z, tt)
keep_join loops None (Some t) a b c i x y z = (y, (z, tt))
keep_join loops (Some f) None a b c i x y z = (x, (z, tt))
keep_join loops (Some f) (Some t) a b c i x y z = (x, (y, (z, tt)))

-- the loops that an edge leaves open are those that the code says for its place
abbrev OpensAt : List Instr → ℕ → Instr → List ℕ → ℕ → List ℕ → Type 0
OpensAt code pc i before to after = (Among (targets i ++ skipped_to code pc i) to × (after ≡ before)) ⊎ (Among (next_place pc i) to × (after ≡ open_after pc i before))

plain : (code : List Instr) (pc : ℕ) (i : Instr) (loops : List ℕ) (to : ℕ) (x : TypeState) → open_after pc i loops ≡ loops → LeadsTo code pc i to → heads x.loops ≡ loops → OpensAt code pc i loops to (heads x.loops)
plain code pc i loops to x same (inl m) k = inl (among_left (targets i) (skipped_to code pc i) to m, k)
plain code pc i loops to x same (inr (inl h)) k = inr (next_among pc i to h, k ∙ sym same)
plain code pc i loops to x same (inr (inr m)) k = inl (among_right (targets i) (skipped_to code pc i) to m, k)

pub heads_dropped : (loops : List TypedLoop) → heads (drop 1 loops) ≡ drop 1 (heads loops)
heads_dropped [] = refl
heads_dropped (l ∷ ls) = refl

-- each edge of an instruction
opens : (p : Program) (code : List Instr) (pc : ℕ) (i : Instr) (s : TypeState) (to : ℕ) (x : TypeState) → Leads (follows p code pc i s) to x → OpensAt code pc i (heads s.loops) to (heads x.loops)
opens p code pc (Times n) s to x (inl l) = inr (next_among pc (Times n) to (l.0, refl), ap (λ (y : TypeState). heads y.loops) (sym l.1))
opens p code pc (Times n) s to x (inr m) = inl (leads_among (skipped_to code pc (Times n)) (moved p (Times n) s) to x m, kept _ _ to x (keep_placed (moved p (Times n) s) (skipped_to code pc (Times n))) m)
opens p code pc Next s to x (inl l) = inr (next_among pc Next to (l.0, refl), ap (λ (y : TypeState). heads y.loops) (sym l.1) ∙ heads_dropped s.loops)
opens p code pc Next s to x (inr m) = elim m [ ]
opens p code pc (Div t) s to x l = plain code pc (Div t) (heads s.loops) to x refl (follow_leads p code pc (Div t) s to x l) (kept (heads s.loops) (follows p code pc (Div t) s) to x (refl, (refl, tt)) l)
opens p code pc (Jz t) s to x l = plain code pc (Jz t) (heads s.loops) to x refl (follow_leads p code pc (Jz t) s to x l) (kept (heads s.loops) (follows p code pc (Jz t) s) to x (refl, (refl, tt)) l)
opens p code pc (Fork y g None) s to x l = plain code pc (Fork y g None) (heads s.loops) to x refl (follow_leads p code pc (Fork y g None) s to x l) (kept (heads s.loops) (follows p code pc (Fork y g None) s) to x (refl, tt) l)
opens p code pc (Fork y g (Some h)) s to x l = plain code pc (Fork y g (Some h)) (heads s.loops) to x refl (follow_leads p code pc (Fork y g (Some h)) s to x l) (kept (heads s.loops) (follows p code pc (Fork y g (Some h)) s) to x (refl, tt) l)
opens p code pc (Join y failed timeout i) s to x l = plain code pc (Join y failed timeout i) (heads s.loops) to x refl (follow_leads p code pc (Join y failed timeout i) s to x l) (kept (heads s.loops) (follows p code pc (Join y failed timeout i) s) to x (refl, keep_join (heads s.loops) failed timeout _ _ _ i refl refl refl) l)
opens p code pc (Case h a b) s to x l = plain code pc (Case h a b) (heads s.loops) to x refl (follow_leads p code pc (Case h a b) s to x l) (kept (heads s.loops) (follows p code pc (Case h a b) s) to x (refl, (refl, (refl, tt))) l)
opens p code pc Ret s to x l = elim l [ ]
opens p code pc Fail s to x l = elim l [ ]
opens p code pc i s to x l = plain code pc i (heads s.loops) to x refl (follow_leads p code pc i s to x l) (kept (heads s.loops) (follows p code pc i s) to x (refl, tt) l)

pub not_other : (code : List Instr) (loops : List ℕ) (to : ℕ) → is_other_loop code loops to ≡ false → around code to ≡ loops
not_other code loops to e = (bytes_decides (around code to) loops).0 (not-false (bytes_eq (around code to) loops) e)

-- if no cause holds, the loops that an edge leaves open are those around its place
opened : (p : Program) (f pc : ℕ) (i : Instr) (s : TypeState) (to : ℕ) (after : List ℕ) → Fits p f pc i s → OpensAt (routine p f).code pc i (heads s.loops) to after → after ≡ around (routine p f).code to
opened p f pc i s to after fit o = by (or_parts _ _ fit.loops) o
  where
    by : (is_unmatched (routine p f).code pc i s || list_any (is_other_loop (routine p f).code (heads s.loops)) (targets i ++ skipped_to (routine p f).code pc i) ≡ false) × (list_any (is_other_loop (routine p f).code (open_after pc i (heads s.loops))) (next_place pc i) ≡ false) → OpensAt (routine p f).code pc i (heads s.loops) to after → after ≡ around (routine p f).code to
    by h (inl m) = m.1 ∙ sym (not_other (routine p f).code (heads s.loops) to (none_passes (is_other_loop (routine p f).code (heads s.loops)) (targets i ++ skipped_to (routine p f).code pc i) to (or_parts (is_unmatched (routine p f).code pc i s) _ h.0).1 m.0))
    by h (inr m) = m.1 ∙ sym (not_other (routine p f).code (open_after pc i (heads s.loops)) to (none_passes (is_other_loop (routine p f).code (open_after pc i (heads s.loops))) (next_place pc i) to h.1 m.0))

pub loops_around : (p : Program) (f pc : ℕ) (s : TypeState) → Reaches (typing p f) pc s → heads s.loops ≡ around (routine p f).code pc
loops_around p f pc s first = refl
loops_around p f pc s (then from before out r e l) =
    let o = or_cause_ok _ _ out e in
    let m = opens p (routine p f).code from (instr_at (routine p f).code from) before pc s (subst (λ es. Leads es pc s) (sym o.1) l) in
    opened p f from (instr_at (routine p f).code from) before pc (heads s.loops) (fits p f from _ before o.0) m

reached_within : (p : Program) (f pc : ℕ) (s : TypeState) → 0 < size p f → Reaches (typing p f) pc s → pc < size p f
reached_within p f pc s some first = some
reached_within p f pc s some (then from before out r e l) = ((laws p f).up from before out pc s e l).1

pub promises : (p : Program) → program_fault p.routines ≡ None → IsAccepted p → TypingPromises p
promises p fine accepted f pc s lt r =
    let within : pc < size p f = reached_within p f pc s (has_code p f fine lt) r in
    let clear = (accepted.sound f lt).typed pc within in
    let same : s ≡ clear.state = clear.alone.1 s r in
    let edges_ok = subst (λ y. (typing p f).edges pc y ≡ Ok clear.out) (sym same) clear.fine in
    let o = or_cause_ok _ _ clear.out edges_ok in
    record {
      within = within;
      alone = λ other there. clear.alone.1 other there ∙ sym same;
      fits = fits p f pc _ s o.0;
      loops = loops_around p f pc s r;
      leads = λ to x l. then pc s clear.out r edges_ok (subst (λ es. Leads es to x) o.1 l);
      turns = λ q other back there. clear.same q other (subst (λ y. (typing p f).back pc y ≡ Some q) same back) there ∙ sym same;
    }
