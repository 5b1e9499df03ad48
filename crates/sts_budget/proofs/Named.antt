-- The place in a well-typed function gives the names of the open entries, and a loop closes nothing
-- that was opened before it.
use Rattle.std.proofs.Common.{◌≡◌, ℕ, suc, ◌+◌, ◌<◌, ◌≤◌, ◌⊎◌, inl, inr, List, [], ◌∷◌, ◌++◌, length, drop, map, Bool, true, false, cond, not, ◌||◌, ◌==◌, Some}
use Rattle.std.proofs.Common.{refl, sym, ap, ◌∙◌, subst, arith, option_map, option_to_list, slice_get, nat_le}
use Rattle.std.specs.List.{list_any}
use Rattle.std.proofs.lemmas.Bool.{cases_lt, leb-false, eqb-true, not-false, or_parts}
use Rattle.std.proofs.lemmas.List.{length-map}
use Rattle.sts_types.proofs.RoomLemmas.{is_owned}
use Rattle.laws_words.proofs.BoolLemmas.{other_false}
use Rattle.sts_code.specs.Program.{Program, routine, instr_at}
use Rattle.sts_code.specs.declared.instr.Instr.{Instr}
use Rattle.sts_code.specs.declared.instr.Instr.TheVariants.{Times, Fork, Close, Unbind}
use Rattle.sts_rules.specs.declared.typing.TypedLoop.{TypedLoop}
use Rattle.sts_rules.specs.declared.typing.TypedEntry.{TypedEntry}
use Rattle.sts_rules.specs.declared.typing.TypedEntry.TheVariants.{Scope, Binding}
use Rattle.sts_rules.specs.Flow.{Leads, Reaches, first, then}
use Rattle.sts_rules.specs.TypeState.{TypeState, heads, kind, scope_in}
use Rattle.sts_rules.specs.Around.{next_place, around}
use Rattle.sts_code.specs.Facts.{targets}
use Rattle.sts_rules.specs.Causes.{breaks_structure, is_illegal, has_wrong_slot, is_strangers, is_held, is_own, is_lent, passes, is_opened, innermost}
use Rattle.sts_rules.specs.Causes.{is_scope_in, is_binding}
use Rattle.sts_rules.specs.Edges.{follows, moved, typing, back_of}
use Rattle.sts_rules.specs.Refusal.{IsWellTyped}
use Rattle.sts_rules.specs.ControlPaths.{GoesTo, Repeats, EndsPath, Skeleton, Among}
use Rattle.sts_rules.specs.declared.budget.Budgets.{Budgets}
use Rattle.sts_rules.specs.Budget.{skeleton, shape_of}
use Rattle.sts_budget.specs.Layout.{EntryNames, names_after, HasScope, FitsNames}
use Rattle.sts_budget.proofs.Allowed.{allowed}
use Rattle.sts_budget.proofs.TypedLemmas.{IsEdge, over_go, into_loop, past_loop, over_next, edge_at, here, times_at, next_at, goes_at, within_code, opened}
use Rattle.sts_budget.proofs.TypedLemmas.{ended, none_past}
use Rattle.sts_budget.specs.Known.{KnowsNames, NamesRight}
use Rattle.sts_budget.specs.Structured.{Led, from_go, from_head, from_end}
use Rattle.sts_budget.specs.TypedNames.{name_of, names}

-- ---- one instruction

some_entry : (t : TypedEntry → Bool) (es : List TypedEntry) → innermost t es ≡ true → 0 < length (names es)
some_entry t [] e = absurd (cc)
some_entry t (x ∷ es) e = omega (arith, length-map es name_of)

has_scope : (es : List TypedEntry) (x : ℕ) → passes is_opened (scope_in es x) ≡ true → HasScope x (names es)
has_scope [] x e = absurd (cc)
has_scope (Binding k ∷ es) x e = inr (has_scope es x e)
has_scope (Scope r ∷ es) x e = by (r.slot == x) refl (has_scope es x)
  where
    by : (b : Bool) → (r.slot == x) ≡ b → (passes is_opened (scope_in es x) ≡ true → HasScope x (names es)) → HasScope x (names (Scope r ∷ es))
    by true h ih = inl (ap (λ (k : ℕ). Some k) (eqb-true r.slot x h))
    by false h ih = inr (ih (sym (ap (λ b. passes is_opened (cond b (Some r) (scope_in es x))) h) ∙ e))

-- the close of a scope of the task's own
own_slot : (s : TypeState) (x : ℕ) → not (is_own (kind s x) || is_lent (kind s x)) || false ≡ false → is_lent (kind s x) ≡ false → is_own (kind s x) ≡ true
own_slot s x a b = is_owned (kind s x) (or_parts (not (is_own (kind s x) || is_lent (kind s x))) false a).0 b

closes : (s : TypeState) (x : ℕ) → not (is_own (kind s x) || is_lent (kind s x)) || false ≡ false → is_lent (kind s x) ≡ false → breaks_structure (Close x) s ≡ false → (innermost (is_scope_in x) s.entries ≡ true) × (is_held s ≡ false)
closes s x a b e =
    let h = other_false (is_own (kind s x)) (not (innermost (is_scope_in x) s.entries) || is_held s) e (own_slot s x a b) in
    let n = or_parts (not (innermost (is_scope_in x) s.entries)) (is_held s) h in
    (not-false _ n.0, n.1)

unbinds : (s : TypeState) → breaks_structure Unbind s ≡ false → (innermost is_binding s.entries ≡ true) × (is_held s ≡ false)
unbinds s e = let n = or_parts (not (innermost is_binding s.entries)) (is_held s) e in (not-false _ n.0, n.1)

-- if no cause holds, the names fit the instruction
fits_names : (p : Program) (i : Instr) (s : TypeState) → breaks_structure i s ≡ false → is_illegal p.profile i s ≡ false → has_wrong_slot i s ≡ false → is_strangers i s ≡ false → FitsNames i (names s.entries)
fits_names p (Fork x g h) s ordered legal right own = has_scope s.entries x (not-false _ (other_false (is_own (kind s x)) (not (passes is_opened (scope_in s.entries x))) legal (own_slot s x right own)))
fits_names p (Close x) s ordered legal right own = some_entry (is_scope_in x) s.entries (closes s x right own ordered).0
fits_names p Unbind s ordered legal right own = some_entry is_binding s.entries (unbinds s ordered).0
fits_names p _ s ordered legal right own = tt

dropped : (ns : EntryNames) → length ns ≤ length (drop 1 ns) + 1
dropped [] = omega arith
dropped (n ∷ ns) = omega arith

-- an instruction leaves at least the entries that were there, or takes out one that was opened
-- after each open loop began
keeps_depth : (i : Instr) (s : TypeState) → breaks_structure i s ≡ false → has_wrong_slot i s ≡ false → is_strangers i s ≡ false → (length (names s.entries) ≤ length (names_after i (names s.entries))) ⊎ ((is_held s ≡ false) × (length (names s.entries) ≤ length (names_after i (names s.entries)) + 1))
keeps_depth (Close x) s ordered right own = inr ((closes s x right own ordered).1, dropped (names s.entries))
keeps_depth Unbind s ordered right own = inr ((unbinds s ordered).1, dropped (names s.entries))
keeps_depth _ s ordered right own = inl (omega arith)

-- ---- the function

-- as many names as entries
pub named_long : (es : List TypedEntry) → length (names es) ≡ length es
named_long [] = refl
named_long (e ∷ es) = ap suc (named_long es)

module _ (p : Program) (f : ℕ) (accepted : IsWellTyped p f) (some_code : 0 < length (routine p f).code) (bounds : (pc n : ℕ) → instr_at (routine p f).code pc ≡ Times n → 0 < n) (earlier : List Budgets) where
  abbrev c : Skeleton
  c = skeleton earlier (routine p f).code

  pub led : (pc : ℕ) → 0 < pc → pc < length (routine p f).code → Led c pc
  led pc pos within = by pc (accepted pc within).state pos (accepted pc within).alone.0
    where
      at : (from to : ℕ) (s x : TypeState) → IsEdge p (routine p f).code from (instr_at (routine p f).code from) s to x → Led (skeleton earlier (routine p f).code) to
      at from to s x (over_go g among same entries) = from_go from to (targets (instr_at (routine p f).code from) ++ next_place from (instr_at (routine p f).code from)) g.shape among
      at from to s x (into_loop n is loops entries) = from_head from n (ap (shape_of from) is)
      at from to s x (past_loop n q is m loops entries) =
          let o = opened p f accepted some_code bounds earlier from n is in
          let same : Some o.end ≡ Some q = sym o.ends ∙ m in
          let end_is : o.end ≡ q = cc in
          subst (λ k. Led (skeleton earlier (routine p f).code) (k + 1)) (o.mate ∙ end_is) (from_end from n (ap (shape_of from) is))
      at from to s x (over_next is loops entries) =
          let d = ended p f accepted some_code bounds earlier from is in
          let o = opened p f accepted some_code bounds earlier d.head d.turns d.times in
          let same : Some o.end ≡ Some from = sym o.ends ∙ d.ends in
          let end_is : o.end ≡ from = cc in
          subst (λ k. Led (skeleton earlier (routine p f).code) (k + 1)) (o.mate ∙ end_is) (from_end d.head d.turns (ap (shape_of d.head) d.times))

      by : (pc : ℕ) (s : TypeState) → 0 < pc → Reaches (typing p f) pc s → Led (skeleton earlier (routine p f).code) pc
      by pc s pos first = absurd (omega arith)
      by pc s pos (then from before out r e l) = at from pc before s (edge_at p f accepted some_code bounds earlier from before out pc s e l)

  module _ (names_at : ℕ → EntryNames) (right : NamesRight p f names_at) where
    -- the names at a place are those of its typestate
    at_place : (pc : ℕ) (lt : pc < length (routine p f).code) → names (accepted pc lt).state.entries ≡ names_at pc
    at_place pc lt = right pc (accepted pc lt).state (accepted pc lt).alone.0

    over_jump : (pc to : ℕ) (places : List ℕ) → c.shape pc ≡ GoesTo places → Among places to → names_at to ≡ names_after (instr_at (routine p f).code pc) (names_at pc)
    over_jump pc to places e among =
        let g = goes_at p f accepted some_code bounds earlier pc places e in
        let lt = within_code p f accepted some_code bounds earlier pc (λ z. (let w : EndsPath ≡ GoesTo places = sym z ∙ e in (cc))) in
        let k = here p f accepted some_code bounds earlier pc lt in
        let x = g.0.into k.clear.state to (subst (λ ps. Among ps to) g.1 among) in
        let l = subst (λ o. Leads o to x.0) (sym k.rules.is) x.1 in
        let r = then pc k.clear.state k.clear.out k.clear.alone.0 k.clear.fine l in
        let h = g.0.from k.clear.state to x.0 x.1 in
        sym (right to x.0 r) ∙ h.2 ∙ ap (names_after (instr_at (routine p f).code pc)) (right pc k.clear.state k.clear.alone.0)

    same_names : (pc n : ℕ) → c.shape pc ≡ Repeats n → (names_at (pc + 1) ≡ names_at pc) × (names_at (c.mate pc) ≡ names_at pc) × (names_at (c.mate pc + 1) ≡ names_at pc)
    same_names pc n e =
        let i = times_at p f accepted some_code bounds earlier pc n e in
        let o = opened p f accepted some_code bounds earlier pc n i in
        let lt = within_code p f accepted some_code bounds earlier pc (λ z. (let w : EndsPath ≡ Repeats n = sym z ∙ e in (cc))) in
        let k = here p f accepted some_code bounds earlier pc lt in
        let s = k.clear.state in
        let out_is : k.clear.out ≡ follows p (routine p f).code pc (Times n) s = k.rules.is ∙ ap (λ j. follows p (routine p f).code pc j s) i in
        let inner : TypeState = record (moved p (Times n) s) { loops = record { at = pc; entries = length s.entries } ∷ s.loops } in
        let into : Leads k.clear.out (pc + 1) inner = subst (λ l. Leads l (pc + 1) inner) (sym out_is) (inl (refl, refl)) in
        let skips : Leads (follows p (routine p f).code pc (Times n) s) (o.end + 1) (moved p (Times n) s) = inr (subst (λ m. Leads (map (λ q. (q, moved p (Times n) s)) (option_to_list (option_map (λ q. q + 1) m))) (o.end + 1) (moved p (Times n) s)) (sym o.ends) (inl (refl, refl))) in
        let past : Leads k.clear.out (o.end + 1) (moved p (Times n) s) = subst (λ l. Leads l (o.end + 1) (moved p (Times n) s)) (sym out_is) skips in
        let here_names : names s.entries ≡ names_at pc = right pc s k.clear.alone.0 in
        let reach_in : Reaches (typing p f) (pc + 1) inner = then pc s k.clear.out k.clear.alone.0 k.clear.fine into in
        let reach_out : Reaches (typing p f) (o.end + 1) (moved p (Times n) s) = then pc s k.clear.out k.clear.alone.0 k.clear.fine past in
        let d = here p f accepted some_code bounds earlier o.end (omega (arith, o.within)) in
        let back_is : back_of (instr_at (routine p f).code o.end) d.clear.state ≡ Some (pc + 1) = ap (λ j. back_of j d.clear.state) o.is_end ∙ back_to d.clear.state.loops (d.fit.loops ∙ o.around_end) in
        let turn : inner ≡ d.clear.state = d.clear.same (pc + 1) inner back_is reach_in in
        let end_names : names d.clear.state.entries ≡ names_at o.end = right o.end d.clear.state d.clear.alone.0 in (
          sym (right (pc + 1) inner reach_in) ∙ here_names,
          ap names_at o.mate ∙ sym end_names ∙ sym (ap (λ (y : TypeState). names y.entries) turn) ∙ here_names,
          ap (λ q. names_at (q + 1)) o.mate ∙ sym (right (o.end + 1) (moved p (Times n) s) reach_out) ∙ here_names,
        )
      where
        back_to : (ls : List TypedLoop) → heads ls ≡ pc ∷ around (routine p f).code pc → option_map (λ (l : TypedLoop). l.at + 1) (slice_get ls 0) ≡ Some (pc + 1)
        back_to [] e = absurd (cc)
        back_to (l ∷ ls) e = let same : l.at ≡ pc = cc in ap (λ (k : ℕ). Some (k + 1)) same

    -- each open loop keeps the number of entries at its head, and at least that number is open
    abbrev Held : List TypedLoop → ℕ → Type 0
    Held [] n = Unit {0}
    Held (l ∷ ls) n = (l.entries ≤ n) × (l.entries ≡ length (names_at l.at)) × Held ls n

    held_more : (ls : List TypedLoop) (a b : ℕ) → a ≤ b → Held ls a → Held ls b
    held_more [] a b le h = tt
    held_more (l ∷ ls) a b le h = (omega (arith, h.0), h.1, held_more ls a b le h.2)

    held_less : (ls : List TypedLoop) (a b : ℕ) → a ≤ b + 1 → list_any (λ (l : TypedLoop). nat_le a l.entries) ls ≡ false → Held ls a → Held ls b
    held_less [] a b le e h = tt
    held_less (l ∷ ls) a b le e h =
        let n = or_parts (nat_le a l.entries) (list_any (λ (k : TypedLoop). nat_le a k.entries) ls) e in
        let lt = leb-false a l.entries n.0 in
        (omega arith, h.1, held_less ls a b le n.1 h.2)

    held_dropped : (ls : List TypedLoop) (n : ℕ) → Held ls n → Held (drop 1 ls) n
    held_dropped [] n h = tt
    held_dropped (l ∷ ls) n h = h.2

    held_step : (from : ℕ) (s : TypeState) (to : ℕ) (x : TypeState) → (i : Instr) → names s.entries ≡ names_at from → Held s.loops (length (names s.entries)) → breaks_structure i s ≡ false → has_wrong_slot i s ≡ false → is_strangers i s ≡ false → IsEdge p (routine p f).code from i s to x → Held x.loops (length (names x.entries))
    held_step from s to x i here_names h ordered right_slot own (over_go g among same entries) =
        let after : Held s.loops (length (names_after i (names s.entries))) = elim (keeps_depth i s ordered right_slot own) [
          | inl le ↦ held_more s.loops (length (names s.entries)) (length (names_after i (names s.entries))) le h
          | inr r ↦ held_less s.loops (length (names s.entries)) (length (names_after i (names s.entries))) r.1 (subst (λ n. list_any (λ (l : TypedLoop). nat_le n l.entries) s.loops ≡ false) (sym (named_long s.entries)) r.0) h
        ] in
        subst (λ ls. Held ls (length (names x.entries))) (sym same) (subst (λ ns. Held s.loops (length ns)) (sym entries) after)
    held_step from s to x i here_names h ordered right_slot own (into_loop n is loops entries) =
        let n_is : length s.entries ≡ length (names_at from) = sym (named_long s.entries) ∙ ap length here_names in
        let le : length s.entries ≤ length (names s.entries) = omega (arith, named_long s.entries) in
        subst (λ ls. Held ls (length (names x.entries))) (sym loops) (subst (λ es. Held (record { at = from; entries = length s.entries } ∷ s.loops) (length (names es))) (sym entries) (le, n_is, h))
    held_step from s to x i here_names h ordered right_slot own (past_loop n q is m loops entries) =
        subst (λ ls. Held ls (length (names x.entries))) (sym loops) (subst (λ es. Held s.loops (length (names es))) (sym entries) h)
    held_step from s to x i here_names h ordered right_slot own (over_next is loops entries) =
        subst (λ ls. Held ls (length (names x.entries))) (sym loops) (subst (λ es. Held (drop 1 s.loops) (length (names es))) (sym entries) (held_dropped s.loops (length (names s.entries)) h))

    held : (pc : ℕ) (s : TypeState) → Reaches (typing p f) pc s → Held s.loops (length (names s.entries))
    held pc s first = tt
    held pc s (then from before out r e l) =
        let a = allowed p f from (instr_at (routine p f).code from) before out e in
        held_step from before pc s (instr_at (routine p f).code from) (right from before r) (held from before r) a.ordered a.right_slot a.own_thread (edge_at p f accepted some_code bounds earlier from before out pc s e l)

    deeper : (pc h : ℕ) (hs : List ℕ) → around (routine p f).code pc ≡ h ∷ hs → length (names_at h) ≤ length (names_at pc)
    deeper pc h hs e = elim (cases_lt pc (length (routine p f).code)) [
      | inl lt ↦ (let k = here p f accepted some_code bounds earlier pc lt in
          let d = held pc k.clear.state k.clear.alone.0 in
          let n = right pc k.clear.state k.clear.alone.0 in
          first_held k.clear.state.loops (length (names k.clear.state.entries)) (k.fit.loops ∙ e) (ap length n) d)
      | inr ge ↦ absurd (past ge)
    ]
      where
        first_held : (ls : List TypedLoop) (n : ℕ) → heads ls ≡ h ∷ hs → n ≡ length (names_at pc) → Held ls n → length (names_at h) ≤ length (names_at pc)
        first_held [] n is m d = absurd (cc)
        first_held (l ∷ ls) n is m d = let same : l.at ≡ h = cc in let at : length (names_at l.at) ≡ length (names_at h) = ap (λ q. length (names_at q)) same in omega (arith, d.0, d.1)

        past : length (routine p f).code ≤ pc → ⊥
        past ge = let z = none_past (routine p f).code pc (h ∷ hs) e ge in (cc)

    pub knows_names : KnowsNames (routine p f).code c (around (routine p f).code) names_at
    knows_names = record {
      empty = sym (right 0 _ first);
      over_go = over_jump;
      same = same_names;
      times = times_at p f accepted some_code bounds earlier;
      next = next_at p f accepted some_code bounds earlier;
      fit = λ pc lt. (let k = here p f accepted some_code bounds earlier pc lt in
          subst (FitsNames (instr_at (routine p f).code pc)) (right pc k.clear.state k.clear.alone.0) (fits_names p (instr_at (routine p f).code pc) k.clear.state k.rules.ordered k.rules.legal k.rules.right_slot k.rules.own_thread));
      deeper = deeper;
    }
