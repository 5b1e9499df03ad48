-- The places of an instruction's edges: those that it names, the next one, and the one past a loop.
use Rattle.std.proofs.Common.{◌≡◌, ℕ, ◌+◌, ◌⊎◌, inl, inr, List, [], ◌∷◌, ◌++◌, map, refl, subst}
use Rattle.sts_code.specs.Facts.{targets}
use Rattle.sts_code.specs.Program.{Program}
use Rattle.sts_code.specs.declared.instr.Instr.{Instr}
use Rattle.sts_code.specs.declared.instr.Instr.TheVariants.{Times, Next}
use Rattle.sts_rules.specs.Around.{next_place, skipped_to}
use Rattle.sts_rules.specs.ControlPaths.{Among}
use Rattle.sts_rules.specs.Edges.{follows, moved}
use Rattle.sts_rules.specs.Flow.{Leads}
use Rattle.sts_rules.specs.TypeState.{TypeState}
pub use Rattle.sts_budget.proofs.Sorts.{among_of, among_at}
use Rattle.sts_budget.proofs.Sorts.{Sort, is_times, is_next, is_end, goes_on, sort}

leads_among : (s : TypeState) (xs : List ℕ) (to : ℕ) (x : TypeState) → Leads (map (λ q. (q, s)) xs) to x → Among xs to
leads_among s [] to x l = elim l [ ]
leads_among s (y ∷ ys) to x (inl h) = inl h.0
leads_among s (y ∷ ys) to x (inr l) = inr (leads_among s ys to x l)

among_leads : (s : TypeState) (xs : List ℕ) (to : ℕ) → Among xs to → Leads (map (λ q. (q, s)) xs) to s
among_leads s [] to a = elim a [ ]
among_leads s (y ∷ ys) to (inl e) = inl (e, refl)
among_leads s (y ∷ ys) to (inr a) = inr (among_leads s ys to a)

module _ (p : Program) (code : List Instr) (pc : ℕ) where
  from : (i : Instr) → Sort p code pc i → (s : TypeState) (to : ℕ) (x : TypeState) → Leads (follows p code pc i s) to x → Among (targets i ++ next_place pc i) to ⊎ Among (skipped_to code pc i) to
  from i (is_times n) s to x (inl h) = inl (inl h.0)
  from i (is_times n) s to x (inr l) = inr (leads_among (moved p (Times n) s) (skipped_to code pc (Times n)) to x l)
  from i is_next s to x (inl h) = inl (inl h.0)
  from i is_next s to x (inr l) = elim l [ ]
  from i (is_end shape none nowhere) s to x l = absurd (subst (λ es. Leads es to x) (none s) l)
  from i (goes_on g) s to x l = inl (g.from s to x l).0

  into : (i : Instr) → Sort p code pc i → (s : TypeState) (to : ℕ) → Among (targets i ++ next_place pc i) to → (x : TypeState) × Leads (follows p code pc i s) to x
  into i (is_times n) s to (inl e) = (_, inl (e, refl))
  into i (is_times n) s to (inr a) = elim a [ ]
  into i is_next s to (inl e) = (_, inl (e, refl))
  into i is_next s to (inr a) = elim a [ ]
  into i (is_end shape none nowhere) s to a = absurd (subst (λ xs. Among xs to) nowhere a)
  into i (goes_on g) s to a = g.into s to a

  -- an edge leads to one of these places
  pub place_of : (i : Instr) (s : TypeState) (to : ℕ) (x : TypeState) → Leads (follows p code pc i s) to x → Among (targets i ++ next_place pc i) to ⊎ Among (skipped_to code pc i) to
  place_of i = from i (sort p code pc i)

  -- an edge leads to each of these places
  pub edge_to : (i : Instr) (s : TypeState) (to : ℕ) → Among (targets i ++ next_place pc i) to → (x : TypeState) × Leads (follows p code pc i s) to x
  edge_to i = into i (sort p code pc i)

  pub edge_past : (i : Instr) (s : TypeState) (to : ℕ) → Among (skipped_to code pc i) to → (x : TypeState) × Leads (follows p code pc i s) to x
  edge_past (Times n) s to a = (moved p (Times n) s, inr (among_leads (moved p (Times n) s) (skipped_to code pc (Times n)) to a))
  edge_past i s to a = elim a [ ]
