-- The nodes after a node are those of the points after its point, with the typestates of the typing.
use Rattle.std.proofs.Common.{◌≡◌, ℕ, ◌+◌, ◌<◌, ◌≤◌, ◌⊎◌, inl, inr, List, ◌++◌, length, get_or, Option, Some, None, Ok, option_map, option_to_list, slice_get, refl, sym, ap, ◌∙◌, subst, arith}
use Rattle.std.specs.Prelude.{slice_index_or}
use Rattle.std.proofs.lemmas.Option.{slice_get-map}
use Rattle.sts_code.specs.Facts.{targets}
use Rattle.sts_code.specs.Loops.{match_of, is_times}
use Rattle.sts_code.specs.Program.{Program, routine, instr_at}
use Rattle.sts_code.specs.declared.instr.Instr.{Instr}
use Rattle.sts_code.specs.declared.instr.Instr.TheVariants.{Times, Next}
use Rattle.sts_code.specs.declared.limits.TheConstants.{MAX_INSTRUCTIONS}
use Rattle.sts_rules.specs.Around.{next_place, skipped_to}
use Rattle.sts_rules.specs.ControlPaths.{Among}
use Rattle.sts_rules.specs.Edges.{edges, follows, typing, back_of}
use Rattle.sts_rules.specs.Flow.{Leads, Reaches, first as reach_first, then}
use Rattle.sts_rules.specs.Promises.{IsPromised}
use Rattle.sts_rules.specs.Refusal.{size}
use Rattle.sts_rules.specs.TypeState.{TypeState, entry}
use Rattle.sts_rules.specs.declared.typing.TypedLoop.{TypedLoop}
use Rattle.sts_types.specs.Typing.{Typing}
use Rattle.sts_types.proofs.FlowLemmas.{edges_reached, turn_reached}
use Rattle.sts_types.proofs.PromisingLemmas.{promises}
use Rattle.sts_budget.proofs.LeadLemmas.{among_at, place_of, edge_to, edge_past}
use Rattle.look_accepted.specs.declared.point.Point.{Point}
use Rattle.look_accepted.specs.Nodes.{Node, Comes, first, along, turn, first_node, start_mark, node_along}
use Rattle.look_accepted.specs.Points.{state_at, node_at, first_point, along as point_along, IsAlong, loop_point, Follows, IsInside, IsTyped}

module _ {p : Program} {f : ℕ} {t : Typing} (h : IsTyped p f t) where
  abbrev code : List Instr
  code = (routine p f).code

  abbrev at : ℕ → Instr
  at pc = instr_at (routine p f).code pc

  -- ---- typestates that are reached

  promised : (pc : ℕ) (s : TypeState) → Reaches (typing p f) pc s → IsPromised p f pc s
  promised pc s r = promises p h.checked h.accepted f pc s h.in_program r

  state_is : (pc : ℕ) (s : TypeState) → Reaches (typing p f) pc s → s ≡ state_at t pc
  state_is pc s r = (h.typing.alone pc (promised pc s r).within).1 s r

  turns : (pc : ℕ) (s : TypeState) (q : ℕ) → Reaches (typing p f) pc s → back_of (at pc) s ≡ Some q → Reaches (typing p f) q s
  turns pc s q r back = turn_reached p f h.typing.clear pc s (promised pc s r).within r q back

  reaches : (n : Node) → Comes p f n → Reaches (typing p f) n.pc n.state
  reaches n first = reach_first
  reaches n (along m out to s comes e l) = then m.pc m.state out (reaches m comes) e l
  reaches n (turn m q comes back) = turns m.pc m.state q (reaches m comes) back

  -- ---- what follows a point

  pub first_is : node_at t (first_point p f) ≡ first_node p f
  first_is = ap (λ (s : TypeState). record { pc = 0; state = s; mark = start_mark p f }) (sym (state_is 0 (entry p f) reach_first))

  module _ (x : Point) (comes : Comes p f (node_at t x)) where
    abbrev s : TypeState
    s = state_at t x.pc

    r : Reaches (typing p f) x.pc s
    r = reaches (node_at t x) comes

    pub within : x.pc < size p f
    within = (promised x.pc s r).within

    edges_are : edges p f x.pc s ≡ Ok (follows p code x.pc (at x.pc) s)
    edges_are = edges_reached p f h.typing.clear x.pc s within r

    ends_are : (n : ℕ) → at x.pc ≡ Times n → slice_index_or t.loops.ends x.pc None ≡ match_of code x.pc
    ends_are n is = h.typing.loops.ends x.pc within (ap is_times is)

    heads_are : slice_index_or t.loops.heads x.pc None ≡ option_map (λ (l : TypedLoop). l.at) (slice_get s.loops 0)
    heads_are = h.typing.loops.heads x.pc within ∙ ap (λ (hs : List ℕ). slice_get hs 0) (sym (promised x.pc s r).loops) ∙ slice_get-map (λ (l : TypedLoop). l.at) s.loops 0

    -- past a loop, or by a turn
    abbrev ByLoop : Instr → Point → Type 0
    ByLoop i y = IsAlong t i x (skipped_to code x.pc i) y ⊎ ((q : ℕ) × ((back_of i s ≡ Some q) × (y ≡ record x { pc = q })))

    from_loop : (i : Instr) → at x.pc ≡ i → (y : Point) → loop_point t x i ≡ Some y → ByLoop i y
    from_loop (Times n) is y e = inl (by (match_of code x.pc) (ap (option_map (λ (end : ℕ). point_along t (Times n) x (end + 1))) (sym (ends_are n is)) ∙ e))
      where
        by : (o : Option ℕ) → option_map (λ (end : ℕ). point_along t (Times n) x (end + 1)) o ≡ Some y → IsAlong t (Times n) x (option_to_list (option_map (λ q. q + 1) o)) y
        by None e = cc
        by (Some q) e = (q + 1, (inl refl, cc))
    from_loop Next is y e = inr (by (slice_get s.loops 0) (ap (option_map (λ (k : ℕ). record x { pc = k + 1 })) (sym heads_are) ∙ e))
      where
        by : (o : Option TypedLoop) → option_map (λ (k : ℕ). record x { pc = k + 1 }) (option_map (λ (l : TypedLoop). l.at) o) ≡ Some y → (q : ℕ) × ((option_map (λ (l : TypedLoop). l.at + 1) o ≡ Some q) × (y ≡ record x { pc = q }))
        by None e = cc
        by (Some l) e = (l.at + 1, (refl, cc))
    from_loop i is y e = cc

    past : (i : Instr) → at x.pc ≡ i → (to : ℕ) → Among (skipped_to code x.pc i) to → loop_point t x i ≡ Some (point_along t i x to)
    past (Times n) is to a = ap (option_map (λ (end : ℕ). point_along t (Times n) x (end + 1))) (ends_are n is) ∙ by (match_of code x.pc) a
      where
        by : (o : Option ℕ) → Among (option_to_list (option_map (λ q. q + 1) o)) to → option_map (λ (end : ℕ). point_along t (Times n) x (end + 1)) o ≡ Some (point_along t (Times n) x to)
        by None a = elim a [ ]
        by (Some q) (inl e) = ap (λ (k : ℕ). Some (point_along t (Times n) x k)) e
        by (Some q) (inr a) = elim a [ ]
    past i is to a = elim a [ ]

    round : (i : Instr) (q : ℕ) → back_of i s ≡ Some q → loop_point t x i ≡ Some (record x { pc = q })
    round Next q back = ap (option_map (λ (k : ℕ). record x { pc = k + 1 })) heads_are ∙ by (slice_get s.loops 0) back
      where
        by : (o : Option TypedLoop) → option_map (λ (l : TypedLoop). l.at + 1) o ≡ Some q → option_map (λ (k : ℕ). record x { pc = k + 1 }) (option_map (λ (l : TypedLoop). l.at) o) ≡ Some (record x { pc = q })
        by None e = cc
        by (Some l) e = let same : l.at + 1 ≡ q = cc in ap (λ (k : ℕ). Some (record x { pc = k })) same
    round i q back = cc

    -- a control path comes to each point that follows
    pub comes_on : (y : Point) → Follows t (at x.pc) x y → Comes p f (node_at t y)
    comes_on y next = elim next [ inl a ↦ edge a.0 (edge_to p code x.pc (at x.pc) s a.0 a.1.0) a.1.1 | inr e ↦ loop (from_loop (at x.pc) refl y e) ]
      where
        edge : (to : ℕ) → (e : TypeState) × Leads (follows p code x.pc (at x.pc) s) to e → y ≡ point_along t (at x.pc) x to → Comes p f (node_at t y)
        edge to e same =
            let there : Comes p f (node_along (at x.pc) (node_at t x) to e.0) = along (node_at t x) (follows p code x.pc (at x.pc) s) to e.0 comes edges_are e.1 in
            let is = state_is to e.0 ((promised x.pc s r).leads to e.0 e.1) in
            subst (λ (z : Point). Comes p f (node_at t z)) (sym same) (subst (λ (z : TypeState). Comes p f (node_along (at x.pc) (node_at t x) to z)) is there)

        loop : ByLoop (at x.pc) y → Comes p f (node_at t y)
        loop (inl a) = edge a.0 (edge_past p code x.pc (at x.pc) s a.0 a.1.0) a.1.1
        loop (inr b) =
            let is = state_is b.0 s (turns x.pc s b.0 r b.1.0) in
            subst (λ (z : Point). Comes p f (node_at t z)) (sym b.1.1) (subst (λ (z : TypeState). Comes p f (record { pc = b.0; state = z; mark = x.mark })) is (turn (node_at t x) b.0 comes b.1.0))

    -- each node that follows has a point that follows
    abbrev HasPoint : Node → Type 0
    HasPoint m = (y : Point) × (Follows t (at x.pc) x y × (node_at t y ≡ m))

    pub along_edge : (out : List (ℕ × TypeState)) (to : ℕ) (e : TypeState) → edges p f x.pc s ≡ Ok out → Leads out to e → HasPoint (node_along (at x.pc) (node_at t x) to e)
    along_edge out to e fine l =
        let ok : Ok out ≡ Ok (follows p code x.pc (at x.pc) s) = sym fine ∙ edges_are in
        let same : out ≡ follows p code x.pc (at x.pc) s = cc in
        let l' : Leads (follows p code x.pc (at x.pc) s) to e = subst (λ es. Leads es to e) same l in
        let is = state_is to e ((promised x.pc s r).leads to e l') in
        let y = point_along t (at x.pc) x to in
        let next : Follows t (at x.pc) x y = elim (place_of p code x.pc (at x.pc) s to e l') [ inl a ↦ inl (to, (a, refl)) | inr a ↦ inr (past (at x.pc) refl to a) ] in
        (y, (next, ap (λ (z : TypeState). node_along (at x.pc) (node_at t x) to z) (sym is)))

    pub by_turn : (q : ℕ) → back_of (at x.pc) s ≡ Some q → HasPoint (record { pc = q; state = s; mark = x.mark })
    by_turn q back =
        let is = state_is q s (turns x.pc s q r back) in
        (record x { pc = q }, (inr (round (at x.pc) q back), ap (λ (z : TypeState). record { pc = q; state = z; mark = x.mark }) (sym is)))

    next_within : (y : Point) → Follows t (at x.pc) x y → y.pc < length t.states
    next_within y next = omega (arith, (promised y.pc (state_at t y.pc) (reaches (node_at t y) (comes_on y next))).within, h.typing.long)

    -- the point and those that follow it are inside the function
    pub inside : length (routine p f).code ≤ MAX_INSTRUCTIONS → IsInside t (at x.pc) x
    inside short = record {
      short = omega (arith, within, short);
      here = omega (arith, within, h.typing.long);
      ends = omega (arith, within, h.typing.loops.ends_long);
      heads = omega (arith, within, h.typing.loops.heads_long);
      places = λ k d less. (let to = get_or (targets (at x.pc) ++ next_place x.pc (at x.pc)) k d in
          next_within (point_along t (at x.pc) x to) (inl (to, (among_at (targets (at x.pc) ++ next_place x.pc (at x.pc)) k d less, refl))));
      past = λ n end is e. next_within (point_along t (at x.pc) x (end + 1)) (inr (subst (λ (i : Instr). loop_point t x i ≡ Some (point_along t i x (end + 1))) (sym is)
          (ap (option_map (λ (k : ℕ). point_along t (Times n) x (k + 1))) (sym e))));
    }
