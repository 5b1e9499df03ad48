-- Edges and turns of a well-typed function, from the typestates that are reached.
use Rattle.std.proofs.Common.{◌≡◌, ℕ, ◌<◌, Some, Ok, sym, ap, ◌∙◌, subst, arith}
use Rattle.sts_code.specs.Program.{Program, routine, instr_at}
use Rattle.sts_rules.specs.Edges.{edges, follows, typing}
use Rattle.sts_rules.specs.Flow.{Reaches}
use Rattle.sts_rules.specs.Refusal.{IsWellTyped, size}
use Rattle.sts_rules.specs.TypeState.{TypeState}
use Rattle.sts_types.proofs.CauseLemmas.{or_cause_ok}
use Rattle.sts_types.proofs.Laws.{laws}

module _ (p : Program) (f : ℕ) (typed : IsWellTyped p f) (pc : ℕ) (s : TypeState) (within : pc < size p f) (reached : Reaches (typing p f) pc s) where
  same : s ≡ (typed pc within).state
  same = (typed pc within).alone.1 s reached

  -- no cause holds there
  pub edges_reached : edges p f pc s ≡ Ok (follows p (routine p f).code pc (instr_at (routine p f).code pc) s)
  edges_reached =
      let fine = ap (edges p f pc) same ∙ (typed pc within).fine in
      fine ∙ ap Ok (sym (or_cause_ok _ _ _ fine).1)

  -- the end of a turn is reached by the typestate in which the next turn begins
  pub turn_reached : (q : ℕ) → (typing p f).back pc s ≡ Some q → Reaches (typing p f) q s
  turn_reached q back =
      let c = typed pc within in
      let back' : (typing p f).back pc c.state ≡ Some q = subst (λ (x : TypeState). (typing p f).back pc x ≡ Some q) same back in
      let le = (laws p f).down pc c.state c.out q c.fine back' in
      let d = typed q (omega arith) in
      subst (Reaches (typing p f) q) (c.same q d.state back' d.alone.0 ∙ sym same) d.alone.0
