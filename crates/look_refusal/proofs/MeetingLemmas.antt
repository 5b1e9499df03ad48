-- If a function is refused for two ways that meet with different typestates, two such ways are found.
use Rattle.std.proofs.Common.{◌≡◌, ◌≢◌, ℕ, ◌<◌, ◌≤◌, ◌⊎◌, inl, inr, Option, Some, None, Err, refl, sym, ap, ◌∙◌, subst, arith}
use Rattle.std.specs.Prelude.{MatchOption}
use Rattle.std.proofs.lemmas.Bool.{cases_lt}
use Rattle.std.proofs.lemmas.Option.{same_Some}
use Rattle.sts_code.specs.Program.{Program, routine, instr_at}
use Rattle.sts_rules.specs.declared.typing.Cause.{Cause}
use Rattle.sts_rules.specs.declared.typing.Cause.TheVariants.{StatesDiffer, DeadCode}
use Rattle.sts_rules.specs.Edges.{back_of, typing}
use Rattle.sts_rules.specs.Flow.{Reaches, IsAlone, TurnKeeps, IsAccepted, HasCause, dead, two, edge, turn}
use Rattle.sts_rules.specs.Refusal.{IsTypeRefusal}
use Rattle.sts_rules.specs.TypeState.{TypeState}
use Rattle.sts_types.specs.Typing.{Typing, IsTypingTo}
use Rattle.look_refusal.specs.Ways.{IsReached, Meets}
use Rattle.look_refusal.specs.declared.ways.Meeting.{Meeting}
use Rattle.look_refusal.proofs.ForwardLemmas.{never_differs}

-- a place with another cause than dead code is reached
pub reached_by : (p : Program) (f pc : ℕ) (c : Cause) → c ≢ DeadCode → HasCause (typing p f) pc c → IsReached p f pc
reached_by p f pc c ne (dead d) = absurd (ne refl)
reached_by p f pc c ne (two t) = (t.0, t.1.1.0)
reached_by p f pc c ne (edge s alone fails) = (s, alone.0)
reached_by p f pc c ne (turn s out alone is differs) = (s, alone.0)

-- a typing of more places is one of fewer
pub typing_before : (p : Program) (f k n : ℕ) (t : Typing) → k ≤ n → IsTypingTo p f n t → IsTypingTo p f k t
typing_before p f k n t le h = record {
  clear = λ pc lt. h.clear pc (omega arith);
  long = h.long;
  alone = λ pc lt. h.alone pc (omega arith);
  loops = h.loops;
}

module _ (p : Program) (f pc : ℕ) (last : TypeState) (alone : IsAlone (typing p f) pc last) where
  -- the turn ends as it began, if one way to its beginning has this typestate
  pub keeps_turn : IsAccepted (typing p f) pc → (at : ℕ) (one : TypeState) → back_of (instr_at (routine p f).code pc) last ≡ Some at → at ≤ pc → Reaches (typing p f) at one → one ≡ last → TurnKeeps (typing p f) pc last
  keeps_turn clear at one is le there same q other back r = by (cases_lt at pc)
    where
      reached : Reaches (typing p f) at other
      reached = let here : q ≡ at = same_Some q at (sym back ∙ is) in subst (λ (k : ℕ). Reaches (typing p f) k other) here r

      by : (at < pc) ⊎ (pc ≤ at) → other ≡ last
      by (inl lt) = let only = (clear at lt).alone in only.1 other reached ∙ sym (only.1 one there) ∙ same
      by (inr ge) = let here : at ≡ pc = omega arith in alone.1 other (subst (λ (k : ℕ). Reaches (typing p f) k other) here reached)

  no_cause : TurnKeeps (typing p f) pc last → (c : Cause) → c ≡ StatesDiffer → HasCause (typing p f) pc c → ⊥
  no_cause keeps c e (dead d) = let no : DeadCode ≡ StatesDiffer = e in absurd (cc)
  no_cause keeps c e (two h) = h.1.1.2 (alone.1 h.0 h.1.1.0 ∙ sym (alone.1 h.1.0 h.1.1.1))
  no_cause keeps c e (edge s only g) = never_differs p f pc s (g ∙ ap (λ (x : Cause). Err x) e)
  no_cause keeps c e (turn s out only g t) =
      let same = alone.1 s only.0 in
      let back : back_of (instr_at (routine p f).code pc) last ≡ Some t.0 = subst (λ y. back_of (instr_at (routine p f).code pc) y ≡ Some t.0) same t.1.1.0 in
      t.1.1.2 (keeps t.0 t.1.0 back t.1.1.1 ∙ sym same)

  -- if one typestate alone reaches the place, and each turn ends as it began, the function isn't
  -- refused there for ways that differ
  pub finds : (r : Option Meeting) → MatchOption r (TurnKeeps (typing p f) pc last) (Meets p f pc) → MatchOption r (IsTypeRefusal p f pc StatesDiffer → ⊥) (Meets p f pc)
  finds None keeps = λ refusal. no_cause keeps StatesDiffer refl refusal.1
  finds (Some m) meets = meets
