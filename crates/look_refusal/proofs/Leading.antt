-- The places that instructions lead to, and the sums that they hand on.
use Rattle.std.proofs.Common.{◌≡◌, ℕ, ◌+◌, ◌*◌, ◌<◌, List, [], ◌∷◌, ◌++◌, length, get_or, Bool, true, false, cond, Option, Some, None, unwrap_or, inl, inr, refl, sym, ap, ◌∙◌, subst, arith}
use Rattle.sts_code.specs.Facts.{targets}
use Rattle.sts_code.specs.Program.{instr_at}
use Rattle.sts_rules.specs.Around.{next_place, around}
use Rattle.sts_rules.specs.ControlPaths.{GoesTo, Repeats, EndsTurn, EndsPath, Among}
use Rattle.sts_budget.specs.Ready.{end_in, first_of, head_in}
use Rattle.sts_budget.specs.Sums.{gain}
use Rattle.std.proofs.lemmas.List.{get_or_default}
use Rattle.look_refusal.specs.declared.search.Search.{Search}
use Rattle.sts_budget.specs.Handing.{turns_of}
use Rattle.look_refusal.specs.Search.{IsReady, IsLoop, LeadsOn, paths, flow, ends_turn}
use Rattle.look_refusal.specs.Trail.{handed, looped}
use Rattle.look_refusal.proofs.Instrs.{Kind, kind, goes, opens, turns, ends}

module _ (s : Search) (ready : IsReady s) where
  -- the loop that a place ends
  pub turn_end : (q : ℕ) → ends_turn (instr_at s.code.now q) ≡ true → (p : ℕ) × ((n : ℕ) × (((paths s).shape p ≡ Repeats n) × ((paths s).mate p ≡ q) × (q < length s.code.now) × (get_or s.layout.now.typing.now.loops.heads q None ≡ Some p)))
  turn_end q e = by (kind q (instr_at s.code.now q))
    where
      by : Kind q (instr_at s.code.now q) → (p : ℕ) × ((n : ℕ) × (((paths s).shape p ≡ Repeats n) × ((paths s).mate p ≡ q) × (q < length s.code.now) × (get_or s.layout.now.typing.now.loops.heads q None ≡ Some p)))
      by (goes t p n sh) = let no : true ≡ false = sym e ∙ t in absurd (cc)
      by (opens t p sh) = let no : true ≡ false = sym e ∙ t in absurd (cc)
      by (ends t p a sh) = let no : true ≡ false = sym e ∙ t in absurd (cc)
      by (turns t p n a sh) =
          let g = ready.good.end q sh in
          let l = ready.good.loop g.0 g.1.0 g.1.1.0 in
          let within : q < length s.code.now = omega (arith, g.1.1.1, l.2) in
          let round : around s.code.now q ≡ g.0 ∷ around s.code.now g.0 = ap (around s.code.now) (sym g.1.1.1) ∙ l.5 in
          (g.0, (g.1.0, (g.1.1.0, g.1.1.1, within, ready.heads q within ∙ ap first_of round)))

  pub head_is : (q p : ℕ) → get_or s.layout.now.typing.now.loops.heads q None ≡ Some p → head_in s.layout.now q ≡ p
  head_is q p e = ap (λ o. unwrap_or o 0) e

  -- the loop that opens at a place
  pub loop_at : (h n end many : ℕ) → (paths s).shape h ≡ Repeats n → end ≡ end_in s.layout.now h → many ≡ turns_of (instr_at s.code.now h) → IsLoop s (record { head = h; end = end; turns = many })
  loop_at h n end many e ended counts =
      let l = ready.good.loop h n e in
      let t = ready.known.times h n e in
      let same : many ≡ n = counts ∙ ap turns_of t in
      let mate : (paths s).mate h ≡ end = sym (ready.ends h n t) ∙ sym ended in
      record {
        head = omega (arith, l.1, l.2);
        end = omega (arith, l.2);
        opens = e ∙ ap (λ m. Repeats m) (sym same);
        some = omega (arith, l.0);
        mate = mate;
        ends = ap (paths s).shape (sym mate) ∙ l.3;
      }

  -- the innermost loop around a place
  pub around_head : (pc head : ℕ) → pc < length s.code.now → get_or s.layout.now.typing.now.loops.heads pc None ≡ Some head → (ps : List ℕ) × (around s.code.now pc ≡ head ∷ ps)
  around_head pc head within e = by (around s.code.now pc) refl
    where
      by : (hs : List ℕ) → around s.code.now pc ≡ hs → (ps : List ℕ) × (around s.code.now pc ≡ head ∷ ps)
      by [] is = let no : Some head ≡ None = sym e ∙ ready.heads pc within ∙ ap first_of is in absurd (cc)
      by (x ∷ xs) is = let o : Some head ≡ Some x = sym e ∙ ready.heads pc within ∙ ap first_of is in let same : x ≡ head = cc in (xs, is ∙ ap (λ y. y ∷ xs) same)

  pub around_none : (pc : ℕ) → pc < length s.code.now → get_or s.layout.now.typing.now.loops.heads pc None ≡ None → around s.code.now pc ≡ []
  around_none pc within e = by (around s.code.now pc) refl
    where
      by : (hs : List ℕ) → around s.code.now pc ≡ hs → around s.code.now pc ≡ []
      by [] is = is
      by (x ∷ xs) is = let no : None ≡ Some x = sym e ∙ ready.heads pc within ∙ ap first_of is in absurd (cc)

  -- the head that was looked up at a place, whatever was read past the end
  found_is : (pc : ℕ) (found d o : Option ℕ) → pc < length s.code.now → found ≡ get_or s.layout.now.typing.now.loops.heads pc d → found ≡ o → get_or s.layout.now.typing.now.loops.heads pc None ≡ o
  found_is pc found d o within is told =
      sym (is ∙ get_or_default s.layout.now.typing.now.loops.heads pc d None (omega (arith, ready.heads_long, within))) ∙ told

  pub around_found : (pc head : ℕ) (found d : Option ℕ) → pc < length s.code.now → found ≡ get_or s.layout.now.typing.now.loops.heads pc d → found ≡ Some head → (ps : List ℕ) × (around s.code.now pc ≡ head ∷ ps)
  around_found pc head found d within is told = around_head pc head within (found_is pc found d (Some head) within is told)

  pub around_missing : (pc : ℕ) (found d : Option ℕ) → pc < length s.code.now → found ≡ get_or s.layout.now.typing.now.loops.heads pc d → found ≡ None → around s.code.now pc ≡ []
  around_missing pc found d within is told = around_none pc within (found_is pc found d None within is told)

  -- the way from a place to a place after it
  pub data Way (from to : ℕ) : Type 0 where
    straight : (places : List ℕ) → (paths s).shape from ≡ GoesTo places → Among places to → ends_turn (instr_at s.code.now from) ≡ false → Way from to
    looping : (p n : ℕ) → (paths s).shape p ≡ Repeats n → (paths s).mate p ≡ from → from + 1 ≡ to → ends_turn (instr_at s.code.now from) ≡ true → Way from to

  pub way_of : (from to : ℕ) → LeadsOn s from to → Way from to
  way_of from to (none, among) = by (kind from (instr_at s.code.now from))
    where
      one : (xs : List ℕ) → xs ≡ (from + 1) ∷ [] → Among xs to → from + 1 ≡ to
      one xs e a = elim (subst (λ ys. Among ys to) e a) [ inl same ↦ same | inr out ↦ absurd out ]

      by : Kind from (instr_at s.code.now from) → Way from to
      by (goes t p n sh) = straight _ sh among t
      by (opens t p sh) = absurd (omega (arith, (ready.good.loop from (turns_of (instr_at s.code.now from)) sh).0, none))
      by (ends t p a sh) = absurd (subst (λ ys. Among ys to) a among)
      by (turns t p n a sh) = let e = turn_end from t in looping e.0 e.1.0 e.1.1.0 e.1.1.1 (one _ a among) t

  pub leads_straight : (from to : ℕ) (places : List ℕ) → (paths s).shape from ≡ GoesTo places → Among places to → LeadsOn s from to
  leads_straight from to places e among = by (kind from (instr_at s.code.now from))
    where
      by : Kind from (instr_at s.code.now from) → LeadsOn s from to
      by (goes t p n sh) = let both : GoesTo places ≡ GoesTo (targets (instr_at s.code.now from) ++ next_place from (instr_at s.code.now from)) = sym e ∙ sh in let same : places ≡ targets (instr_at s.code.now from) ++ next_place from (instr_at s.code.now from) = cc in (n, subst (λ ys. Among ys to) same among)
      by (opens t p sh) = let no : GoesTo places ≡ Repeats (turns_of (instr_at s.code.now from)) = sym e ∙ sh in absurd (cc)
      by (ends t p a sh) = let no : GoesTo places ≡ EndsPath = sym e ∙ sh in absurd (cc)
      by (turns t p n a sh) = let no : GoesTo places ≡ EndsTurn = sym e ∙ sh in absurd (cc)

  pub leads_loop : (p n : ℕ) → (paths s).shape p ≡ Repeats n → LeadsOn s ((paths s).mate p) ((paths s).mate p + 1)
  leads_loop p n e = by (kind ((paths s).mate p) (instr_at s.code.now ((paths s).mate p)))
    where
      l : (paths s).shape ((paths s).mate p) ≡ EndsTurn
      l = (ready.good.loop p n e).3

      by : Kind ((paths s).mate p) (instr_at s.code.now ((paths s).mate p)) → LeadsOn s ((paths s).mate p) ((paths s).mate p + 1)
      by (goes t o m sh) = let no : EndsTurn ≡ GoesTo (targets (instr_at s.code.now ((paths s).mate p)) ++ next_place ((paths s).mate p) (instr_at s.code.now ((paths s).mate p))) = sym l ∙ sh in absurd (cc)
      by (opens t o sh) = let no : EndsTurn ≡ Repeats (turns_of (instr_at s.code.now ((paths s).mate p))) = sym l ∙ sh in absurd (cc)
      by (ends t o a sh) = let no : EndsTurn ≡ EndsPath = sym l ∙ sh in absurd (cc)
      by (turns t o m a sh) = (m, subst (λ ys. Among ys ((paths s).mate p + 1)) (sym a) (inl refl))

  pub leads_later : (from to : ℕ) → LeadsOn s from to → (from < to) × (to < length s.code.now)
  leads_later from to h = by (way_of from to h)
    where
      by : Way from to → (from < to) × (to < length s.code.now)
      by (straight places e among t) = let g = ready.good.forward from to places e among in (g.0, g.1)
      by (looping p n e mate next t) = let l = ready.good.loop p n e in (omega arith, omega (arith, l.2))

  -- ---- what is handed on

  pub handed_straight : (best : ℕ → ℕ → ℕ) (q d : ℕ) → ends_turn (instr_at s.code.now q) ≡ false → handed s best q d ≡ best q ((flow s).source q d) + (flow s).added q d
  handed_straight best q d e = ap (λ t. cond t (looped s best (head_in s.layout.now q) q (turns_of (instr_at s.code.now (head_in s.layout.now q))) (best (head_in s.layout.now q) d) d) (best q ((flow s).source q d) + (flow s).added q d)) e

  pub handed_turns : (best : ℕ → ℕ → ℕ) (q d : ℕ) → ends_turn (instr_at s.code.now q) ≡ true → handed s best q d ≡ looped s best (head_in s.layout.now q) q (turns_of (instr_at s.code.now (head_in s.layout.now q))) (best (head_in s.layout.now q) d) d
  handed_turns best q d e = ap (λ t. cond t (looped s best (head_in s.layout.now q) q (turns_of (instr_at s.code.now (head_in s.layout.now q))) (best (head_in s.layout.now q) d) d) (best q ((flow s).source q d) + (flow s).added q d)) e

  pub handed_loop : (best : ℕ → ℕ → ℕ) (p n d : ℕ) → (paths s).shape p ≡ Repeats n → handed s best ((paths s).mate p) d ≡ best p d + (flow s).added p d + n * gain (paths s) (flow s) best p d
  handed_loop best p n d e =
      let l = ready.good.loop p n e in
      let q = (paths s).mate p in
      let next = ap ends_turn (ready.known.next q l.3) in
      let within : q < length s.code.now = omega (arith, l.2) in
      let head : head_in s.layout.now q ≡ p = head_is q p (ready.heads q within ∙ ap first_of l.5) in
      let turns_is : turns_of (instr_at s.code.now p) ≡ n = ap turns_of (ready.known.times p n e) in
      handed_turns best q d next
      ∙ ap (λ h. looped s best h q (turns_of (instr_at s.code.now h)) (best h d) d) head
      ∙ ap (λ m. looped s best p q m (best p d) d) turns_is

  -- it only reads the places up to its own
  pub handed_same : (best other : ℕ → ℕ → ℕ) (k q d : ℕ) → q < k → ((x : ℕ) → x < k → (e : ℕ) → best x e ≡ other x e) → handed s best q d ≡ handed s other q d
  handed_same best other k q d lt same = by (ends_turn (instr_at s.code.now q)) refl
    where
      by : (b : Bool) → ends_turn (instr_at s.code.now q) ≡ b → handed s best q d ≡ handed s other q d
      by false e = handed_straight best q d e ∙ ap (λ x. x + (flow s).added q d) (same q lt ((flow s).source q d)) ∙ sym (handed_straight other q d e)
      by true e =
          let t = turn_end q e in
          let p = t.0 in
          let n = t.1.0 in
          let l = ready.good.loop p n t.1.1.0 in
          let at_head : best p d ≡ other p d = same p (omega (arith, l.1, t.1.1.1)) d in
          let at_end : best ((paths s).mate p) d ≡ other ((paths s).mate p) d = same ((paths s).mate p) (omega (arith, t.1.1.1)) d in
          let mid : best p d + (flow s).added p d + n * gain (paths s) (flow s) best p d ≡ other p d + (flow s).added p d + n * gain (paths s) (flow s) other p d =
          ap (λ x. x + (flow s).added p d + n * gain (paths s) (flow s) best p d) at_head ∙ ap (λ x. other p d + (flow s).added p d + n * (x + (flow s).added ((paths s).mate p) d)) at_end in
          subst (λ x. handed s best x d ≡ handed s other x d) t.1.1.1 (handed_loop best p n d t.1.1.0 ∙ mid ∙ sym (handed_loop other p n d t.1.1.0))
