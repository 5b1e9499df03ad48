-- A site, and the place that it is.
use Rattle.std.proofs.Common.{◌≡◌, ℕ, ◌<◌, List, length, subst, sym}
use Rattle.sts_code.specs.Program.{Program, routine}
use Rattle.sts_code.specs.declared.instr.Instr.{Instr}
use Rattle.sts_types.specs.declared.site.Site.{Site}
use Rattle.sts_types.specs.Site.{IsSite, IsSiteOf}

module _ {p : Program} {f : ℕ} {loops : List Instr} {pc : ℕ} {i : Instr} {s : Site} (h : IsSiteOf p f loops pc i s) where
  -- what holds of the place holds of the site, and the other way round
  pub to_site : (P : Program → ℕ → List Instr → ℕ → Instr → Type 0) → P p f loops pc i → P s.program.now s.function s.loops.now s.pc s.instr
  to_site P x =
      let e = subst (λ y. P p f loops pc y) (sym h.instr) x in
      let d = subst (λ y. P p f loops y s.instr) (sym h.pc) e in
      let c = subst (λ y. P p f y s.pc s.instr) (sym h.loops) d in
      let b = subst (λ y. P p y s.loops.now s.pc s.instr) (sym h.function) c in
      subst (λ y. P y s.function s.loops.now s.pc s.instr) (sym h.program) b

  pub of_site : (P : Program → ℕ → List Instr → ℕ → Instr → Type 0) → P s.program.now s.function s.loops.now s.pc s.instr → P p f loops pc i
  of_site P x =
      let b = subst (λ y. P y s.function s.loops.now s.pc s.instr) h.program x in
      let c = subst (λ y. P p y s.loops.now s.pc s.instr) h.function b in
      let d = subst (λ y. P p f y s.pc s.instr) h.loops c in
      let e = subst (λ y. P p f loops y s.instr) h.pc d in
      subst (λ y. P p f loops pc y) h.instr e

  pub is_site : loops ≡ (routine p f).code → pc < length loops → IsSite s
  is_site code inside = record {
    code = to_site (λ p f loops pc i. loops ≡ (routine p f).code) code;
    inside = to_site (λ p f loops pc i. pc < length loops) inside;
    skip = h.skip;
  }
