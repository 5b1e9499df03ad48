use Rattle.std.proofs.Common.{◌≡◌, ℕ, ◌+◌, ◌<◌, ◌≤◌, inl, inr, true, length, sym, ◌∙◌, subst, arith}
use Rattle.std.proofs.lemmas.Bool.{cases_lt}
use Rattle.look_refusal.specs.Search.{may_end}
use Rattle.look_refusal.specs.declared.search.Search.{Search}
use Rattle.look_refusal.specs.Trail.{full_in}
use Rattle.look_refusal.specs.declared.trail.Trail.{Trail}
use Rattle.look_refusal.specs.Top.{IsTop}
use Rattle.look_refusal.proofs.top.higher.Goals.{else-may_end-via-then-may_end+else-full-top, else-may_end-via-else-may_end}
use Rattle.look_refusal.proofs.top.higher.Goals as goal

-- no sum of one place more is greater
bound : (s : Search) (t : Trail) (pc most high : ℕ) → ((k : ℕ) → k < pc → may_end s k ≡ true → full_in s t k ≤ most) → most ≤ high → (may_end s pc ≡ true → full_in s t pc ≤ high) → (k : ℕ) → k < pc + 1 → may_end s k ≡ true → full_in s t k ≤ high
bound s t pc most high before more here k less ends =
    elim (cases_lt k pc) [
      | inl lt ↦ (let old = before k lt ends in omega (arith, old, more))
      | inr le ↦ (let same : pc ≡ k = omega (arith, less, le) in subst (λ (j : ℕ). may_end s j ≡ true → full_in s t j ≤ high) same here ends)
    ]

-- the top is this place, or stays
risen : (s : Search) (t : Trail) (pc place most full : ℕ) → IsTop s t pc place most → pc < length s.code.now → may_end s pc ≡ true → full ≡ full_in s t pc → most < full → IsTop s t (pc + 1) pc full
risen s t pc place most full top inside ends is more =
    record { none_more = bound s t pc most full top.none_more (omega (arith, more)) (λ e. omega (arith, is)); there = inr (inside, ends, sym is) }

stays : (s : Search) (t : Trail) (pc place most : ℕ) → IsTop s t pc place most → (may_end s pc ≡ true → full_in s t pc ≤ most) → IsTop s t (pc + 1) place most
stays s t pc place most top here = record { none_more = bound s t pc most most top.none_more (omega arith) here; there = top.there }

pub returns-then-full-top : goal.returns-then-full-top
returns-then-full-top c = risen c.args.search.now c.args.trail.now c.args.pc c.args.top.place c.args.top.most c.args.full c.requires.top
    c.requires.in_code (sym c.may_end.ensures ∙ c.if-may_end.true) c.requires.full c.if-full-top.true

pub returns-else-may_end : goal.returns-else-may_end
returns-else-may_end c =
    stays c.args.search.now c.args.trail.now c.args.pc c.args.top.place c.args.top.most c.requires.top
    (elim c.else-may_end.branch [
      | else-may_end-via-then-may_end+else-full-top w ↦ (λ e. omega (arith, w.if-full-top.false, c.requires.full))
      | else-may_end-via-else-may_end w ↦ (λ e. (let not = sym c.may_end.ensures ∙ w.if-may_end.false in absurd (cc)))
    ])
