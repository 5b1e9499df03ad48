-- The place with the greatest sum (this project's own).
use Rattle.std.specs.Prelude.{◌≡◌, ℕ, ◌<◌, ◌≤◌, ◌⊎◌, true, List, length, get_or}
use Rattle.look_refusal.specs.declared.search.Search.{Search}
use Rattle.look_refusal.specs.declared.trail.Trail.{Trail}
use Rattle.look_refusal.specs.Search.{may_end}
use Rattle.look_refusal.specs.Trail.{full_in}

-- the full sums at the first k places
abbrev pub AreFulls : Search → Trail → ℕ → List ℕ → Type 0
AreFulls s t k fulls =
    (length fulls ≡ k) × ((pc : ℕ) → pc < k → get_or fulls pc 0 ≡ full_in s t pc)

-- the greatest full sum at the first k places; for steps only the ends of paths count
pub record IsTop (s : Search) (t : Trail) (k : ℕ) (place most : ℕ) : Type 0 where
  pub none_more : (pc : ℕ) → pc < k → may_end s pc ≡ true → full_in s t pc ≤ most
  pub there : (most ≡ 0)
      ⊎ ((place < length s.code.now) × (may_end s place ≡ true) × (full_in s t place ≡ most))
