-- The number of interrupts and expiries among events.
use Rattle.std.proofs.Common.{◌≡◌, ℕ, ◌+◌, List, [], ◌∷◌, ◌++◌, not, cond, arith}
use Rattle.std.proofs.lemmas.List.Sums.{sum_by-append}
use Rattle.sts_model.specs.declared.event.Event.{Event}
use Rattle.sts_model.specs.declared.event.Event.TheVariants.{Step, Interrupt, Expire}
use Rattle.sts_model.specs.Run.{is_step}
use Rattle.sts_pool.specs.Outside.{IsOutside, outside_entries}

-- those of two lists
pub entries_more : (journal events : List Event) → outside_entries (journal ++ events) ≡ outside_entries journal + outside_entries events
entries_more journal events = sum_by-append (λ x. cond (not (is_step x)) 1 0) journal events

-- one of them counts
pub one_outside : (e : Event) (n : ℕ) → IsOutside e → n + 1 ≡ n + outside_entries (e ∷ [])
one_outside (Step t) n outer = absurd (cc)
one_outside (Interrupt t) n outer = omega arith
one_outside (Expire s) n outer = omega arith
