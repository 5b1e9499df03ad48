-- Each way by events that can come is a list of allowed events. An allowed event that can't come
-- changes nothing.
use Rattle.std.proofs.Common.{◌≡◌, ℕ, ◌<◌, List, [], ◌∷◌, ◌++◌, fold, refl, ap, ◌∙◌, arith, count_by, Bool, true, false}
use Rattle.std.proofs.Math.Dec.{ltb}
use Rattle.std.proofs.lemmas.Bool.{ltb-true, lt-ltb, and_parts}
use Rattle.laws_words.proofs.BoolLemmas.{other_false}
use Rattle.laws_words.proofs.ListLemmas.{count-cons}
use Rattle.sts_code.specs.Program.{Program}
use Rattle.sts_model.specs.declared.event.Event.{Event}
use Rattle.sts_model.specs.declared.event.Event.TheVariants as event
use Rattle.sts_model.specs.World.{World, State, Running, Faulted, task_at, scope_at}
use Rattle.sts_model.specs.Living.{lives}
use Rattle.sts_model.specs.Waiting.{can_step}
use Rattle.sts_model.specs.Outside.{can_expire, interrupt, expire}
use Rattle.sts_model.specs.Run.{apply, step}
use Rattle.ends_search.specs.Search.{CanAll, IsWay}
use Rattle.ends_plain.specs.declared.config.Config.{Config}
use Rattle.ends_plain.specs.declared.config.Setting.{Setting}
use Rattle.ends_plain.specs.Ends.{IsAllowed, is_interrupt, is_expiry}
use Rattle.ends_plain.specs.Configs.{next, can, can_come, left_after}

-- the state of a search is that of the machine
pub position_after : (g : Setting) (c : Config) (events : List Event) → (fold (next g) c events).position ≡ fold (apply g.program) c.position events
position_after g c [] = refl
position_after g c (e ∷ es) = position_after g (next g c e) es

-- ---- what can come is allowed

can_interrupt : (g : Setting) (left : ℕ) (s : State) (t : ℕ) → can_come g left s (event.Interrupt t) ≡ true → 0 < left
can_interrupt g left (Faulted kind t' f pc) t h = cc
can_interrupt g left (Running w) t h = ltb-true 0 left (and_parts (ltb 0 left) (lives (task_at w t)) h).0

can_expire_only : (g : Setting) (left : ℕ) (s : State) (t : ℕ) → can_come g left s (event.Expire t) ≡ true → g.expiries ≡ true
can_expire_only g left (Faulted kind t' f pc) t h = cc
can_expire_only g left (Running w) t h = (and_parts g.expiries (can_expire (scope_at w t)) h).0

pub allowed : (g : Setting) (c : Config) (events : List Event) → CanAll (next g) (can g) c events → IsAllowed g.expiries c.left events
allowed g c [] h = record { interrupts = omega arith; expiries = λ e. refl }
allowed g c (event.Step t ∷ es) h =
    let i = allowed g (next g c (event.Step t)) es h.1 in
    record { interrupts = omega (arith, i.interrupts, count-cons is_interrupt (event.Step t) es); expiries = λ e. count-cons is_expiry (event.Step t) es ∙ omega (arith, i.expiries e) }
allowed g c (event.Interrupt t ∷ es) h =
    let i = allowed g (next g c (event.Interrupt t)) es h.1 in
    let some : 0 < c.left = can_interrupt g c.left c.position t h.0 in
    record { interrupts = omega (arith, i.interrupts, some, count-cons is_interrupt (event.Interrupt t) es); expiries = λ e. count-cons is_expiry (event.Interrupt t) es ∙ omega (arith, i.expiries e) }
allowed g c (event.Expire s ∷ es) h =
    let i = allowed g (next g c (event.Expire s)) es h.1 in
    let may : g.expiries ≡ true = can_expire_only g c.left c.position s h.0 in
    record { interrupts = omega (arith, i.interrupts, count-cons is_interrupt (event.Expire s) es); expiries = λ e. cc }

-- ---- what is allowed and cannot come changes nothing

idle_step : (p : Program) (w : World) (t : ℕ) → can_step p w t ≡ false → step p w t ≡ Running w
idle_step p w t e = rw e refl

idle_interrupt : (w : World) (t : ℕ) → lives (task_at w t) ≡ false → interrupt w t ≡ w
idle_interrupt w t e = rw e refl

idle_expire : (w : World) (s : ℕ) → can_expire (scope_at w s) ≡ false → expire w s ≡ w
idle_expire w s e = rw e refl

-- one event is allowed: an expiry if these may come, an interrupt while one is left
pub IsFirst : Setting → ℕ → Event → Type 0
IsFirst g left (event.Step t) = Unit {0}
IsFirst g left (event.Interrupt t) = 0 < left
IsFirst g left (event.Expire s) = g.expiries ≡ true

pub idle : (g : Setting) (left : ℕ) (s : State) (e : Event) → IsFirst g left e → can_come g left s e ≡ false → apply g.program s e ≡ s
unfolding IsFirst
idle g left (Faulted kind t f pc) e h i = refl
idle g left (Running w) (event.Step t) h i = idle_step g.program w t i
idle g left (Running w) (event.Interrupt t) h i = ap Running (idle_interrupt w t (other_false (ltb 0 left) (lives (task_at w t)) i (lt-ltb 0 left h)))
idle g left (Running w) (event.Expire s) h i = ap Running (idle_expire w s (other_false g.expiries (can_expire (scope_at w s)) i h))

-- ---- what is allowed after the first event

not_expiries : (g : Setting) → (b : Bool) → g.expiries ≡ b → (b ≡ false → ⊥) → g.expiries ≡ true
not_expiries g true e h = e
not_expiries g false e h = absurd (h refl)

pub first_of_all : (g : Setting) (left : ℕ) (e : Event) (es : List Event) → IsAllowed g.expiries left (e ∷ es) → IsFirst g left e
unfolding IsFirst
first_of_all g left (event.Step t) es h = tt
first_of_all g left (event.Interrupt t) es h = omega (arith, h.interrupts, count-cons is_interrupt (event.Interrupt t) es)
first_of_all g left (event.Expire s) es h = not_expiries g g.expiries refl (λ e. let none = h.expiries e in absurd (omega (arith, none, count-cons is_expiry (event.Expire s) es)))

-- what is left of a count
no_expiry : (e : Event) (es : List Event) → count_by is_expiry (e ∷ es) ≡ 0 → count_by is_expiry es ≡ 0
no_expiry e es h = omega (arith, h, count-cons is_expiry e es)

-- the rest is allowed after an event that came
pub rest_after : (g : Setting) (left : ℕ) (e : Event) (es : List Event) → IsAllowed g.expiries left (e ∷ es) → IsAllowed g.expiries (left_after left e) es
rest_after g left (event.Step t) es h = record { interrupts = omega (arith, h.interrupts, count-cons is_interrupt (event.Step t) es); expiries = λ e. no_expiry (event.Step t) es (h.expiries e) }
rest_after g left (event.Interrupt t) es h = record { interrupts = omega (arith, h.interrupts, count-cons is_interrupt (event.Interrupt t) es); expiries = λ e. no_expiry (event.Interrupt t) es (h.expiries e) }
rest_after g left (event.Expire s) es h = record { interrupts = omega (arith, h.interrupts, count-cons is_interrupt (event.Expire s) es); expiries = λ e. no_expiry (event.Expire s) es (h.expiries e) }

-- and after one that is left out
pub rest_without : (g : Setting) (left : ℕ) (e : Event) (es : List Event) → IsAllowed g.expiries left (e ∷ es) → IsAllowed g.expiries left es
rest_without g left e es h = record { interrupts = omega (arith, h.interrupts, count-cons is_interrupt e es); expiries = λ f. no_expiry e es (h.expiries f) }

-- ---- a way and one event more

can_more : (g : Setting) (c : Config) (es : List Event) (e : Event) → CanAll (next g) (can g) c es → can g (fold (next g) c es) e ≡ true → CanAll (next g) (can g) c (es ++ e ∷ [])
can_more g c [] e h i = (i, tt)
can_more g c (x ∷ es) e h i = (h.0, can_more g (next g c x) es e h.1 i)

fold_more : (g : Setting) (c : Config) (es : List Event) (e : Event) → fold (next g) c (es ++ e ∷ []) ≡ next g (fold (next g) c es) e
fold_more g c [] e = refl
fold_more g c (x ∷ es) e = fold_more g (next g c x) es e

pub way_more : (g : Setting) (c r : Config) (es : List Event) (e : Event) → IsWay (next g) (can g) c es r → can g r e ≡ true → IsWay (next g) (can g) c (es ++ e ∷ []) (next g r e)
way_more g c r es e way i = record {
  can_all = can_more g c es e way.can_all (rw way.leads i);
  leads = fold_more g c es e ∙ ap (λ x. next g x e) way.leads;
}
