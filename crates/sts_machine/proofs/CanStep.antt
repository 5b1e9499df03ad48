-- A store that has recorded at which scopes its tasks are knows which of them can step.
use Rattle.std.proofs.Common.{◌≡◌, ℕ, Bool, true, false, Option, Some, None, refl, sym, ◌∙◌, ap, ◌&&◌}
use Rattle.sts_code.specs.Program.{Program}
use Rattle.laws_live.specs.Reading.{lives_in}
use Rattle.laws_live.specs.Waiting.{live_can_go, live_can_step, live_stand_at}
use Rattle.sts_store.specs.Parts.{Parts, can_go_on, live_of, stand_in, unseen_of}
use Rattle.sts_machine.specs.Standing.{AreStanding}
use Rattle.sts_machine.specs.Turned.{Picks}

pub can_same : (p : Program) (m : Parts) → AreStanding p (live_of m) (unseen_of m) → (t : ℕ) → can_go_on m t ≡ live_can_step p (live_of m) t
can_same p m standing t = by (lives_in (live_of m) t) (standing t)
  where
    by : (b : Bool) → (b ≡ true → stand_in (unseen_of m) t ≡ live_stand_at p (live_of m) t) → (b && live_can_go (live_of m) t (stand_in (unseen_of m) t)) ≡ (b && live_can_go (live_of m) t (live_stand_at p (live_of m) t))
    by true stands = ap (live_can_go (live_of m) t) (stands refl)
    by false stands = refl

-- an answer picked by one test, for another that is the same
pub picks : (test other : ℕ → Bool) (o : Option ℕ) → ((t : ℕ) → other t ≡ test t) → ((t : ℕ) → o ≡ Some t → other t ≡ true) → ((t : ℕ) → o ≡ None → other t ≡ false) → Picks test o
picks test other (Some t) same some none = sym (same t) ∙ some t refl
picks test other None same some none = λ t. sym (same t) ∙ none t refl

pub picks_alike : (test other : ℕ → Bool) (o : Option ℕ) → ((t : ℕ) → other t ≡ test t) → Picks other o → Picks test o
picks_alike test other (Some t) same h = sym (same t) ∙ h
picks_alike test other None same h = λ t. sym (same t) ∙ h t

-- if nothing was picked, no test is passed
pub none_picked : (test : ℕ → Bool) (o : Option ℕ) → Picks test o → ((t : ℕ) → o ≡ Some t → ⊥) → (t : ℕ) → test t ≡ false
none_picked test (Some t) h never = absurd (never t refl)
none_picked test None h never = h
