-- The scopes that are recorded for tasks agree with the view (this project's own).
use Rattle.std.specs.Prelude.{◌≡◌, ℕ, Bool, true, false, ◌==◌}
use Rattle.sts_code.specs.Program.{Program}
use Rattle.sts_model.specs.declared.event.Stand.{Stand}
use Rattle.sts_model.specs.declared.event.Stand.TheVariants.{Free}
use Rattle.sts_model.specs.Live.{Live}
use Rattle.laws_live.specs.Reading.{lives_in}
use Rattle.laws_live.specs.Waiting.{live_stand_at}
use Rattle.sts_store.specs.Parts.{Unseen, stand_in}

-- the scope that is recorded for each living task is the one that its next instruction says
abbrev pub AreStanding : Program → Live → Unseen → Type 0
AreStanding p v u = (t : ℕ) → lives_in v t ≡ true → stand_in u t ≡ live_stand_at p v t

-- like `AreStanding`, for all tasks except t
abbrev pub AreStandingBut : Program → Live → Unseen → ℕ → Type 0
AreStandingBut p v u t =
    (i : ℕ) → (i == t) ≡ false → lives_in v i ≡ true → stand_in u i ≡ live_stand_at p v i

-- at no scope?
abbrev pub is_free : Stand → Bool
is_free Free = true
is_free _ = false
