-- A place of a function that is being typed, and its edges after the first (this project's own).
use Rattle.std.specs.Prelude.{◌≡◌, ℕ, ◌<◌, List, [], ◌∷◌, ◌++◌, length, Option, option_to_list}
use Rattle.std.specs.List.{All}
use Rattle.sts_code.specs.Program.{Program, routine}
use Rattle.sts_code.specs.declared.instr.Instr.{Instr}
use Rattle.sts_rules.specs.declared.typing.Known.TheVariants as known
use Rattle.sts_rules.specs.declared.typing.TypedPhase.TheVariants.{Late, Attempted, Joined}
use Rattle.sts_rules.specs.TypeState.{TypeState}
use Rattle.sts_rules.specs.Around.{skipped_to}
use Rattle.sts_rules.specs.Edges.{follows, to_optional, raised, with_phase, with_known}
use Rattle.sts_types.specs.Arrivals.{Arrive, Arrived}
use Rattle.sts_types.specs.Room.{HasRoom}
use Rattle.sts_types.specs.declared.arrival.Arrival.{Arrival}
use Rattle.sts_types.specs.declared.site.Site.{Site}

-- the site is a place of the function, and its parts are of that place
pub record IsSite (s : Site) : Type 0 where
  pub code : s.loops.now ≡ (routine s.program.now s.function).code
  pub inside : s.pc < length s.loops.now
  pub skip : option_to_list s.skip ≡ skipped_to s.loops.now s.pc s.instr

-- the site is this place of this function
pub record IsSiteOf (p : Program) (f : ℕ) (code : List Instr) (k : ℕ) (i : Instr) (s : Site)
    : Type 0 where
  pub program : s.program.now ≡ p
  pub function : s.function ≡ f
  pub loops : s.loops.now ≡ code
  pub pc : s.pc ≡ k
  pub instr : s.instr ≡ i
  pub skip : option_to_list s.skip ≡ skipped_to s.loops.now s.pc s.instr

-- the edges of the instruction there, if no cause holds
abbrev pub follows_at : Site → TypeState → List (ℕ × TypeState)
follows_at s state = follows s.program.now s.loops.now s.pc s.instr state

-- there is room for what the instruction adds
abbrev pub HasRoomAt : Site → TypeState → Type 0
HasRoomAt s state = HasRoom s.program.now s.instr state

-- its edges lead to places of the table
abbrev pub LeadInside : Site → Arrived → Type 0
LeadInside s a = All (λ e. e.0 < length a.table) (follows_at s a.state)

-- the typestates after the instruction have arrived at their places
abbrev pub Followed : Site → Arrived → List (Arrival TypeState) → Type 0
Followed s a after = Arrive a.table (follows_at s a.state) after

-- the edges of `join` after that of ok
abbrev pub outcomes : ℕ → Option ℕ → Option ℕ → ℕ → TypeState → List (ℕ × TypeState)
outcomes x failed timeout interrupted s =
    to_optional failed (raised 1 (with_phase x Joined s))
    ++ to_optional timeout (with_phase x Late s)
    ++ (interrupted, with_phase x Attempted s) ∷ []

-- the edges of `case` after that of a subtask in neither state
abbrev pub states : ℕ → ℕ → ℕ → TypeState → List (ℕ × TypeState)
states h success failed s =
    (success, with_known h known.Success s) ∷ (failed, with_known h known.Failed s) ∷ []
