-- Which tasks of a live view are at a `join` or a `close`, and which can step, if no instruction is
-- misused (this project's own).
use Rattle.std.specs.Prelude.{ℕ, Bool, true, Option, Some, ◌&&◌, ◌||◌, not, if◌then◌else◌}
use Rattle.sts_code.specs.Program.{Program}
use Rattle.sts_code.specs.declared.instr.Instr.{Instr}
use Rattle.sts_code.specs.declared.instr.Instr.TheVariants.{Join, Close}
use Rattle.sts_model.specs.declared.event.Stand.{Stand}
use Rattle.sts_model.specs.declared.event.Stand.TheVariants.{Free, AtJoin, AtClose}
use Rattle.sts_model.specs.declared.record.Slot.{Slot}
use Rattle.sts_model.specs.declared.record.Slot.TheVariants.{Own}
use Rattle.sts_model.specs.World.{instr_at}
use Rattle.sts_model.specs.Misuse.{slot}
use Rattle.sts_model.specs.Waiting.{is_closing}
use Rattle.sts_model.specs.Live.{Live}
use Rattle.laws_live.specs.Reading.{live_scope_at, alive_at, lives_in, live_any_lives}

-- at the `join` of a scope that the slot owns
abbrev pub live_stands_at_join : Slot → Stand
live_stands_at_join (Own s) = AtJoin s
live_stands_at_join _ = Free

-- at the `close` of a scope that the slot owns, after the close began
abbrev pub live_stands_at_close : Live → Slot → Stand
live_stands_at_close v (Own s) = if is_closing (live_scope_at v s).phase then AtClose s else Free
live_stands_at_close v _ = Free

abbrev pub live_stand_at_instr : Live → ℕ → Option Instr → Stand
live_stand_at_instr v t (Some (Join x failed timeout interrupted)) =
    live_stands_at_join (slot (alive_at v t).frame x)
live_stand_at_instr v t (Some (Close x)) = live_stands_at_close v (slot (alive_at v t).frame x)
live_stand_at_instr v t _ = Free

abbrev pub live_stand_at : Program → Live → ℕ → Stand
live_stand_at p v t = live_stand_at_instr v t (instr_at p (alive_at v t).frame)

-- may the task take its next step?
abbrev pub live_can_go : Live → ℕ → Stand → Bool
live_can_go v t Free = true
live_can_go v t (AtJoin s) =
    (live_scope_at v s).expired || (live_scope_at v s).cancelled || not (live_any_lives v s)
    || (alive_at v t).flag
live_can_go v t (AtClose s) = not (live_any_lives v s)

abbrev pub live_can_step : Program → Live → ℕ → Bool
live_can_step p v t = lives_in v t && live_can_go v t (live_stand_at p v t)
