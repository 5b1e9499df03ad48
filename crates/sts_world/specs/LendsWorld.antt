-- The state after a `&mut` to a frame was returned and has ended (this project's own).
use Rattle.std.specs.Prelude.{ℕ}
use Rattle.std.specs.Borrow.{Lends, Fml, MutBor}
use Rattle.sts_model.specs.declared.record.Frame.{Frame}
use Rattle.sts_model.specs.World.{World, with_frame}
use Rattle.sts_model.specs.contracts.record.Frame as frame
use Rattle.sts_world.specs.contracts.world.World as world

-- once the borrow r ends, the task of this birth has the last value behind r as its frame, and all
-- else is unchanged
abbrev pub lends_living : MutBor World → ℕ → MutBor Frame → Fml
lends_living w t r = Lends world.the_row frame.the_row w r (with_frame w.now t)
