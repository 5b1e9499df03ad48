-- The invariant of the parts of a store (this project's own).
use Rattle.std.specs.Prelude.{◌≡◌, ℕ, length, None, is_some, slice_index_or}
use Rattle.sts_tree.specs.Reading.{lives_at}
use Rattle.sts_store.specs.Parts.{Parts}
use Rattle.sts_store.specs.Sharing.{AreShared, holders, keepers, homes}

-- there is a frame for each living task, and for no other; bindings are shared as the laws say
pub record IsStore (m : Parts) : Type 0 where
  pub born : length m.frames.slots ≡ length m.tree.tasks
  pub alive : (t : ℕ) →
      is_some (slice_index_or m.frames.slots t None) ≡ lives_at m.tree t
  pub shared : AreShared m.chains (holders m) (keepers m) (homes m)
