-- The slots that are emptied by the records are those that are emptied in the view.
use Rattle.std.proofs.Common.{◌≡◌, ℕ, List, [], ◌∷◌, None, refl, sym, ◌∙◌, ap, get_or, cond}
use Rattle.sts_model.specs.Living.{is_in}
use Rattle.sts_model.specs.declared.record.Slot.{Slot}
use Rattle.sts_model.specs.declared.record.Slot.TheVariants.{Empty, Sub}
use Rattle.laws_live.specs.Effect.{is_live_of, live_cleared}
use Rattle.laws_live.specs.Reading.{live_task_at}
use Rattle.sts_store.specs.Closing.{home_in, is_slot_of, slots_cleared}
use Rattle.sts_store.specs.Parts.{Parts, live_of}
use Rattle.sts_store.proofs.Seeing.{home_is}

module _ (m : Parts) (s : ℕ) where
  home_seen : (t : ℕ) → home_in m.tree t ≡ (live_task_at (live_of m) t).scope
  home_seen t = sym (home_is m t (get_or m.tree.tasks t None) refl)

  slot_seen : (x : Slot) → is_slot_of m.tree s x ≡ is_live_of (live_of m) s x
  slot_seen (Sub t) = ap (is_in s) (home_seen t)
  slot_seen _ = refl

  pub cleared_seen : (xs : List Slot) → slots_cleared m.tree s xs ≡ live_cleared (live_of m) s xs
  cleared_seen [] = refl
  cleared_seen (x ∷ xs) =
      ap (λ b. cond b Empty x ∷ slots_cleared m.tree s xs) (slot_seen x)
      ∙ ap (λ l. cond (is_live_of (live_of m) s x) Empty x ∷ l) (cleared_seen xs)
