-- What a slot of a task holds, if the state says what it holds.
use Rattle.std.proofs.Common.{◌≡◌, ℕ, zero, suc, true, false, Some, refl, List, [], ◌∷◌, map, get_or, not, ap}
use Rattle.std.specs.Prelude.{slice_get}
use Rattle.sts_model.specs.declared.record.Slot.{Slot}
use Rattle.sts_model.specs.declared.record.Slot.TheVariants as slots
use Rattle.sts_model.specs.World.{World}
use Rattle.sts_model.specs.Misuse as misuse
use Rattle.laws_calls.specs.declared.table.Held.{Held}
use Rattle.laws_calls.specs.declared.table.Held.TheVariants as held
use Rattle.laws_calls.specs.Tasks.{at_place}
use Rattle.laws_calls.specs.Covers.{HeldFits}
use Rattle.ends_faults.specs.Safe.{is_empty, is_scope, is_sub}

module _ (w : World) (opened : List ℕ) where
  pub empty_slot : (q : Slot) (y : Held) → HeldFits w opened q y → is_empty y ≡ true → not (misuse.is_empty q) ≡ false
  empty_slot slots.Empty y k e = refl
  empty_slot q held.Empty k e = absurd k
  empty_slot q y k e = cc

  pub scope_slot : (q : Slot) (y : Held) → HeldFits w opened q y → is_scope y ≡ true → not (misuse.is_scope q) ≡ false
  scope_slot (slots.Own s) y k e = refl
  scope_slot (slots.Lent s) y k e = refl
  scope_slot slots.Empty held.Empty k e = cc
  scope_slot slots.Empty y k e = absurd k
  scope_slot (slots.Sub u) (held.Sub place i) k e = cc
  scope_slot (slots.Sub u) y k e = absurd k

  pub sub_slot : (q : Slot) (y : Held) → HeldFits w opened q y → is_sub y ≡ true → not (misuse.is_sub q) ≡ false
  sub_slot (slots.Sub u) y k e = refl
  sub_slot q (held.Sub place i) k e = absurd k
  sub_slot q y k e = cc

  pub own_held : (q : Slot) (place : ℕ) → HeldFits w opened q (held.Own place) → (s : ℕ) × ((q ≡ slots.Own s) × (at_place opened place ≡ Some s))
  own_held (slots.Own s) place k = (s, (refl, k))
  own_held q place k = absurd k

  pub sub_held : (q : Slot) (place i : ℕ) → HeldFits w opened q (held.Sub place i) → (u : ℕ) × ((q ≡ slots.Sub u) × HeldFits w opened (slots.Sub u) (held.Sub place i))
  sub_held (slots.Sub u) place i k = (u, (refl, k))
  sub_held q place i k = absurd k

pub get_map : {X Y : Type 0} (f : X → Y) (xs : List X) (i : ℕ) (x : X) (d : Y) → slice_get xs i ≡ Some x → get_or (map f xs) i d ≡ f x
get_map f [] i x d e = cc
get_map f (y ∷ ys) zero x d e = let same : y ≡ x = cc in ap f same
get_map f (y ∷ ys) (suc i) x d e = get_map f ys i x d e
