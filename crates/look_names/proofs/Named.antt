-- The name at a place of a list of names.
use Rattle.std.proofs.Common.{◌≡◌, ℕ, List, Option, Some, None, refl, ap, sym, ◌∙◌, map}
use Rattle.std.specs.Prelude.{option_map, option_and_then, slice_get}
use Rattle.std.proofs.lemmas.Option.{slice_get-map}

-- what is at a place that may be missing
abbrev joined : {B : Type 0} → Option (Option B) → Option B
joined None = None
joined (Some x) = x

joined_map : {A B : Type 0} (f : A → Option B) (o : Option A) → joined (option_map f o) ≡ option_and_then f o
joined_map f None = refl
joined_map f (Some x) = refl

-- two lists that show the same, at a place
same_at : {A B C : Type 0} (f : A → Option C) (g : B → Option C) (xs : List A) (ys : List B) (k : ℕ) → map f xs ≡ map g ys → option_and_then f (slice_get xs k) ≡ option_and_then g (slice_get ys k)
same_at f g xs ys k same =
    sym (joined_map f (slice_get xs k))
    ∙ ap joined (sym (slice_get-map f xs k) ∙ ap (λ l. slice_get l k) same ∙ slice_get-map g ys k)
    ∙ joined_map g (slice_get ys k)

pub found_at : {A B C : Type 0} (f : A → Option C) (g : B → Option C) (xs : List A) (ys : List B) (k : ℕ) (x : A) → map f xs ≡ map g ys → slice_get xs k ≡ Some x → f x ≡ option_and_then g (slice_get ys k)
found_at f g xs ys k x same at = sym (ap (option_and_then f) at) ∙ same_at f g xs ys k same
