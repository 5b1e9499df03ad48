use Rattle.std.proofs.Common.{◌≡◌, ℕ, Bool, true, false, cond, List, [], ◌∷◌, ◌++◌, refl, sym, ◌∙◌, ap}
use Rattle.std.specs.Prelude.{Option, Some, None, option_map}
use Rattle.std.specs.Option.{option_or}
use Rattle.std.specs.List.{find}
use Rattle.std.specs.Str.{bytes_eq}
use Rattle.std.proofs.lemmas.Slice.Eq.{bytes_eq-Decides}
use Rattle.sts_asm.specs.Marks.{Mark, marked}

find_if : (b : Bool) (m : Mark) (r : Option Mark) → option_map (λ (k : Mark). k.at) (cond b (Some m) r) ≡ cond b (Some m.at) (option_map (λ (k : Mark). k.at) r)
find_if true m r = refl
find_if false m r = refl

pub marked_cons : (m : Mark) (ms : List Mark) (q : List ℕ) → marked (m ∷ ms) q ≡ cond (bytes_eq m.name q) (Some m.at) (marked ms q)
marked_cons m ms q = find_if (bytes_eq m.name q) m (find (λ (k : Mark). bytes_eq k.name q) ms)

later_if : (b : Bool) (x y : ℕ) (r s : Option ℕ) → (r ≡ Some y → s ≡ Some y) → cond b (Some x) r ≡ Some y → cond b (Some x) s ≡ Some y
later_if true x y r s h e = e
later_if false x y r s h e = h e

-- what a name means stays, if more names are added
pub marked_later : (ms more : List Mark) (q : List ℕ) (y : ℕ) → marked ms q ≡ Some y → marked (ms ++ more) q ≡ Some y
marked_later [] more q y e = absurd (cc)
marked_later (m ∷ ms) more q y e =
    marked_cons m (ms ++ more) q
    ∙ later_if (bytes_eq m.name q) m.at y (marked ms q) (marked (ms ++ more) q) (marked_later ms more q y) (sym (marked_cons m ms q) ∙ e)

or_if : (b : Bool) (x : ℕ) (r s t : Option ℕ) → t ≡ option_or r s → cond b (Some x) t ≡ option_or (cond b (Some x) r) s
or_if true x r s t e = refl
or_if false x r s t e = e

-- a name that is added at the end counts if no earlier one does
pub marked_append : (ms : List Mark) (new : Mark) (q : List ℕ) → marked (ms ++ new ∷ []) q ≡ option_or (marked ms q) (cond (bytes_eq new.name q) (Some new.at) None)
marked_append [] new q = marked_cons new [] q
marked_append (m ∷ ms) new q =
    marked_cons m (ms ++ new ∷ []) q
    ∙ or_if (bytes_eq m.name q) m.at (marked ms q) (cond (bytes_eq new.name q) (Some new.at) None) (marked (ms ++ new ∷ []) q) (marked_append ms new q)
    ∙ ap (λ (r : Option ℕ). option_or r (cond (bytes_eq new.name q) (Some new.at) None)) (sym (marked_cons m ms q))

pushed : (b : Bool) (old : Option ℕ) (at : ℕ) → (b ≡ true → old ≡ None) → option_or old (cond b (Some at) None) ≡ cond b (Some at) old
pushed true old at h = rw (h refl) refl
pushed false (Some x) at h = refl
pushed false None at h = refl

kept : (b : Bool) (old : Option ℕ) (at : ℕ) → (b ≡ true → old ≡ None → ⊥) → option_or old (cond b (Some at) None) ≡ old
kept b (Some x) at h = refl
kept true None at h = absurd (h refl refl)
kept false None at h = refl

-- a new name is added to what was marked
pub marked_push : (ms : List Mark) (new : Mark) (q : List ℕ) → marked ms new.name ≡ None → marked (ms ++ new ∷ []) q ≡ cond (bytes_eq new.name q) (Some new.at) (marked ms q)
marked_push ms new q h = marked_append ms new q ∙ pushed (bytes_eq new.name q) (marked ms q) new.at (λ (e : bytes_eq new.name q ≡ true). ap (marked ms) (sym ((bytes_eq-Decides new.name q).0 e)) ∙ h)

-- a name that has a mark already keeps its first meaning
pub marked_again : (ms : List Mark) (new : Mark) (q : List ℕ) → (marked ms new.name ≡ None → ⊥) → marked (ms ++ new ∷ []) q ≡ marked ms q
marked_again ms new q h = marked_append ms new q ∙ kept (bytes_eq new.name q) (marked ms q) new.at (λ (e : bytes_eq new.name q ≡ true) (none : marked ms q ≡ None). h (ap (marked ms) ((bytes_eq-Decides new.name q).0 e) ∙ none))
