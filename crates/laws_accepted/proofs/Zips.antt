-- Pairs of the entries of frames and of typestates, and pairs of slots and their kinds.
use Rattle.std.proofs.Common.{◌≡◌, ℕ, zero, suc, List, [], ◌∷◌, length, map, drop, get_or, set, refl, ap, arith, Bool, false}
use Rattle.std.specs.List.{list_any}
use Rattle.sts_model.specs.declared.record.Entry.{Entry}
use Rattle.sts_rules.specs.declared.typing.TypedEntry.{TypedEntry}
use Rattle.std.proofs.lemmas.Bool.{or_parts}
use Rattle.laws_accepted.specs.Typed.{Zips}

pub zips-length : (R : Entry → TypedEntry → List TypedEntry → Type 0) (es : List Entry) (rs : List TypedEntry) → Zips R es rs → length es ≡ length rs
zips-length R [] [] z = refl
zips-length R (e ∷ es) (r ∷ rs) z = ap suc (zips-length R es rs z.1)
zips-length R [] (r ∷ rs) z = absurd z
zips-length R (e ∷ es) [] z = absurd z

pub zips-map : (R Q : Entry → TypedEntry → List TypedEntry → Type 0) (es : List Entry) (rs : List TypedEntry) → ((e : Entry) (r : TypedEntry) (behind : List TypedEntry) → R e r behind → Q e r behind) → Zips R es rs → Zips Q es rs
zips-map R Q [] [] h z = tt
zips-map R Q (e ∷ es) (r ∷ rs) h z = (h e r rs z.0, zips-map R Q es rs h z.1)
zips-map R Q [] (r ∷ rs) h z = z
zips-map R Q (e ∷ es) [] h z = z

-- no entry of the typestate passes a test
pub zips-without : (test : TypedEntry → Bool) (R Q : Entry → TypedEntry → List TypedEntry → Type 0) (es : List Entry) (rs : List TypedEntry) → list_any test rs ≡ false → ((e : Entry) (r : TypedEntry) (behind : List TypedEntry) → test r ≡ false → R e r behind → Q e r behind) → Zips R es rs → Zips Q es rs
zips-without test R Q [] [] none h z = tt
zips-without test R Q (e ∷ es) (r ∷ rs) none h z = let n = or_parts (test r) _ none in (h e r rs n.0 z.0, zips-without test R Q es rs n.1 h z.1)
zips-without test R Q [] (r ∷ rs) none h z = absurd z
zips-without test R Q (e ∷ es) [] none h z = absurd z

-- each entry of the typestate is changed
pub zips-mapped : (g : TypedEntry → TypedEntry) (R Q : Entry → TypedEntry → List TypedEntry → Type 0) (es : List Entry) (rs : List TypedEntry) → ((e : Entry) (r : TypedEntry) (behind : List TypedEntry) → R e r behind → Q e (g r) (map g behind)) → Zips R es rs → Zips Q es (map g rs)
zips-mapped g R Q [] [] h z = tt
zips-mapped g R Q (e ∷ es) (r ∷ rs) h z = (h e r rs z.0, zips-mapped g R Q es rs h z.1)
zips-mapped g R Q [] (r ∷ rs) h z = absurd z
zips-mapped g R Q (e ∷ es) [] h z = absurd z

pub zips-drop : (R : Entry → TypedEntry → List TypedEntry → Type 0) (es : List Entry) (rs : List TypedEntry) → Zips R es rs → Zips R (drop 1 es) (drop 1 rs)
zips-drop R [] [] z = tt
zips-drop R (e ∷ es) (r ∷ rs) z = z.1
zips-drop R [] (r ∷ rs) z = absurd z
zips-drop R (e ∷ es) [] z = absurd z

-- ---- two lists by index

-- a relation of the elements at each place holds after a write to both lists
pub both-set : {X Y : Type 0} (P : X → Y → Type 0) (xs : List X) (ys : List Y) (h i : ℕ) (a d : X) (b e : Y) → length xs ≡ length ys → P a b → ((j : ℕ) → P (get_or xs j d) (get_or ys j e)) → P (get_or (set xs h a) i d) (get_or (set ys h b) i e)
both-set P [] [] h i a d b e same new old = old i
both-set P (x ∷ xs) (y ∷ ys) zero zero a d b e same new old = new
both-set P (x ∷ xs) (y ∷ ys) zero (suc i) a d b e same new old = old (suc i)
both-set P (x ∷ xs) (y ∷ ys) (suc h) zero a d b e same new old = old zero
both-set P (x ∷ xs) (y ∷ ys) (suc h) (suc i) a d b e same new old = both-set P xs ys h i a d b e (omega (arith, same)) new (λ j. old (suc j))
both-set P [] (y ∷ ys) h i a d b e same new old = absurd (omega (arith, same))
both-set P (x ∷ xs) [] h i a d b e same new old = absurd (omega (arith, same))
