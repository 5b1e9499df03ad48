use Rattle.std.proofs.Common.{◌≡◌, ◌≢◌, ◌++◌, ℕ, zero, suc, List, [], ◌∷◌, Bool, true, false, Option, Some, None, refl, sym, ◌∙◌, ap, cond, nat_eq, slice_set}
use Rattle.std.proofs.Common.{arith, length, ◌<◌}
use Rattle.std.specs.Prelude.{Result, Ok, Err, OnOk, OnErr}
use Rattle.std.specs.Borrow.{Bor}
use Rattle.std.specs.List.{slice_get}
use Rattle.std.specs.BTreeMap.{BTreeMap}
use Rattle.std.specs.Str.{bytes_eq}
use Rattle.std.proofs.lemmas.List.{length-append}
use Rattle.std.proofs.lemmas.Bool.Decides.{nat_tests}
use Rattle.std.proofs.lemmas.Slice.Eq.{bytes_eq-Decides}
use Rattle.sts_code.proofs.ListLemmas.{got_last}
use Rattle.sts_asm.specs.Buckets.{bucket_of, first_of, other_of, told_by, told, found_in, AreFound}
use Rattle.sts_asm.specs.Marks.{Mark, marked}
use Rattle.sts_asm.proofs.MarkLemmas.{marked_push, marked_again}

-- ---- buckets

first_here : (firsts : List (Option ℕ)) (i : ℕ) (f : Option ℕ) → i < length firsts → first_of (slice_set firsts i f) i ≡ f
first_here [] i f h = absurd (omega arith)
first_here (x ∷ xs) zero f h = refl
first_here (x ∷ xs) (suc i) f h = first_here xs i f (omega arith)

first_there : (firsts : List (Option ℕ)) (i j : ℕ) (f : Option ℕ) → i ≢ j → first_of (slice_set firsts i f) j ≡ first_of firsts j
first_there [] i j f h = refl
first_there (x ∷ xs) zero zero f h = absurd (h refl)
first_there (x ∷ xs) zero (suc j) f h = refl
first_there (x ∷ xs) (suc i) zero f h = refl
first_there (x ∷ xs) (suc i) (suc j) f h = first_there xs i j f (λ e. h (ap suc e))

-- ---- lists of names

got_before : (ms : List Mark) (new : Mark) (i : ℕ) → i < length ms → slice_get (ms ++ new ∷ []) i ≡ slice_get ms i
got_before [] new i h = absurd (omega arith)
got_before (m ∷ ms) new zero h = refl
got_before (m ∷ ms) new (suc i) h = got_before ms new i (omega arith)

told_before : (ms : List Mark) (new : Mark) (others : BTreeMap (Bor (List ℕ)) ℕ) (first : Option ℕ) (q : List ℕ) → ((place : ℕ) → first ≡ Some place → place < length ms) → told (ms ++ new ∷ []) others first q ≡ told ms others first q
told_before ms new others None q h = refl
told_before ms new others (Some place) q h = ap (λ (m : Option Mark). told_by m others q) (got_before ms new place (h place refl))

more_room : (ms : List Mark) (new : Mark) (i : ℕ) → i < length ms → i < length (ms ++ new ∷ [])
more_room ms new i h = omega (arith, length-append {A = Mark})

-- ---- names that are other ones

other_name : (name q : List ℕ) → bucket_of name ≢ bucket_of q → bytes_eq name q ≡ false
other_name name q h = by (bytes_eq name q) refl
  where
    by : (t : Bool) → bytes_eq name q ≡ t → t ≡ false
    by true e = absurd (h (ap bucket_of ((bytes_eq-Decides name q).0 e)))
    by false e = refl

apart_name : (firsts : List (Option ℕ)) (name q : List ℕ) → (first_of firsts (bucket_of name) ≡ None → ⊥) → first_of firsts (bucket_of q) ≡ None → bytes_eq name q ≡ false
apart_name firsts name q h none = by (bytes_eq name q) refl
  where
    by : (t : Bool) → bytes_eq name q ≡ t → t ≡ false
    by true e = absurd (h (ap (λ (n : List ℕ). first_of firsts (bucket_of n)) ((bytes_eq-Decides name q).0 e) ∙ none))
    by false e = refl

marked_other : (ms : List Mark) (new : Mark) (q : List ℕ) → marked ms new.name ≡ None → bytes_eq new.name q ≡ false → marked (ms ++ new ∷ []) q ≡ marked ms q
marked_other ms new q free e = marked_push ms new q free ∙ ap (λ (b : Bool). cond b (Some new.at) (marked ms q)) e

-- ---- what is found

unmarked : (ms : List Mark) (firsts : List (Option ℕ)) (others : BTreeMap (Bor (List ℕ)) ℕ) (q : List ℕ) → AreFound ms firsts others → first_of firsts (bucket_of q) ≡ None → marked ms q ≡ None
unmarked ms firsts others q h none = sym (h.found q) ∙ ap (λ (f : Option ℕ). told ms others f q) none

-- further buckets without names
pub found_filled : (ms : List Mark) (old new : List (Option ℕ)) (others : BTreeMap (Bor (List ℕ)) ℕ) → AreFound ms old others → ((i : ℕ) → first_of new i ≡ first_of old i) → AreFound ms new others
found_filled ms old new others h same = record {
  found = λ q. ap (λ (f : Option ℕ). told ms others f q) (same (bucket_of q)) ∙ h.found q;
  within = λ i place e. h.within i place (sym (same i) ∙ e);
  apart = λ q e. h.apart q (sym (same (bucket_of q)) ∙ e);
}

-- a name becomes the first of its bucket
pub found_first : (ms : List Mark) (firsts : List (Option ℕ)) (others : BTreeMap (Bor (List ℕ)) ℕ) (new : Mark) (i n : ℕ) → AreFound ms firsts others → i ≡ bucket_of new.name → i < length firsts → first_of firsts i ≡ None → n ≡ length ms → AreFound (ms ++ new ∷ []) (slice_set firsts i (Some n)) others
found_first ms firsts others new i n h is small none last = record {
  found = λ q. by q (nat_eq i (bucket_of q)) refl;
  within = λ j place e. inside j place e (nat_eq i j) refl;
  apart = λ q e. alone q e (nat_eq i (bucket_of q)) refl;
}
  where
    next : List (Option ℕ)
    next = slice_set firsts i (Some n)

    free : marked ms new.name ≡ None
    free = unmarked ms firsts others new.name h (ap (first_of firsts) (sym is) ∙ none)

    place_of : slice_get (ms ++ new ∷ []) n ≡ Some new
    place_of = ap (slice_get (ms ++ new ∷ [])) last ∙ got_last ms new

    by : (q : List ℕ) (t : Bool) → nat_eq i (bucket_of q) ≡ t → found_in (ms ++ new ∷ []) (slice_set firsts i (Some n)) others q ≡ marked (ms ++ new ∷ []) q
    by q true e =
        let s : bucket_of q ≡ i = grind (arith, nat_tests) in
        let empty : first_of firsts (bucket_of q) ≡ None = ap (first_of firsts) s ∙ none in
        let here : first_of (slice_set firsts i (Some n)) (bucket_of q) ≡ Some n = ap (first_of (slice_set firsts i (Some n))) s ∙ first_here firsts i (Some n) small in
        ap (λ (f : Option ℕ). told (ms ++ new ∷ []) others f q) here
        ∙ ap (λ (m : Option Mark). told_by m others q) place_of
        ∙ ap (λ (r : Option ℕ). cond (bytes_eq new.name q) (Some new.at) r) (h.apart q empty ∙ sym (unmarked ms firsts others q h empty))
        ∙ sym (marked_push ms new q free)
    by q false e =
        let s : i ≢ bucket_of q = grind (arith, nat_tests) in
        let other : bucket_of new.name ≢ bucket_of q = λ t. s (is ∙ t) in
        ap (λ (f : Option ℕ). told (ms ++ new ∷ []) others f q) (first_there firsts i (bucket_of q) (Some n) s)
        ∙ told_before ms new others (first_of firsts (bucket_of q)) q (h.within (bucket_of q))
        ∙ h.found q
        ∙ sym (marked_other ms new q free (other_name new.name q other))

    inside : (j place : ℕ) → first_of (slice_set firsts i (Some n)) j ≡ Some place → (t : Bool) → nat_eq i j ≡ t → place < length (ms ++ new ∷ [])
    inside j place e true t =
        let s : j ≡ i = grind (arith, nat_tests) in
        let same : Some n ≡ Some place = sym (ap (first_of (slice_set firsts i (Some n))) s ∙ first_here firsts i (Some n) small) ∙ e in
        let k : n ≡ place = cc in
        omega (arith, length-append {A = Mark})
    inside j place e false t =
        let s : i ≢ j = grind (arith, nat_tests) in
        more_room ms new place (h.within j place (sym (first_there firsts i j (Some n) s) ∙ e))

    alone : (q : List ℕ) → first_of (slice_set firsts i (Some n)) (bucket_of q) ≡ None → (t : Bool) → nat_eq i (bucket_of q) ≡ t → other_of others q ≡ None
    alone q e true t =
        let s : bucket_of q ≡ i = grind (arith, nat_tests) in
        let same : Some n ≡ None = sym (ap (first_of (slice_set firsts i (Some n))) s ∙ first_here firsts i (Some n) small) ∙ e in
        cc
    alone q e false t =
        let s : i ≢ bucket_of q = grind (arith, nat_tests) in
        h.apart q (sym (first_there firsts i (bucket_of q) (Some n) s) ∙ e)

-- a name was made the first of its bucket, or nothing was changed
pub found_begun : {X E : Type 0} (r : Result X E) (ms ns : List Mark) (firsts next : List (Option ℕ)) (others : BTreeMap (Bor (List ℕ)) ℕ) (new : Mark) (i : ℕ) → AreFound ms firsts others → i ≡ bucket_of new.name → i < length firsts → first_of firsts i ≡ None → OnOk r (ns ≡ ms ++ new ∷ []) → OnOk r (next ≡ slice_set firsts i (Some (length ms))) → OnErr r (ns ≡ ms) → OnErr r (next ≡ firsts) → AreFound ns next others
found_begun (Ok x) ms ns firsts next others new i h is small none put set back same = rw (put, set) (found_first ms firsts others new i (length ms) h is small none refl)
found_begun (Err e) ms ns firsts next others new i h is small none put set back same = rw (back, same) h

told_more : (old more : BTreeMap (Bor (List ℕ)) ℕ) (new : Mark) (m : Option Mark) (q : List ℕ) → other_of more q ≡ cond (bytes_eq new.name q) (Some new.at) (other_of old q) → (bytes_eq new.name q ≡ true → told_by m old q ≡ None) → told_by m more q ≡ cond (bytes_eq new.name q) (Some new.at) (told_by m old q)
told_more old more new None q put h = put
told_more old more new (Some m) q put h = by (bytes_eq m.name q) (bytes_eq new.name q) refl h put
  where
    by : (t s : Bool) → bytes_eq new.name q ≡ s → (s ≡ true → cond t (Some m.at) (other_of old q) ≡ None) → other_of more q ≡ cond s (Some new.at) (other_of old q) → cond t (Some m.at) (other_of more q) ≡ cond s (Some new.at) (cond t (Some m.at) (other_of old q))
    by true true e free put = let no : Some m.at ≡ None = free refl in cc
    by true false e free put = refl
    by false s e free put = put

-- a name is added to the map of the other names
pub found_other : (ms : List Mark) (firsts : List (Option ℕ)) (old more : BTreeMap (Bor (List ℕ)) ℕ) (new : Mark) → AreFound ms firsts old → (first_of firsts (bucket_of new.name) ≡ None → ⊥) → marked ms new.name ≡ None → ((q : List ℕ) → other_of more q ≡ cond (bytes_eq new.name q) (Some new.at) (other_of old q)) → AreFound (ms ++ new ∷ []) firsts more
found_other ms firsts old more new h taken free put = record {
  found = λ q. by q (first_of firsts (bucket_of q)) refl;
  within = λ i place e. more_room ms new place (h.within i place e);
  apart = λ q e. put q ∙ ap (λ (b : Bool). cond b (Some new.at) (other_of old q)) (apart_name firsts new.name q taken e) ∙ h.apart q e;
}
  where
    by : (q : List ℕ) (f : Option ℕ) → first_of firsts (bucket_of q) ≡ f → told (ms ++ new ∷ []) more f q ≡ marked (ms ++ new ∷ []) q
    by q None e =
        sym (marked_other ms new q free (apart_name firsts new.name q taken e) ∙ unmarked ms firsts old q h e)
    by q (Some place) e =
        let said : told_by (slice_get ms place) old q ≡ marked ms q = sym (ap (λ (f : Option ℕ). told ms old f q) e) ∙ h.found q in
        ap (λ (m : Option Mark). told_by m more q) (got_before ms new place (h.within (bucket_of q) place e))
        ∙ told_more old more new (slice_get ms place) q (put q) (λ (b : bytes_eq new.name q ≡ true). said ∙ sym (ap (marked ms) ((bytes_eq-Decides new.name q).0 b)) ∙ free)
        ∙ ap (λ (r : Option ℕ). cond (bytes_eq new.name q) (Some new.at) r) said
        ∙ sym (marked_push ms new q free)

-- a name that has a mark already is added to the list alone
pub found_again : (ms : List Mark) (firsts : List (Option ℕ)) (others : BTreeMap (Bor (List ℕ)) ℕ) (new : Mark) → AreFound ms firsts others → (marked ms new.name ≡ None → ⊥) → AreFound (ms ++ new ∷ []) firsts others
found_again ms firsts others new h stands = record {
  found = λ q. told_before ms new others (first_of firsts (bucket_of q)) q (h.within (bucket_of q)) ∙ h.found q ∙ sym (marked_again ms new q stands);
  within = λ i place e. more_room ms new place (h.within i place e);
  apart = h.apart;
}

-- the same, or nothing was added
pub found_added : {X E : Type 0} (r : Result X E) (ms ns : List Mark) (firsts : List (Option ℕ)) (others : BTreeMap (Bor (List ℕ)) ℕ) (new : Mark) → AreFound ms firsts others → (marked ms new.name ≡ None → ⊥) → OnOk r (ns ≡ ms ++ new ∷ []) → OnErr r (ns ≡ ms) → AreFound ns firsts others
found_added (Ok x) ms ns firsts others new h stands put back = rw put (found_again ms firsts others new h stands)
found_added (Err e) ms ns firsts others new h stands put back = rw back h

-- the same names, if neither the list nor what the map says has changed
pub found_same : (ms ns : List Mark) (firsts : List (Option ℕ)) (old more : BTreeMap (Bor (List ℕ)) ℕ) → AreFound ms firsts old → ns ≡ ms → ((q : List ℕ) → other_of more q ≡ other_of old q) → AreFound ns firsts more
found_same ms ns firsts old more h is same = rw is (record {
  found = λ q. by q (first_of firsts (bucket_of q)) ∙ h.found q;
  within = h.within;
  apart = λ q e. same q ∙ h.apart q e;
})
  where
    one : (m : Option Mark) (q : List ℕ) → told_by m more q ≡ told_by m old q
    one None q = same q
    one (Some m) q = ap (λ (r : Option ℕ). cond (bytes_eq m.name q) (Some m.at) r) (same q)

    by : (q : List ℕ) (f : Option ℕ) → told ms more f q ≡ told ms old f q
    by q None = refl
    by q (Some place) = one (slice_get ms place) q

-- after a name was added to the list and to the map, or neither
pub found_tried : {X E : Type 0} (r : Result X E) (ms ns : List Mark) (firsts : List (Option ℕ)) (old more : BTreeMap (Bor (List ℕ)) ℕ) (new : Mark) → AreFound ms firsts old → (first_of firsts (bucket_of new.name) ≡ None → ⊥) → marked ms new.name ≡ None → OnOk r (ns ≡ ms ++ new ∷ []) → OnOk r ((q : List ℕ) → other_of more q ≡ cond (bytes_eq new.name q) (Some new.at) (other_of old q)) → OnErr r (ns ≡ ms) → OnErr r ((q : List ℕ) → other_of more q ≡ other_of old q) → AreFound ns firsts more
found_tried (Ok x) ms ns firsts old more new h taken free is put back same = rw is (found_other ms firsts old more new h taken free put)
found_tried (Err e) ms ns firsts old more new h taken free is put back same = found_same ms ns firsts old more h back same
