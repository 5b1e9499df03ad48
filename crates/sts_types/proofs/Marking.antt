-- Marks, and the typestates that they refer to.
use Rattle.std.proofs.Common.{◌≡◌, ◌≢◌, ℕ, zero, suc, ◌<◌, ◌≤◌, ◌⊎◌, inl, inr, List, [], ◌∷◌, ◌++◌, ◌+◌, take, slice_get, Option, Some, None, length, map}
use Rattle.std.proofs.Common.{get_or, set, replicate, refl, sym, ap, ◌∙◌, subst, arith, get_or-set_same, get_or-set_other, length-set}
use Rattle.std.specs.List.{All}
use Rattle.std.proofs.lemmas.Bool.{cases_eq}
use Rattle.std.proofs.lemmas.List.{map-set, get_or-map, get_or_append_left, length-replicate, get_or-replicate, get_or_default, length-map, length-append}
use Rattle.sts_rules.specs.TypeState.{TypeState}
use Rattle.sts_types.proofs.FollowLemmas.{take_there, take_missing}
use Rattle.sts_types.specs.declared.arrival.Arrival.{Arrival}
use Rattle.sts_types.specs.declared.arrival.Arrival.TheVariants.{Nothing, One, Several}
use Rattle.sts_types.specs.declared.arrivals.Mark.{Mark}
use Rattle.sts_types.specs.Arrivals.{Merged, Goes, IsMarked, arrival_of, at_height, none, state_in, state_of}

one_kept : (kept added : List TypeState) (m : Arrival Mark) → IsMarked (length kept) m → arrival_of (kept ++ added) m ≡ arrival_of kept m
one_kept kept added Nothing h = refl
one_kept kept added (One m) h = ap (λ s. One (at_height m.height s)) (get_or_append_left kept added none m.like h.0)
one_kept kept added Several h = refl

-- what is kept besides changes nothing
pub more_kept : (kept added : List TypeState) (marks : List (Arrival Mark)) → All (IsMarked (length kept)) marks → map (arrival_of (kept ++ added)) marks ≡ map (arrival_of kept) marks
more_kept kept added [] all = refl
more_kept kept added (m ∷ ms) all =
    let a = one_kept kept added m (all 0 Nothing (omega arith)) in
    let b = more_kept kept added ms (λ k d lt. all (suc k) d (omega arith)) in
    cc

longer : (a b : ℕ) (m : Arrival Mark) → a ≤ b → IsMarked a m → IsMarked b m
longer a b Nothing le h = tt
longer a b (One m) le h = (omega (arith, h.0), h.1)
longer a b Several le h = tt

set_marked : (n : ℕ) (marks : List (Arrival Mark)) (place : ℕ) (after : Arrival Mark) → All (IsMarked n) marks → IsMarked n after → All (IsMarked n) (set marks place after)
set_marked n marks place after all h k d lt = by (cases_eq place k)
  where
    within : k < length marks
    within = omega (arith, length-set marks place after)

    by : (place ≡ k) ⊎ (place ≢ k) → IsMarked n (get_or (set marks place after) k d)
    by (inl e) = let here : place < length marks = omega (arith, within) in subst (λ q. IsMarked n (get_or (set marks place after) q d)) e (subst (IsMarked n) (sym (get_or-set_same marks place after d here)) h)
    by (inr ne) = subst (IsMarked n) (sym (get_or-set_other marks place k after d (λ e. ne (sym e)))) (all k d within)

pub longer_kept : (kept added now : List TypeState) → now ≡ kept ++ added → length kept ≤ length now
longer_kept kept added now is = omega (arith, ap length is ∙ length-append kept added)

-- if more is kept, a mark refers to one of these
pub mark_holds : (kept added now : List TypeState) (m : Arrival Mark) → now ≡ kept ++ added → IsMarked (length kept) m → IsMarked (length now) m
mark_holds kept added now m is held = longer (length kept) (length now) m (longer_kept kept added now is) held

-- and so do all, once one more is there
pub marks_hold : (kept added now : List TypeState) (marks : List (Arrival Mark)) (place : ℕ) (after : Arrival Mark) → now ≡ kept ++ added → All (IsMarked (length kept)) marks → IsMarked (length now) after → All (IsMarked (length now)) (set marks place after)
marks_hold kept added now marks place after is held h =
    set_marked (length now) marks place after (λ k d lt. mark_holds kept added now (get_or marks k d) is (held k d lt)) h

pub within_marks : (kept : List TypeState) (marks : List (Arrival Mark)) (table : List (Arrival TypeState)) (place : ℕ) → map (arrival_of kept) marks ≡ table → place < length table → place < length marks
within_marks kept marks table place view lt = omega (arith, lt, ap length view, length-map marks (arrival_of kept))

-- the table's entry at a place, read off the mark there
pub read_at : (kept : List TypeState) (marks : List (Arrival Mark)) (table : List (Arrival TypeState)) (place : ℕ) (here : Arrival Mark) → map (arrival_of kept) marks ≡ table → place < length table → here ≡ get_or marks place here → get_or table place Nothing ≡ arrival_of kept here
read_at kept marks table place here view lt reads =
    ap (λ l. get_or l place Nothing) (sym view)
    ∙ get_or-map (arrival_of kept) marks place here Nothing (within_marks kept marks table place view lt)
    ∙ ap (arrival_of kept) (sym reads)

held_at : (kept : List TypeState) (marks : List (Arrival Mark)) (place : ℕ) (s : TypeState) → get_or (map (arrival_of kept) marks) place Nothing ≡ One s → get_or (map (state_in kept) marks) place none ≡ s
held_at kept [] place s e = cc
held_at kept (Nothing ∷ ms) zero s e = cc
held_at kept (One m ∷ ms) zero s e = cc
held_at kept (Several ∷ ms) zero s e = cc
held_at kept (m ∷ ms) (suc place) s e = held_at kept ms place s e

-- the typestate of a place is the only one that has arrived there
pub only_there : (kept : List TypeState) (marks : List (Arrival Mark)) (table : List (Arrival TypeState)) (place : ℕ) (s : TypeState) → map (arrival_of kept) marks ≡ table → get_or table place Nothing ≡ One s → get_or (map (state_in kept) marks) place none ≡ s
only_there kept marks table place s view is = held_at kept marks place s (ap (λ l. get_or l place Nothing) view ∙ is)

-- one more has arrived
pub arrived : (kept shown : List TypeState) (marks : List (Arrival Mark)) (table : List (Arrival TypeState)) (place : ℕ) (before after : Arrival Mark) (m : Mark) (s : TypeState) → shown ≡ kept → map (arrival_of kept) marks ≡ table → place < length table → before ≡ get_or marks place before → state_of kept m ≡ s → Merged (arrival_of shown before) (state_of shown m) (arrival_of shown after) → (x : Arrival TypeState) × (Merged (get_or table place Nothing) s x × (map (arrival_of kept) (set marks place after) ≡ set table place x))
arrived kept shown marks table place before after m s is view lt reads same merged =
    let was : arrival_of kept before ≡ get_or table place Nothing = sym (read_at kept marks table place before view lt reads) in
    let here : Merged (arrival_of kept before) (state_of kept m) (arrival_of kept after) = subst (λ l. Merged (arrival_of l before) (state_of l m) (arrival_of l after)) is merged in (
      arrival_of kept after,
      (
        subst (λ a. Merged a s (arrival_of kept after)) was (subst (λ u. Merged (arrival_of kept before) u (arrival_of kept after)) same here),
        map-set (arrival_of kept) marks place after ∙ ap (λ l. set l place (arrival_of kept after)) view,
      ),
    )

-- the last one is replaced
pub set_last : {X : Type 0} (xs : List X) (a b : X) (ys : List X) (n : ℕ) → ys ≡ xs ++ a ∷ [] → n ≡ length xs → set ys n b ≡ xs ++ b ∷ []
set_last {X = X} xs a b ys n is count = ap (λ l. set l n b) is ∙ ap (λ k. set (xs ++ a ∷ []) k b) count ∙ at xs
  where
    at : (l : List X) → set (l ++ a ∷ []) (length l) b ≡ l ++ b ∷ []
    at [] = refl
    at (x ∷ l) = ap (λ r. x ∷ r) (at l)

-- what is read at a place after more was kept
pub marked_there : (kept added now shown : List TypeState) (marks : List (Arrival Mark)) (place : ℕ) (before : Arrival Mark) → now ≡ kept ++ added → shown ≡ now → All (IsMarked (length kept)) marks → place < length marks → before ≡ get_or marks place before → IsMarked (length shown) before
marked_there kept added now shown marks place before is same held lt reads =
    subst (λ l. IsMarked (length l) before) (sym same) (subst (IsMarked (length now)) (sym reads) (mark_holds kept added now (get_or marks place before) is (held place before lt)))

-- the mark at a place refers to one of these
pub marked_one : (kept shown : List TypeState) (marks : List (Arrival Mark)) (place : ℕ) (before : Arrival Mark) (m : Mark) → shown ≡ kept → All (IsMarked (length kept)) marks → place < length marks → before ≡ get_or marks place before → before ≡ One m → IsMarked (length shown) (One m)
marked_one kept shown marks place before m same held lt reads is =
    subst (λ l. IsMarked (length l) (One m)) (sym same) (subst (IsMarked (length kept)) (sym reads ∙ is) (held place before lt))

-- a mark refers to the same typestate after more was kept
pub same_kept : (kept added now : List TypeState) (m : Mark) → now ≡ kept ++ added → m.like < length kept → state_of now m ≡ state_of kept m
same_kept kept added now m is lt = ap (λ l. state_of l m) is ∙ ap (at_height m.height) (get_or_append_left kept added none m.like lt)

-- a kept typestate is like itself
pub kept_itself : (kept : List TypeState) (like : ℕ) (read s : TypeState) → like < length kept → read ≡ get_or kept like read → s ≡ read → s ≡ state_of kept (record { height = s.height; like = like })
kept_itself kept like read s within reads is = let e : s ≡ get_or kept like none = is ∙ reads ∙ get_or_default kept like read none within in ap (at_height s.height) e

-- and so is that of a mark
pub like_itself : (kept shown : List TypeState) (s : TypeState) (like : ℕ) (m : Mark) → shown ≡ kept → s ≡ state_of shown m → like ≡ m.like → s ≡ state_of kept (record { height = s.height; like = like })
like_itself kept shown s like m same is like_is =
    is
    ∙ ap (λ l. state_of l m) same
    ∙ ap (λ h. at_height h (get_or kept m.like none)) (sym (ap (λ x. x.height) is))
    ∙ ap (λ q. at_height s.height (get_or kept q none)) (sym like_is)

nothing_yet : (kept : List TypeState) (places : ℕ) → map (arrival_of kept) (replicate places Nothing) ≡ replicate places Nothing
nothing_yet kept zero = refl
nothing_yet kept (suc n) = ap (λ l. Nothing ∷ l) (nothing_yet kept n)

-- the first has arrived
pub first_arrived : (kept : List TypeState) (marks : List (Arrival Mark)) (places : ℕ) (m : Mark) (first : TypeState) → marks ≡ replicate places Nothing → state_of kept m ≡ first → map (arrival_of kept) (set marks 0 (One m)) ≡ set (replicate places Nothing) 0 (One first)
first_arrived kept marks places m first empty is =
    map-set (arrival_of kept) marks 0 (One m)
    ∙ ap (λ l. set (map (arrival_of kept) l) 0 (One (state_of kept m))) empty
    ∙ ap (λ l. set l 0 (One (state_of kept m))) (nothing_yet kept places)
    ∙ ap (λ s. set (replicate places Nothing) 0 (One s)) is

long : (marks : List (Arrival Mark)) (places : ℕ) → marks ≡ replicate places Nothing → length marks ≡ places
long marks places empty = ap length empty ∙ length-replicate places Nothing

-- the first mark alone refers to one of these
pub first_marked : (n : ℕ) (marks : List (Arrival Mark)) (places : ℕ) (after : Arrival Mark) → marks ≡ replicate places Nothing → IsMarked n after → All (IsMarked n) (set marks 0 after)
first_marked n marks places after empty h = set_marked n marks 0 after (λ k d lt. subst (λ l. IsMarked n (get_or l k d)) (sym empty) (at k d lt)) h
  where
    at : (k : ℕ) (d : Arrival Mark) → k < length marks → IsMarked n (get_or (replicate places Nothing) k d)
    at k d lt = let within : k < places = omega (arith, lt, long marks places empty) in subst (IsMarked n) (sym (get_or-replicate places k Nothing d within)) tt

-- if an edge led to a place, it is the edge to that place
pub goes_there : (o : Option (ℕ × TypeState)) (before : TypeState) (r : Option ℕ) (after : TypeState) (to : ℕ) → Goes o before r after → r ≡ Some to → o ≡ Some (to, after)
goes_there None before r after to goes is = cc
goes_there (Some (place, s)) before r after to goes is = cc

goes_nowhere : (o : Option (ℕ × TypeState)) (before : TypeState) (r : Option ℕ) (after : TypeState) → Goes o before r after → r ≡ None → o ≡ None
goes_nowhere None before r after goes is = refl
goes_nowhere (Some e) before r after goes is = cc

-- the next edge is there
pub edge_taken : (out : List (ℕ × TypeState)) (k : ℕ) (before : TypeState) (r : Option ℕ) (after : TypeState) (to : ℕ) (xs ys : List (ℕ × TypeState)) → xs ≡ take k out → Goes (slice_get out k) before r after → r ≡ Some to → ys ≡ xs ++ (to, after) ∷ [] → ys ≡ take (k + 1) out
edge_taken out k before r after to xs ys first goes is more =
    more ∙ ap (λ l. l ++ (to, after) ∷ []) first ∙ sym (take_there out k (to, after) (goes_there (slice_get out k) before r after to goes is))

-- there is no further edge
pub edge_missing : (out : List (ℕ × TypeState)) (k : ℕ) (before : TypeState) (r : Option ℕ) (after : TypeState) (xs ys : List (ℕ × TypeState)) → xs ≡ take k out → Goes (slice_get out k) before r after → r ≡ None → ys ≡ xs → ys ≡ take (k + 1) out
edge_missing out k before r after xs ys first goes is same =
    same ∙ first ∙ sym (take_missing out k (goes_nowhere (slice_get out k) before r after goes is))
