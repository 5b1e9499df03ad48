-- The states that follow from the first one and from how the others were found, and which of them
-- are kept whole.
use Rattle.std.proofs.Common.{◌≡◌, ℕ, ◌+◌, ◌<◌, ◌⊎◌, List, [], ◌∷◌, ◌++◌, length, fold, refl, ap, sym, ◌∙◌, arith, inl, inr, subst, length-append, Bool}
use Rattle.std.proofs.lemmas.List.{get_or_default, drop-append-le}
use Rattle.std.proofs.lemmas.List.Sums.{fold-append}
use Rattle.std.proofs.Math.ListN.{get_or-append}
use Rattle.std.proofs.Math.Seq.{get_or-append_seam}
use Rattle.std.specs.Prelude.{slice_index_or, Option, None, drop}
use Rattle.std.proofs.lemmas.List.Elements.{Contains-push}
use Rattle.sts_model.specs.declared.event.Event.{Event}
use Rattle.ends_search.specs.declared.origin.Origin.{Origin}
use Rattle.ends_search.specs.Search.{Grows, Begins, Follows, LeadsInto, IsKept, AreKept, IsAmong, IsSpace, CanAt, ComesFrom, mark_at, no_origin, origin_at, state_at, states_of, with_next}
use Rattle.ends_search.proofs.SearchLemmas.{traced_more, searched_on, searched_more}
use Rattle.laws_words.proofs.NumberLemmas.{split}

-- ---- the states

-- the first state stays in front
starts_on : {S : Type 0} (next : S → Event → S) (first : S) (origins : List Origin) (xs : List S) (d : S) → slice_index_or (fold (with_next next first) (first ∷ xs) origins) 0 d ≡ first
starts_on next first [] xs d = refl
starts_on next first (o ∷ os) xs d = starts_on next first os (xs ++ next (slice_index_or (first ∷ xs) o.parent first) o.event ∷ []) d

pub starts : {S : Type 0} (next : S → Event → S) (first : S) (origins : List Origin) (d : S) → slice_index_or (states_of next first origins) 0 d ≡ first
starts next first origins d = starts_on next first (drop 1 origins) [] d

-- one origin more is one state more
pub states_more : {S : Type 0} (next : S → Event → S) (first : S) (origins : List Origin) (o : Origin) → 0 < length origins
    → states_of next first (origins ++ o ∷ []) ≡ with_next next first (states_of next first origins) o
states_more next first origins o some =
    ap (λ os. fold (with_next next first) (first ∷ []) os) (drop-append-le 1 origins (o ∷ []) (omega (arith, some)))
    ∙ fold-append (with_next next first) (first ∷ []) (drop 1 origins) (o ∷ [])

pub begins_so : {S : Type 0} (next : S → Event → S) (first : S) (origins : List Origin) → 0 < length (states_of next first origins) → Begins first (states_of next first origins)
begins_so next first origins some = record { some = some; first = λ d. starts next first origins d }

-- ---- one state more

-- a state that is kept whole still is
kept_on : {S : Type 0} (kept more : List S) (mark : Option ℕ) (state : S) → Grows kept more → IsKept kept mark state → IsKept more mark state
kept_on kept more mark state grows h = record {
  there = λ j e. rw grows.same (omega (arith, length-append kept grows.more, h.there j e));
  same = λ j e d. ap (λ xs. slice_index_or xs j d) grows.same ∙ get_or-append kept grows.more d j (h.there j e) ∙ h.same j e d;
}

-- one state more, which may be kept whole
kept_more : {S : Type 0} (states kept more : List S) (marks : List (Option ℕ)) (mark : Option ℕ) (state : S) → AreKept states kept marks → Grows kept more → IsKept more mark state
    → AreKept (states ++ state ∷ []) more (marks ++ mark ∷ [])
kept_more {S} states kept more marks mark state h grows is_kept = record {
  as_many = length-append marks (mark ∷ []) ∙ ap (λ n. n + 1) h.as_many ∙ sym (length-append states (state ∷ []));
  each = λ k less d. by k d (split k (length states) (subst (λ n. k < n) (length-append states (state ∷ [])) less));
}
  where
    by : (k : ℕ) (d : S) → (k < length states) ⊎ (k ≡ length states) → IsKept more (mark_at (marks ++ mark ∷ []) k) (slice_index_or (states ++ state ∷ []) k d)
    by k d (inl less) =
        let here : mark_at (marks ++ mark ∷ []) k ≡ mark_at marks k = get_or-append marks (mark ∷ []) None k (omega (arith, h.as_many, less)) in
        let there : slice_index_or (states ++ state ∷ []) k d ≡ slice_index_or states k d = get_or-append states (state ∷ []) d k less in
        rw (here, there) (kept_on kept more (mark_at marks k) (slice_index_or states k d) grows (h.each k less d))
    by k d (inr same) =
        let here : mark_at (marks ++ mark ∷ []) k ≡ mark = rw (same, sym h.as_many) (get_or-append_seam marks mark [] None) in
        let there : slice_index_or (states ++ state ∷ []) k d ≡ state = rw same (get_or-append_seam states state [] d) in
        rw (here, there) is_kept

pub space_more : {S : Type 0} (next : S → Event → S) (can : S → Event → Bool) (alike : S → S → Type 0) (last : S → Bool) (first : S) (origins : List Origin) (closed : ℕ) (kept : List S) (marks : List (Option ℕ)) (o : Origin) (s : S) (more : List S) (mark : Option ℕ)
    → IsSpace next can alike last first origins closed kept marks → o.parent < length origins → CanAt can (states_of next first origins) o.parent o.event → o.is_last ≡ last s → s ≡ next (state_at next first origins o.parent) o.event → Grows kept more → IsKept more mark s
    → IsSpace next can alike last first (origins ++ o ∷ []) closed more (marks ++ mark ∷ [])
space_more {S} next can alike last first origins closed kept marks o s more mark h within comes marked made grows is_kept =
    let states = states_of next first origins in
    let as_many : length origins ≡ length states = h.searched.traced.as_many in
    let new : states_of next first (origins ++ o ∷ []) ≡ states ++ s ∷ [] = states_more next first origins o (omega (arith, within)) ∙ ap (λ x. states ++ x ∷ []) (sym made) in
    let traced = traced_more next can last states origins s o h.searched.traced (omega (arith, within, as_many)) comes marked
    (λ d. made ∙ ap (λ x. next x o.event) (get_or_default states o.parent first d (omega (arith, within, as_many)))) in
    record {
      searched = rw new (searched_on next can alike last states (states ++ s ∷ []) origins (origins ++ o ∷ []) closed h.searched (record { more = s ∷ []; same = refl }) traced);
      whole_ones = rw new (kept_more states kept more marks mark s h.whole_ones grows is_kept);
    }

-- one state more, whose mark and origin are in the lists now
pub space_pushed : {S : Type 0} (next : S → Event → S) (can : S → Event → Bool) (alike : S → S → Type 0) (last : S → Bool) (first : S) (origins added : List Origin) (closed : ℕ) (kept : List S) (marks noted : List (Option ℕ)) (o : Origin) (s : S) (more : List S) (mark : Option ℕ)
    → noted ≡ marks ++ mark ∷ [] → added ≡ origins ++ o ∷ []
    → IsSpace next can alike last first origins closed kept marks → o.parent < length origins → CanAt can (states_of next first origins) o.parent o.event → o.is_last ≡ last s → s ≡ next (state_at next first origins o.parent) o.event → Grows kept more → IsKept more mark s
    → IsSpace next can alike last first added closed more noted
space_pushed next can alike last first origins added closed kept marks noted o s more mark as_noted as_added h within comes marked made grows is_kept =
    rw (as_noted, as_added) (space_more next can alike last first origins closed kept marks o s more mark h within comes marked made grows is_kept)

pub grows_more : {S : Type 0} (next : S → Event → S) (first : S) (origins : List Origin) (o : Origin) → 0 < length origins → Grows (states_of next first origins) (states_of next first (origins ++ o ∷ []))
grows_more next first origins o some = record { more = next (state_at next first origins o.parent) o.event ∷ []; same = states_more next first origins o some }

-- ---- what an event leads to

-- the state that an event leads to from the state at k is there
pub follows : {S : Type 0} (next : S → Event → S) (alike : S → S → Type 0) (old new : List S) (k : ℕ) (first : S) (e : Event) → k < length old → IsAmong alike new (next (slice_index_or old k first) e) → Follows next alike old k e new
follows next alike old new k first e within h d = rw (get_or_default old k d first within) h

pub follows_there : {S : Type 0} (next : S → Event → S) (alike : S → S → Type 0) (first : S) (origins : List Origin) (o : Origin) → 0 < length origins → o.parent < length (states_of next first origins)
    → Follows next alike (states_of next first origins) o.parent o.event (states_of next first (origins ++ o ∷ []))
follows_there next alike first origins o some within =
    let states = states_of next first origins in
    let new = next (state_at next first origins o.parent) o.event in
    follows next alike states (states_of next first (origins ++ o ∷ [])) o.parent first o.event within
    (record { other = new; there = rw (states_more next first origins o some) (Contains-push states new); same = inl refl })

-- what an event leads to from a state, which is this one
pub comes_on : {S : Type 0} (next : S → Event → S) (x y s : S) (e : Event) → s ≡ next x e → x ≡ y → s ≡ next y e
comes_on next x y s e made same = made ∙ ap (λ z. next z e) same

-- ---- one state expanded

pub space_closed : {S : Type 0} (next : S → Event → S) (can : S → Event → Bool) (alike : S → S → Type 0) (last : S → Bool) (first : S) (os origins : List Origin) (closed : ℕ) (kept older : List S) (marks earlier : List (Option ℕ)) → IsSpace next can alike last first os closed older earlier
    → IsSpace next can alike last first origins closed kept marks → closed < length os → Grows (states_of next first os) (states_of next first origins) → LeadsInto next can alike (states_of next first os) closed (states_of next first origins)
    → IsSpace next can alike last first origins (closed + 1) kept marks
space_closed next can alike last first os origins closed kept older marks earlier old new less grows leads = record {
  searched = searched_more next can alike last (states_of next first os) (states_of next first origins) os origins closed old.searched (omega (arith, less, old.searched.traced.as_many)) grows new.searched.traced leads;
  whole_ones = new.whole_ones;
}

-- the search after it, if any event led from it to a state that is there
pub space_expanded : {S : Type 0} {next : S → Event → S} {can : S → Event → Bool} {alike : S → S → Type 0} {last : S → Bool} {first start : S} {os origins : List Origin} {closed count : ℕ} {kept older : List S} {marks earlier : List (Option ℕ)} → IsSpace next can alike last first os closed older earlier
    → IsSpace next can alike last start origins count kept marks → start ≡ first → count ≡ closed → closed < length os → Grows (states_of next first os) (states_of next start origins) → LeadsInto next can alike (states_of next first os) closed (states_of next start origins)
    → IsSpace next can alike last start origins (closed + 1) kept marks
space_expanded {S} {next} {can} {alike} {last} {first} {start} {os} {origins} {closed} {count} {kept} {older} {marks} {earlier} old new begun same less grows leads =
    rw begun (space_closed next can alike last first os origins closed kept older marks earlier old (rw (begun, same) at new) less (rw begun at grows) (rw begun at leads))

-- ---- one state

-- a state after the first one comes from an older one by its origin
pub came_from : {S : Type 0} {next : S → Event → S} {can : S → Event → Bool} {alike : S → S → Type 0} {last : S → Bool} {first : S} {origins : List Origin} {closed : ℕ} {kept : List S} {marks : List (Option ℕ)} → IsSpace next can alike last first origins closed kept marks
    → (k : ℕ) (o : Origin) → 0 < k → k < length origins → o ≡ slice_index_or origins k o → ComesFrom next can (states_of next first origins) o k
came_from {S} {next} {can} {alike} {last} {first} {origins} space k o some less is =
    let traced = space.searched.traced in
    let same : o ≡ origin_at origins k = is ∙ get_or_default origins k o no_origin less in
    subst (λ x. ComesFrom next can (states_of next first origins) x k) (sym same) (traced.later k some (omega (arith, less, traced.as_many)))

-- a state is kept whole at its mark
pub kept_at : {S : Type 0} {next : S → Event → S} {can : S → Event → Bool} {alike : S → S → Type 0} {last : S → Bool} {first : S} {origins : List Origin} {closed : ℕ} {kept : List S} {marks : List (Option ℕ)} → IsSpace next can alike last first origins closed kept marks
    → (k : ℕ) → k < length origins → (mark : Option ℕ) → mark ≡ slice_index_or marks k mark → IsKept kept mark (state_at next first origins k)
kept_at {S} {next} {can} {alike} {last} {first} {origins} {closed} {kept} {marks} space k less mark is =
    let within : k < length (states_of next first origins) = omega (arith, less, space.searched.traced.as_many) in
    let same : mark ≡ mark_at marks k = is ∙ get_or_default marks k mark None (omega (arith, within, space.whole_ones.as_many)) in
    subst (λ m. IsKept kept m (state_at next first origins k)) (sym same) (space.whole_ones.each k within first)
