-- The states that a search of a machine finds. `next` is the effect of an event on a state, and
-- `can` says whether the event can come there. The search keeps one of two states that are `alike`.
-- It is for the states that are `last` (this project's own).
use Rattle.std.specs.Prelude.{◌≡◌, ℕ, ◌<◌, ◌≤◌, ◌⊎◌, List, [], ◌∷◌, ◌++◌, fold, length}
use Rattle.std.specs.Prelude.{slice_index_or, Bool, true, false, drop, Option, Some, None}
use Rattle.std.specs.List.{Contains}
use Rattle.sts_model.specs.declared.event.Event.{Event}
use Rattle.sts_model.specs.declared.event.Event.TheVariants.{Step}
use Rattle.ends_search.specs.declared.origin.Origin.{Origin}
use Rattle.ends_search.specs.declared.search.Space.{Space}

-- ---- ways

-- each event can come after the ones before it
abbrev pub CanAll : {S : Type 0} → (S → Event → S) → (S → Event → Bool) → S → List Event → Type 0
CanAll next can s [] = Unit {0}
CanAll next can s (e ∷ es) = (can s e ≡ true) × CanAll next can (next s e) es

-- the events lead from s to r
pub record IsWay {S : Type 0} (next : S → Event → S) (can : S → Event → Bool) (s : S)
    (events : List Event) (r : S) : Type 0 where
  pub can_all : CanAll next can s events
  pub leads : fold next s events ≡ r

-- ---- how states were found

abbrev pub no_origin : Origin
no_origin = record { parent = 0; event = Step 0; is_last = false }

abbrev pub origin_at : List Origin → ℕ → Origin
origin_at origins k = slice_index_or origins k no_origin

-- the event can come at the state at k
abbrev pub CanAt : {S : Type 0} → (S → Event → Bool) → List S → ℕ → Event → Type 0
CanAt {S} can states k e = (d : S) → can (slice_index_or states k d) e ≡ true

-- the state at k comes from the state at its parent by its event, and the parent was found before
-- it
pub record ComesFrom {S : Type 0} (next : S → Event → S) (can : S → Event → Bool) (states : List S)
    (origin : Origin) (k : ℕ) : Type 0 where
  pub before : origin.parent < k
  pub can_come : CanAt can states origin.parent origin.event
  pub state : (d : S) → slice_index_or states k d
      ≡ next (slice_index_or states origin.parent d) origin.event

-- each state except the first comes from one that was found before, and the last ones are marked
pub record IsTraced {S : Type 0} (next : S → Event → S) (can : S → Event → Bool) (last : S → Bool)
    (states : List S) (origins : List Origin) : Type 0 where
  pub as_many : length origins ≡ length states
  pub marked : (k : ℕ) → k < length states → (d : S)
      → (origin_at origins k).is_last ≡ last (slice_index_or states k d)
  pub later : (k : ℕ) → 0 < k → k < length states
      → ComesFrom next can states (origin_at origins k) k

-- one state more: what an event leads to from one of these states
abbrev pub with_next : {S : Type 0} → (S → Event → S) → S → List S → Origin → List S
with_next next first states o =
    states ++ next (slice_index_or states o.parent first) o.event ∷ []

-- the states that were found like this, where `first` is the first one
abbrev pub states_of : {S : Type 0} → (S → Event → S) → S → List Origin → List S
states_of next first origins = fold (with_next next first) (first ∷ []) (drop 1 origins)

abbrev pub state_at : {S : Type 0} → (S → Event → S) → S → List Origin → ℕ → S
state_at next first origins k = slice_index_or (states_of next first origins) k first

-- the first state is this one
pub record Begins {S : Type 0} (start : S) (states : List S) : Type 0 where
  pub some : 0 < length states
  pub first : (d : S) → slice_index_or states 0 d ≡ start

-- ---- what states lead to

-- the state, or one that it is alike to, is one of these
pub record IsAmong {S : Type 0} (alike : S → S → Type 0) (states : List S) (state : S)
    : Type 0 where
  pub other : S
  pub there : Contains states other
  pub same : (state ≡ other) ⊎ alike state other

-- the event leads from the older state at k to a state that is among these
abbrev pub Follows : {S : Type 0} → (S → Event → S) → (S → S → Type 0) → List S → ℕ → Event
    → List S → Type 0
Follows {S} next alike old k e new =
    (d : S) → IsAmong alike new (next (slice_index_or old k d) e)

-- this holds for any event that can come
abbrev pub LeadsInto : {S : Type 0} → (S → Event → S) → (S → Event → Bool) → (S → S → Type 0)
    → List S → ℕ → List S → Type 0
LeadsInto next can alike old k new =
    (e : Event) → CanAt can old k e → Follows next alike old k e new

-- this holds for each of the first n states
abbrev pub IsClosed : {S : Type 0} → (S → Event → S) → (S → Event → Bool) → (S → S → Type 0)
    → List S → ℕ → Type 0
IsClosed next can alike states n = (k : ℕ) → k < n → LeadsInto next can alike states k states

-- the older ones are the first ones
pub record Grows {S : Type 0} (old new : List S) : Type 0 where
  pub more : List S
  pub same : new ≡ old ++ more

-- A search so far. It has a first state. Each other state was found from an older one. Any event
-- leads from each of the first `closed` states to one of the states.
pub record IsSearched {S : Type 0} (next : S → Event → S) (can : S → Event → Bool)
    (alike : S → S → Type 0) (last : S → Bool) (states : List S) (origins : List Origin) (closed : ℕ)
    : Type 0 where
  pub some : 0 < length states
  pub traced : IsTraced next can last states origins
  pub closed_below : IsClosed next can alike states closed
  pub within : closed ≤ length states

-- ---- which states are kept whole

-- the place among the states that are kept whole, if the state at k is one of them
abbrev pub mark_at : List (Option ℕ) → ℕ → Option ℕ
mark_at marks k = slice_index_or marks k None

-- the state is kept whole at this place, if there is a place
pub record IsKept {S : Type 0} (kept : List S) (mark : Option ℕ) (state : S) : Type 0 where
  pub there : (j : ℕ) → mark ≡ Some j → j < length kept
  pub same : (j : ℕ) → mark ≡ Some j → (d : S) → slice_index_or kept j d ≡ state

-- this holds for each of the states
pub record AreKept {S : Type 0} (states kept : List S) (marks : List (Option ℕ)) : Type 0 where
  pub as_many : length marks ≡ length states
  pub each : (k : ℕ) → k < length states → (d : S)
      → IsKept kept (mark_at marks k) (slice_index_or states k d)

-- A search so far. Its states follow from the first one and from how the others were found, and
-- some of them are kept whole.
pub record IsSpace {S : Type 0} (next : S → Event → S) (can : S → Event → Bool)
    (alike : S → S → Type 0) (last : S → Bool) (first : S) (origins : List Origin) (closed : ℕ)
    (kept : List S) (marks : List (Option ℕ)) : Type 0 where
  pub searched : IsSearched next can alike last (states_of next first origins) origins closed
  pub whole_ones : AreKept (states_of next first origins) kept marks

-- the search found more states, and expanded none
pub record FoundMore {S : Type 0} (next : S → Event → S) (can : S → Event → Bool)
    (alike : S → S → Type 0) (last : S → Bool) (old new : Space S) : Type 0 where
  pub space : IsSpace next can alike last new.first new.origins.items new.closed new.kept.items
      new.marks.items
  pub first : new.first ≡ old.first
  pub closed : new.closed ≡ old.closed
  pub grows : Grows (states_of next old.first old.origins.items)
      (states_of next new.first new.origins.items)
