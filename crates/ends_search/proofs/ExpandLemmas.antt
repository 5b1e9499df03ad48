-- A state is expanded: what is known of it among the older states, and among those that are there now.
use Rattle.std.proofs.Common.{◌≡◌, ℕ, ◌+◌, ◌<◌, List, [], ◌∷◌, ◌++◌, length, sym, ◌∙◌, arith, subst, Bool, true}
use Rattle.std.proofs.lemmas.List.{get_or_default}
use Rattle.std.proofs.lemmas.List.Elements.{Contains-append_left, Contains-push}
use Rattle.std.specs.Prelude.{slice_index_or, Option}
use Rattle.std.specs.List.{Contains}
use Rattle.sts_model.specs.declared.event.Event.{Event}
use Rattle.ends_search.specs.declared.origin.Origin.{Origin}
use Rattle.ends_search.specs.Search.{IsSpace, Grows, Follows, LeadsInto, CanAt, state_at, states_of}
use Rattle.ends_search.proofs.SearchLemmas.{Spreads, spread_more, spread_last, leads, same_older, within_more}
use Rattle.ends_search.proofs.StateLemmas.{comes_on}

-- x is the state at k of the older ones, and there may be more states now
pub record Expands {S : Type 0} (old mid : List S) (k : ℕ) (x : S) : Type 0 where
  pub within : k < length old
  pub is : x ≡ slice_index_or old k x
  pub grows : Grows old mid

pub expands : {S : Type 0} {next : S → Event → S} {can : S → Event → Bool} {alike : S → S → Type 0} {last : S → Bool} {first : S} {origins : List Origin} {closed : ℕ} {kept : List S} {marks : List (Option ℕ)} {mid : List S}
    → IsSpace next can alike last first origins closed kept marks → (k : ℕ) (x : S) → k < length origins → x ≡ state_at next first origins k → Grows (states_of next first origins) mid → Expands (states_of next first origins) mid k x
expands {S} {next} {can} {alike} {last} {first} {origins} space k x within is grows =
    let less : k < length (states_of next first origins) = omega (arith, within, space.searched.traced.as_many) in
    record { within = less; is = is ∙ get_or_default (states_of next first origins) k first x less; grows = grows }

-- it is the same state now
pub within_now : {S : Type 0} {old mid : List S} {k : ℕ} {x : S} → Expands old mid k x → k < length mid
within_now {S} {old} {mid} {k} {x} e = within_more old mid k e.grows e.within

at_now : {S : Type 0} {old mid : List S} {k : ℕ} {x : S} → Expands old mid k x → (d : S) → x ≡ slice_index_or mid k d
at_now {S} {old} {mid} {k} {x} e d = e.is ∙ get_or_default old k x d e.within ∙ sym (same_older old mid e.grows k e.within d)

pub comes_now : {S : Type 0} {old mid : List S} {k : ℕ} {x : S} → Expands old mid k x → (next : S → Event → S) (first made : S) (event : Event) → made ≡ next x event → made ≡ next (slice_index_or mid k first) event
comes_now {S} {old} {mid} {k} {x} e next first made event is = comes_on next x (slice_index_or mid k first) made event is (at_now e first)

-- ---- its events

can_now : {S : Type 0} {old mid : List S} {k : ℕ} {x : S} → Expands old mid k x → (can : S → Event → Bool) (event : Event) → can x event ≡ true → CanAt can mid k event
can_now e can event h d = subst (λ y. can y event ≡ true) (at_now e d) h

-- each of its events but the last one can come
pub can_front : {S : Type 0} {old mid : List S} {k : ℕ} {x : S} → Expands old mid k x → (can : S → Event → Bool) (events front : List Event) (last : Event) (listed : List Event) (n : ℕ) (other : Event)
    → events ≡ front ++ last ∷ [] → listed ≡ front → ((event : Event) → Contains events event → can x event ≡ true) → n < length listed → CanAt can mid k (slice_index_or listed n other)
can_front e can events front last listed n other are same only less =
    let event = slice_index_or listed n other in
    let there : Contains listed event = (n, less, get_or_default listed n event other less) in
    let in_front : Contains front event = subst (λ es. Contains es event) same there in
    can_now e can event (only event (subst (λ es. Contains es event) (sym are) (Contains-append_left front (last ∷ []) event in_front)))

-- and the last one
pub can_last : {S : Type 0} {old mid : List S} {k : ℕ} {x : S} → Expands old mid k x → (can : S → Event → Bool) (events front : List Event) (last : Event)
    → events ≡ front ++ last ∷ [] → ((event : Event) → Contains events event → can x event ≡ true) → CanAt can mid k last
can_last e can events front last are only = can_now e can last (only last (subst (λ es. Contains es last) (sym are) (Contains-push front last)))

-- ---- what they lead to

-- one event more was followed
pub spread_now : {S : Type 0} {old mid new : List S} {k : ℕ} {x : S} {next : S → Event → S} {alike : S → S → Type 0} {events : List Event} {n : ℕ} → Expands old mid k x → Spreads next alike old k events n mid → Grows mid new
    → (event : Event) → n < length events → event ≡ slice_index_or events n event → Follows next alike mid k event new → Spreads next alike old k events (n + 1) new
spread_now {S} {old} {mid} {new} {k} {x} {next} {alike} {events} {n} e spread grows event less is follows =
    spread_more next alike old mid new k events n event e.within less is e.grows grows follows spread

-- all of them were
pub leads_all : {S : Type 0} {old mid new : List S} {k : ℕ} {x : S} {next : S → Event → S} {alike : S → S → Type 0} {events : List Event} {n : ℕ} → Expands old mid k x → Spreads next alike old k events n mid
    → (can : S → Event → Bool) (front all : List Event) (last : Event) → events ≡ front → n ≡ length events → all ≡ front ++ last ∷ [] → ((event : Event) → can x event ≡ true → Contains all event)
    → Grows mid new → Follows next alike mid k last new → LeadsInto next can alike old k new
leads_all {S} {old} {mid} {new} {k} {x} {next} {alike} {events} {n} e spread can front all last same count are listed grows follows =
    let counted : Spreads next alike old k events (length events) mid = subst (λ m. Spreads next alike old k events m mid) count spread in
    let whole : Spreads next alike old k front (length front) mid = subst (λ es. Spreads next alike old k es (length es) mid) same counted in
    leads next can alike old new k (front ++ last ∷ []) x e.within e.is (subst (λ es. (event : Event) → can x event ≡ true → Contains es event) are listed)
    (spread_last next alike old mid new k front last e.within e.grows grows follows whole)

-- there are none
pub leads_none : {S : Type 0} {old mid : List S} {k : ℕ} {x : S} → Expands old mid k x → (next : S → Event → S) (can : S → Event → Bool) (alike : S → S → Type 0) (all : List Event) → length all ≡ 0
    → ((event : Event) → can x event ≡ true → Contains all event) → LeadsInto next can alike old k old
leads_none {S} {old} {mid} {k} {x} e next can alike all none listed =
    leads next can alike old old k all x e.within e.is listed (record { there = λ j less e0. absurd (omega (arith, less, none)) })
