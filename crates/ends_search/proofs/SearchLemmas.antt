-- How a search grows.
use Rattle.std.proofs.Common.{◌≡◌, ℕ, ◌+◌, ◌<◌, ◌≤◌, ◌⊎◌, List, [], ◌∷◌, ◌++◌, length, fold, ap, sym, ◌∙◌, arith, inl, inr, subst}
use Rattle.std.proofs.Common.{length-append, reverse, append_assoc, Bool, true}
use Rattle.std.proofs.lemmas.List.{get_or_default, append-nil, reverse-append}
use Rattle.std.specs.Prelude.{slice_index_or}
use Rattle.std.specs.List.{Contains}
use Rattle.std.proofs.Math.ListN.{get_or-append}
use Rattle.std.proofs.Math.Seq.{get_or-append_seam}
use Rattle.std.proofs.lemmas.List.Elements.{Contains-append_left}
use Rattle.sts_model.specs.declared.event.Event.{Event}
use Rattle.ends_search.specs.declared.origin.Origin.{Origin}
use Rattle.ends_search.specs.Search.{IsTraced, IsSearched, ComesFrom, IsAmong, Grows, LeadsInto, Follows, IsClosed, origin_at, no_origin, CanAt, CanAll, IsWay}
use Rattle.laws_words.proofs.NumberLemmas.{split}

-- ---- one state more

come : {S : Type 0} (next : S → Event → S) (can : S → Event → Bool) (states : List S) (s : S) (o : Origin) (k : ℕ) → k < length states → ComesFrom next can states o k → ComesFrom next can (states ++ s ∷ []) o k
come {S} next can states s o k less h =
    record {
      before = h.before;
      can_come = λ d. rw (older d) (h.can_come d);
      state = λ d. get_or-append states (s ∷ []) d k less ∙ h.state d ∙ ap (λ x. next x o.event) (sym (older d));
    }
  where
    older : (d : S) → slice_index_or (states ++ s ∷ []) o.parent d ≡ slice_index_or states o.parent d
    older d = get_or-append states (s ∷ []) d o.parent (omega (arith, h.before))

-- one more state, which comes from an older one
pub traced_more : {S : Type 0} (next : S → Event → S) (can : S → Event → Bool) (last : S → Bool) (states : List S) (origins : List Origin) (s : S) (o : Origin)
    → IsTraced next can last states origins → o.parent < length states → CanAt can states o.parent o.event → o.is_last ≡ last s → ((d : S) → s ≡ next (slice_index_or states o.parent d) o.event)
    → IsTraced next can last (states ++ s ∷ []) (origins ++ o ∷ [])
traced_more {S} next can last states origins s o h within comes marks made =
    record {
      as_many = length-append origins (o ∷ []) ∙ ap (λ n. n + 1) h.as_many ∙ sym (length-append states (s ∷ []));
      marked = λ k less d. marked k d (split k (length states) (subst (λ n. k < n) (length-append states (s ∷ [])) less));
      later = λ k some less. later k some (split k (length states) (subst (λ n. k < n) (length-append states (s ∷ [])) less));
    }
  where
    marked : (k : ℕ) (d : S) → (k < length states) ⊎ (k ≡ length states) → (origin_at (origins ++ o ∷ []) k).is_last ≡ last (slice_index_or (states ++ s ∷ []) k d)
    marked k d (inl less) =
        let here : origin_at (origins ++ o ∷ []) k ≡ origin_at origins k = get_or-append origins (o ∷ []) no_origin k (omega (arith, h.as_many, less)) in
        let there : slice_index_or (states ++ s ∷ []) k d ≡ slice_index_or states k d = get_or-append states (s ∷ []) d k less in
        rw (here, there) (h.marked k less d)
    marked k d (inr same) =
        let here : origin_at (origins ++ o ∷ []) k ≡ o = rw (same, sym h.as_many) (get_or-append_seam origins o [] no_origin) in
        let there : slice_index_or (states ++ s ∷ []) k d ≡ s = rw same (get_or-append_seam states s [] d) in
        rw (here, there) marks

    later : (k : ℕ) → 0 < k → (k < length states) ⊎ (k ≡ length states) → ComesFrom next can (states ++ s ∷ []) (origin_at (origins ++ o ∷ []) k) k
    later k some (inl less) =
        let e : origin_at (origins ++ o ∷ []) k ≡ origin_at origins k = get_or-append origins (o ∷ []) no_origin k (omega (arith, h.as_many)) in
        rw e (come next can states s (origin_at origins k) k less (h.later k some less))
    later k some (inr same) =
        let e : origin_at (origins ++ o ∷ []) k ≡ o = rw (same, sym h.as_many) (get_or-append_seam origins o [] no_origin) in
        rw e (record {
          before = omega arith;
          can_come = λ d. rw (get_or-append states (s ∷ []) d o.parent within) (comes d);
          state = λ d. rw same (get_or-append_seam states s [] d) ∙ made d ∙ ap (λ x. next x o.event) (sym (get_or-append states (s ∷ []) d o.parent within));
        })

-- ---- closed sets

-- a state that is among a list of states is among a longer one
among_more : {S : Type 0} (alike : S → S → Type 0) (old new : List S) (s : S) → Grows old new → IsAmong alike old s → IsAmong alike new s
among_more alike old new s grows h =
    record { other = h.other; there = subst (λ xs. Contains xs h.other) (sym grows.same) (Contains-append_left old grows.more h.other h.there); same = h.same }

-- a state of the older ones is the same one among more states
pub same_older : {S : Type 0} (old new : List S) → Grows old new → (j : ℕ) → j < length old → (d : S) → slice_index_or new j d ≡ slice_index_or old j d
same_older old new grows j h d = ap (λ xs. slice_index_or xs j d) grows.same ∙ get_or-append old grows.more d j h

closed_on : {S : Type 0} (next : S → Event → S) (can : S → Event → Bool) (alike : S → S → Type 0) (old new : List S) (n : ℕ) → n ≤ length old → IsClosed next can alike old n → Grows old new → IsClosed next can alike new n
closed_on next can alike old new n within closed grows k less e comes d =
    let older : k < length old = omega arith in
    rw (same_older old new grows k older d) (among_more alike old new (next (slice_index_or old k d) e) grows (closed k less e (λ c. rw (same_older old new grows k older c) at (comes c)) d))

closed_more : {S : Type 0} (next : S → Event → S) (can : S → Event → Bool) (alike : S → S → Type 0) (old new : List S) (n : ℕ) → n < length old → IsClosed next can alike old n → Grows old new → LeadsInto next can alike old n new → IsClosed next can alike new (n + 1)
closed_more {S} next can alike old new n within closed grows leads k less e comes d = by (split k n less)
  where
    by : (k < n) ⊎ (k ≡ n) → IsAmong alike new (next (slice_index_or new k d) e)
    by (inl h) = closed_on next can alike old new n (omega arith) closed grows k h e comes d
    by (inr h) = rw (h, same_older old new grows n within d) (leads e (λ c. rw (h, same_older old new grows n within c) at (comes c)) d)

-- ---- ways back

-- one event more in front
pub way_back : {S : Type 0} (next : S → Event → S) (can : S → Event → Bool) (states : List S) (back : List Event) (o : Origin) (at place : ℕ) → ComesFrom next can states o at
    → (d : S) → IsWay next can (slice_index_or states at d) (reverse back) (slice_index_or states place d)
    → IsWay next can (slice_index_or states o.parent d) (reverse (back ++ o.event ∷ [])) (slice_index_or states place d)
way_back next can states back o at place from d h =
    rw reverse-append (record {
      can_all = (from.can_come d, subst (λ s. CanAll next can s (reverse back)) (from.state d) h.can_all);
      leads = ap (λ s. fold next s (reverse back)) (sym (from.state d)) ∙ h.leads;
    })

-- ---- one event

pub grows_none : {S : Type 0} (xs : List S) → Grows xs xs
grows_none xs = record { more = []; same = sym (append-nil xs) }

pub grows_on : {S : Type 0} (a b c : List S) → Grows a b → Grows b c → Grows a c
grows_on a b c h i = record { more = h.more ++ i.more; same = i.same ∙ ap (λ xs. xs ++ i.more) h.same ∙ append_assoc a h.more i.more }

pub within_more : {S : Type 0} (old new : List S) (k : ℕ) → Grows old new → k < length old → k < length new
within_more old new k grows h = rw grows.same (omega (arith, length-append old grows.more, h))

pub follows_more : {S : Type 0} (next : S → Event → S) (alike : S → S → Type 0) (old mid new : List S) (k : ℕ) (e : Event) → Grows mid new → Follows next alike old k e mid → Follows next alike old k e new
follows_more next alike old mid new k e grows h d = among_more alike mid new (next (slice_index_or old k d) e) grows (h d)

pub at_older : {S : Type 0} (old mid new : List S) (next : S → Event → S) (alike : S → S → Type 0) (k : ℕ) (e : Event) → Grows old mid → k < length old → Follows next alike mid k e new → Follows next alike old k e new
at_older old mid new next alike k e grows within h d =
    let same : slice_index_or mid k d ≡ slice_index_or old k d = ap (λ xs. slice_index_or xs k d) grows.same ∙ get_or-append old grows.more d k within in
    rw same at (h d)

-- ---- one event after another

-- the first n of these events lead from the state at k to states that are there
pub record Spreads {S : Type 0} (next : S → Event → S) (alike : S → S → Type 0) (old : List S) (k : ℕ) (events : List Event) (n : ℕ) (new : List S) : Type 0 where
  pub there : (j : ℕ) → j < n → (e0 : Event) → Follows next alike old k (slice_index_or events j e0) new

pub spread_more : {S : Type 0} (next : S → Event → S) (alike : S → S → Type 0) (old mid new : List S) (k : ℕ) (events : List Event) (n : ℕ) (e : Event) → k < length old → n < length events → e ≡ slice_index_or events n e
    → Grows old mid → Grows mid new → Follows next alike mid k e new → Spreads next alike old k events n mid → Spreads next alike old k events (n + 1) new
spread_more {S} next alike old mid new k events n e within less is before after h spread = record { there = λ j lj e0. by j e0 (split j n lj) }
  where
    by : (j : ℕ) (e0 : Event) → (j < n) ⊎ (j ≡ n) → Follows next alike old k (slice_index_or events j e0) new
    by j e0 (inl l) = follows_more next alike old mid new k (slice_index_or events j e0) after (spread.there j l e0)
    by j e0 (inr same) =
        let is' : slice_index_or events j e0 ≡ e = rw same (get_or_default events n e0 e less ∙ sym is) in
        rw is' (at_older old mid new next alike k e before within h)

-- all of these events, and one more
pub spread_last : {S : Type 0} (next : S → Event → S) (alike : S → S → Type 0) (old mid new : List S) (k : ℕ) (events : List Event) (e : Event) → k < length old → Grows old mid → Grows mid new → Follows next alike mid k e new
    → Spreads next alike old k events (length events) mid → Spreads next alike old k (events ++ e ∷ []) (length (events ++ e ∷ [])) new
spread_last next alike old mid new k events e within before after h spread =
    rw (length-append events (e ∷ []))
    (spread_more next alike old mid new k (events ++ e ∷ []) (length events) e within (omega (arith, length-append events (e ∷ []))) (sym (get_or-append_seam events e [] e)) before after h
    (record { there = λ j less e0. rw (get_or-append events (e ∷ []) e0 j less) (spread.there j less e0) }))

pub leads : {S : Type 0} (next : S → Event → S) (can : S → Event → Bool) (alike : S → S → Type 0) (old new : List S) (k : ℕ) (events : List Event) (x : S) → k < length old → x ≡ slice_index_or old k x
    → ((e : Event) → can x e ≡ true → Contains events e) → Spreads next alike old k events (length events) new → LeadsInto next can alike old k new
leads next can alike old new k events x within is all spread e comes d =
    let at : slice_index_or old k x ≡ x = sym is in
    let listed = all e (rw at at (comes x)) in
    subst (λ y. IsAmong alike new (next (slice_index_or old k d) y)) listed.2 (spread.there listed.0 listed.1 e d)

-- ---- a search that goes on

pub searched_on : {S : Type 0} (next : S → Event → S) (can : S → Event → Bool) (alike : S → S → Type 0) (last : S → Bool) (old new : List S) (os origins : List Origin) (n : ℕ) → IsSearched next can alike last old os n
    → Grows old new → IsTraced next can last new origins → IsSearched next can alike last new origins n
searched_on next can alike last old new os origins n h grows traced = record {
  some = within_more old new 0 grows h.some;
  traced = traced;
  closed_below = closed_on next can alike old new n h.within h.closed_below grows;
  within = rw grows.same (omega (arith, length-append old grows.more, h.within));
}

pub searched_more : {S : Type 0} (next : S → Event → S) (can : S → Event → Bool) (alike : S → S → Type 0) (last : S → Bool) (old new : List S) (os origins : List Origin) (n : ℕ) → IsSearched next can alike last old os n → n < length old
    → Grows old new → IsTraced next can last new origins → LeadsInto next can alike old n new → IsSearched next can alike last new origins (n + 1)
searched_more next can alike last old new os origins n h less grows traced leads = record {
  some = within_more old new 0 grows h.some;
  traced = traced;
  closed_below = closed_more next can alike old new n less h.closed_below grows leads;
  within = omega (arith, within_more old new n grows less);
}
