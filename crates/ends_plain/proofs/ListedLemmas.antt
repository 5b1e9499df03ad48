-- The ends that a search lists: each is an end, and if the search is closed, each end is listed.
use Rattle.std.proofs.Common.{◌≡◌, ℕ, zero, suc, ◌+◌, ◌<◌, ◌⊎◌, List, [], ◌∷◌, ◌++◌, length, refl, ap, sym, ◌∙◌, arith, inl, inr, subst, Bool, true, false, not}
use Rattle.std.specs.Prelude.{slice_index_or, Option}
use Rattle.std.specs.List.{Contains, list_any}
use Rattle.std.proofs.lemmas.Bool.{or_parts}
use Rattle.std.proofs.lemmas.List.{get_or_default, map-append}
use Rattle.std.proofs.lemmas.List.Elements.{Contains-append_left, Contains-append_right}
use Rattle.sts_model.specs.Run.{after}
use Rattle.sts_plain.specs.declared.misstep.PlainState.{PlainState}
use Rattle.sts_model.specs.World.{State, Running, Faulted}
use Rattle.sts_plain.specs.Seen.{shown, is_fault}
use Rattle.ends_search.specs.Search.{IsWay, IsTraced, IsClosed, origin_at, states_of}
use Rattle.ends_search.proofs.StateLemmas.{begins_so}
use Rattle.ends_search.specs.declared.origin.Origin.{Origin}
use Rattle.ends_plain.specs.declared.config.Asked.{Asked}
use Rattle.ends_plain.specs.declared.config.Config.{Config}
use Rattle.ends_plain.specs.declared.config.Found.{Found}
use Rattle.ends_plain.specs.declared.config.Setting.{Setting}
use Rattle.ends_plain.specs.Configs.{next, next_kept, can, tries, start, is_last, IsLike}
use Rattle.ends_plain.specs.Explored.{IsExplored}
use Rattle.ends_plain.specs.Ends.{is_end, AreAll}
use Rattle.ends_plain.specs.Listed.{is_fault_end, is_faulty, ends_of, AreShown, AreEnds, HasShown, IsEndOf, IsShownBy}
use Rattle.ends_plain.proofs.EventLemmas.{split, each_push}
use Rattle.ends_plain.proofs.WayLemmas.{position_after, allowed}
use Rattle.ends_plain.proofs.OwnLemmas.{IsRun}
use Rattle.ends_plain.proofs.SettleLemmas.{run_kept}
use Rattle.ends_plain.proofs.ReachLemmas.{IsOver, shows_all}

pub shown_more : (g : Setting) (first : Config) (found : List Found) (f : Found) → AreShown g first found → IsShownBy g first f → AreShown g first (found ++ f ∷ [])
shown_more g first found f all here = each_push (IsShownBy g first) found f all here

-- the state at k, whatever is read past the end
at_same : (states : List Config) (k : ℕ) (x d : Config) → k < length states → x ≡ slice_index_or states k x → slice_index_or states k d ≡ x
at_same states k x d less is = get_or_default states k d x less ∙ sym is

pub shown_here : (g : Setting) (first x y : Config) (f : Found) → IsWay (next g) (can g) first f.trace y → x ≡ y → f.end ≡ shown x.position → is_end f.end ≡ true → IsShownBy g first f
shown_here g first x y f way is shows ends = record {
  config = x;
  way = subst (λ z. IsWay (next g) (can g) first f.trace z) (sym is) way;
  shows = sym shows;
  ends = ends;
}

-- one state more; if it is an end, the end is there
pub has_more : (states : List Config) (k : ℕ) (x : Config) (ends more : List PlainState) → k < length states → x ≡ slice_index_or states k x → HasShown states k ends
    → (is_end (shown x.position) ≡ true → Contains (ends ++ more) (shown x.position)) → HasShown states (k + 1) (ends ++ more)
has_more states k x ends more within is all here j d less e = by (split j k less)
  where
    by : (j < k) ⊎ (j ≡ k) → Contains (ends ++ more) (shown (slice_index_or states j d).position)
    by (inl l) = Contains-append_left ends more (shown (slice_index_or states j d).position) (all j d l e)
    by (inr same) =
        let at : slice_index_or states j d ≡ x = rw same (at_same states k x d within is) in
        rw at (here (rw at at e))

pub has_pushed : (states : List Config) (k : ℕ) (x : Config) (found : List Found) (f : Found) → k < length states → x ≡ slice_index_or states k x → HasShown states k (ends_of found)
    → f.end ≡ shown x.position → HasShown states (k + 1) (ends_of (found ++ f ∷ []))
has_pushed states k x found f within is all shows =
    let last : Contains (ends_of found ++ f.end ∷ []) (shown x.position) = rw (← shows) (Contains-append_right (ends_of found) (f.end ∷ []) f.end (0, omega arith, refl)) in
    subst (λ xs. HasShown states (k + 1) xs) (sym (map-append (λ (f : Found). f.end) found (f ∷ []))) (has_more states k x (ends_of found) (f.end ∷ []) within is all (λ e. last))

pub has_skipped : (states : List Config) (k : ℕ) (x : Config) (ends : List PlainState) → k < length states → x ≡ slice_index_or states k x → HasShown states k ends
    → (is_end (shown x.position) ≡ true → Contains ends (shown x.position)) → HasShown states (k + 1) ends
has_skipped states k x ends within is all here j d less e = by (split j k less)
  where
    by : (j < k) ⊎ (j ≡ k) → Contains ends (shown (slice_index_or states j d).position)
    by (inl l) = all j d l e
    by (inr same) =
        let at : slice_index_or states j d ≡ x = rw same (at_same states k x d within is) in
        rw at (here (rw at at e))

-- ---- an end of a way

-- a way of coming events that leads to an end
pub end_of_way : (g : Setting) (config : Config) (f : Found) → IsWay (next g) (can g) (start g) f.trace config → shown config.position ≡ f.end → is_end f.end ≡ true → IsEndOf g f
end_of_way g config f way shows ends =
    let at : config.position ≡ after g.program f.trace = ap (λ (x : Config). x.position) (sym way.leads) ∙ position_after g (start g) f.trace in
    record {
      allowed = allowed g (start g) f.trace way.can_all;
      comes = ap shown (sym at) ∙ shows;
      ends = ends;
    }

pub ends_more : (g : Setting) (found : List Found) (f : Found) → AreEnds g found → IsEndOf g f → AreEnds g (found ++ f ∷ [])
ends_more g found f all here = each_push (IsEndOf g) found f all here

-- ---- the two clauses

-- what a trace from the start shows is an end
pub end_of_trace : (g : Setting) (first : Config) (f : Found) → first ≡ start g → IsShownBy g first f → IsEndOf g f
end_of_trace g first f begins here =
    let way : IsWay (next g) (can g) (start g) f.trace here.config = subst (λ x. IsWay (next g) (can g) x f.trace here.config) begins here.way in
    end_of_way g here.config f way here.shows here.ends

pub sound : (g : Setting) (first : Config) (found : List Found) → first ≡ start g → AreShown g first found → AreEnds g found
sound g first found begins all f c = end_of_trace g first f begins (all f c)

-- the states of a search are those of runs
runs_below : (a : Asked) (states : List Config) (origins : List Origin) → IsTraced (next_kept a) (tries a.setting) is_last states origins → ((d : Config) → slice_index_or states 0 d ≡ start a.setting) → (n k : ℕ) → k < n → k < length states → (d : Config)
    → IsRun a.setting.program (slice_index_or states k d).position
runs_below a states origins traced first zero k less within d = absurd (omega (arith, less))
runs_below a states origins traced first (suc n) zero less within d = rw (first d) (record { events = []; leads = refl })
runs_below a states origins traced first (suc n) (suc k) less within d =
    let from = traced.later (suc k) (omega arith) within in
    let o = origin_at origins (suc k) in
    let before = from.before in
    let older : IsRun a.setting.program (slice_index_or states o.parent d).position = runs_below a states origins traced first n o.parent (omega (arith, before, less)) (omega (arith, before, within)) d in
    rw (from.state d) (run_kept a (slice_index_or states o.parent d) o.event older)

pub states_run : (a : Asked) (states : List Config) (origins : List Origin) → IsTraced (next_kept a) (tries a.setting) is_last states origins → ((d : Config) → slice_index_or states 0 d ≡ start a.setting) → (c : Config) → Contains states c → IsRun a.setting.program c.position
states_run a states origins traced first c there =
    subst (λ (x : Config). IsRun a.setting.program x.position) there.2 (runs_below a states origins traced first (length states) there.0 there.1 there.1 c)

-- no end that is listed is a fault, so no state is one
pub no_fault : (states : List Config) (ends : List PlainState) → HasShown states (length states) ends → ((end : PlainState) → Contains ends end → is_fault_end end ≡ false) → (c : Config) → Contains states c → is_fault c.position ≡ false
no_fault states ends has none c there = by c.position (λ e. rw there.2 at (has there.0 c there.1 (rw there.2 e)))
  where
    by : (s : State) → (is_end (shown s) ≡ true → Contains ends (shown s)) → is_fault s ≡ false
    by (Running w) h = refl
    by (Faulted kind t f pc) h = let fault = none (shown (Faulted kind t f pc)) (h refl) in cc

none_faulty : (found : List Found) → list_any is_faulty found ≡ false → (k : ℕ) (end : PlainState) → k < length (ends_of found) → slice_index_or (ends_of found) k end ≡ end → is_fault_end end ≡ false
none_faulty [] none k end less at = absurd (omega (arith, less))
none_faulty (f ∷ fs) none zero end less at = ap is_fault_end (sym at) ∙ (or_parts (is_faulty f) (list_any is_faulty fs) none).0
none_faulty (f ∷ fs) none (suc k) end less at = none_faulty fs (or_parts (is_faulty f) (list_any is_faulty fs) none).1 k end (omega (arith, less)) at

pub none_of : (found list : List Found) (some : Bool) → list ≡ found → some ≡ list_any is_faulty list → not some ≡ true → list_any is_faulty found ≡ false
none_of found list true same is e = cc
none_of found list false same is e = ap (list_any is_faulty) (sym same) ∙ sym is

complete : (a : Asked) (states : List Config) (ends : List PlainState) → IsOver a states → HasShown states (length states) ends → AreAll a.setting.program a.setting.expiries a.setting.interrupts ends
complete a states ends over has events end h =
    let r = shows_all a states over events h.allowed in
    let there = r.there in
    let at : slice_index_or states there.0 r.config ≡ r.config = there.2 in
    let shows : shown (slice_index_or states there.0 r.config).position ≡ end = ap (λ (y : Config). shown y.position) at ∙ r.shows ∙ h.comes in
    let ends_there : is_end (shown (slice_index_or states there.0 r.config).position) ≡ true = rw shows h.ends in
    rw shows at (has there.0 r.config there.1 ends_there)

-- a search that is over lists all ends, unless it isn't exact and lists a fault
pub all_listed : (a : Asked) (first : Config) (origins : List Origin) (closed : ℕ) (kept : List Config) (marks : List (Option ℕ)) (found : List Found) → IsExplored a first origins closed kept marks → closed ≡ length origins
    → HasShown (states_of (next_kept a) first origins) (length origins) (ends_of found) → (a.exact ≡ false → list_any is_faulty found ≡ false) → AreAll a.setting.program a.setting.expiries a.setting.interrupts (ends_of found)
all_listed a first origins closed kept marks found x over has calm =
    let g = a.setting in
    let states = states_of (next_kept a) first origins in
    let s = x.space.searched in
    let as_many : length origins ≡ length states = s.traced.as_many in
    let shown_ones : HasShown states (length states) (ends_of found) = subst (λ (n : ℕ). HasShown states n (ends_of found)) as_many has in
    let begins = begins_so (next_kept a) first origins s.some in
    let at_start : (d : Config) → slice_index_or states 0 d ≡ start g = λ (d : Config). begins.first d ∙ x.begins in
    let whole : IsOver a states = record {
      begins = (0, begins.some, at_start (start g));
      closed = subst (λ (n : ℕ). IsClosed (next_kept a) (tries g) (IsLike a) states n) (over ∙ as_many) s.closed_below;
      runs = states_run a states origins s.traced at_start;
      calm = λ loose. no_fault states (ends_of found) shown_ones (λ end c. none_faulty found (calm loose) c.0 end c.1 c.2);
    } in
    complete a states (ends_of found) whole shown_ones
