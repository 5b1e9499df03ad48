-- What a list of allowed events leads to, one of the states of a search that is over shows, too.
use Rattle.std.proofs.Common.{◌≡◌, ℕ, zero, suc, ◌<◌, ◌≤◌, List, [], ◌∷◌, length, fold, refl, ap, sym, ◌∙◌, arith, Bool, true, false, Option, Some, None, cond, count_by, subst, map, ◌⊎◌, inl, inr}
use Rattle.std.specs.List.{Contains}
use Rattle.std.specs.Prelude.{slice_index_or}
use Rattle.std.proofs.lemmas.List.{get_or_default}
use Rattle.std.proofs.Math.Dec.{ltb}
use Rattle.std.proofs.lemmas.Bool.{ltb-true, eq-eqb}
use Rattle.sts_code.specs.Program.{Program}
use Rattle.sts_model.specs.declared.event.Event.{Event}
use Rattle.sts_model.specs.declared.event.Event.TheVariants as event
use Rattle.sts_model.specs.declared.event.End.{End}
use Rattle.sts_model.specs.declared.event.Fault.{Fault}
use Rattle.sts_model.specs.World.{State, Running, Faulted, task_at}
use Rattle.sts_model.specs.Run.{apply}
use Rattle.sts_plain.specs.Seen.{shown, ended_or_running, is_fault}
use Rattle.laws_names.specs.Names.{Names, AreAlike, named_event}
use Rattle.laws_names.proofs.AlikeLemmas.{same_outcome}
use Rattle.laws_names.proofs.EventLemmas.{alike_run}
use Rattle.laws_names.proofs.NameLemmas.{map_length, sum_map, sum_same}
use Rattle.ends_search.specs.Search.{IsAmong, IsClosed}
use Rattle.ends_plain.specs.declared.config.Config.{Config}
use Rattle.ends_plain.specs.declared.config.Setting.{Setting}
use Rattle.ends_plain.specs.Ends.{IsAllowed, is_interrupt, is_expiry}
use Rattle.ends_plain.specs.declared.config.Asked.{Asked}
use Rattle.ends_plain.specs.Configs.{next, next_kept, can, is_tried, tries, start, IsLike, IsRenamed}
use Rattle.ends_plain.specs.Own.{own_step_of}
use Rattle.ends_plain.proofs.OwnLemmas.{IsRun, run_on}
use Rattle.ends_plain.proofs.SettleLemmas.{fuel_alike, fuel_of, own_leads, own_nearer, settles}
use Rattle.ends_plain.proofs.WayLemmas.{idle, first_of_all, rest_after, rest_without}

-- one of these states shows what this one shows
pub record ShowsIn (states : List Config) (s : State) : Type 0 where
  pub config : Config
  pub there : Contains states config
  pub shows : shown config.position ≡ shown s

-- a search that is over: its states are those of runs, and, unless it is exact, none is a fault
pub record IsOver (a : Asked) (states : List Config) : Type 0 where
  pub begins : Contains states (start a.setting)
  pub closed : IsClosed (next_kept a) (tries a.setting) (IsLike a) states (length states)
  pub runs : (c : Config) → Contains states c → IsRun a.setting.program c.position
  pub calm : a.exact ≡ false → (c : Config) → Contains states c → is_fault c.position ≡ false

-- ---- from one of the states to another

step_in : (a : Asked) (states : List Config) → IsOver a states → (c : Config) → Contains states c → (e : Event) → tries a.setting c e ≡ true → IsAmong (IsLike a) states (next_kept a c e)
step_in a states over c there e tried =
    let at : slice_index_or states there.0 c ≡ c = there.2 in
    subst (λ (x : Config). IsAmong (IsLike a) states (next_kept a x e)) at
    (over.closed there.0 there.1 e (λ d. ap (λ (x : Config). tries a.setting x e) (get_or_default states there.0 d c there.1 ∙ at) ∙ tried) c)

shows_fault : (s : State) (kind : Fault) (t f pc : ℕ) → shown s ≡ shown (Faulted kind t f pc) → is_fault s ≡ true
shows_fault (Faulted k u g qc) kind t f pc e = refl
shows_fault (Running w) kind t f pc e = by (task_at w 0).outcome e
  where
    by : (o : Option End) → ended_or_running o ≡ shown (Faulted kind t f pc) → is_fault (Running w) ≡ true
    by None h = cc
    by (Some end) h = cc

-- states that are alike show the same, unless they are faults
shown_alike : (n : Names) (x y c : State) → AreAlike n x y → is_fault c ≡ false → shown c ≡ shown y → shown c ≡ shown x
shown_alike n (Running w) (Running v) c h calm shows =
    shows ∙ ap ended_or_running (ap (λ (t : ℕ). (task_at v t).outcome) (sym h.named.root) ∙ same_outcome n (task_at w 0) (task_at v (n.tasks 0)) (h.task 0))
shown_alike n (Running w) (Faulted kind t f pc) c h calm shows = absurd h
shown_alike n (Faulted kind t f pc) y c h calm shows =
    let fault : is_fault c ≡ true = shows_fault c kind (n.tasks t) f pc (shows ∙ ap shown h) in
    cc

named_interrupt : (n : Names) (e : Event) → is_interrupt (named_event n e) ≡ is_interrupt e
named_interrupt n (event.Step t) = refl
named_interrupt n (event.Interrupt t) = refl
named_interrupt n (event.Expire s) = refl

named_expiry : (n : Names) (e : Event) → is_expiry (named_event n e) ≡ is_expiry e
named_expiry n (event.Step t) = refl
named_expiry n (event.Interrupt t) = refl
named_expiry n (event.Expire s) = refl

named_counts : (n : Names) (q : Event → Bool) → ((e : Event) → q (named_event n e) ≡ q e) → (es : List Event) → count_by q (map (named_event n) es) ≡ count_by q es
named_counts n q same es =
    let one : Bool → ℕ = λ (b : Bool). cond b 1 0 in
    sum_map (λ e. one (q e)) (named_event n) es ∙ sum_same (λ e. one (q (named_event n e))) (λ e. one (q e)) (λ e. ap one (same e)) es

named_allowed : (may : Bool) (left : ℕ) (n : Names) (es : List Event) → IsAllowed may left es → IsAllowed may left (map (named_event n) es)
named_allowed may left n es h =
    let same : count_by is_interrupt (map (named_event n) es) ≡ count_by is_interrupt es = named_counts n is_interrupt (named_interrupt n) es in
    record { interrupts = let few = h.interrupts in omega (arith, same, few); expiries = λ e. named_counts n is_expiry (named_expiry n) es ∙ h.expiries e }

-- as many events lead from each of the states that has as much fuel to what one of the states shows
abbrev Goes : Asked → List Config → Config → ℕ → Type 0
Goes a states x k = (d : Config) → Contains states d → fuel_of a.setting.program d.position ≡ fuel_of a.setting.program x.position → (es : List Event) → length es ≡ k → IsAllowed a.setting.expiries d.left es
    → ShowsIn states (fold (apply a.setting.program) d.position es)

through : (a : Asked) (states : List Config) → IsOver a states → (x : Config) → IsAmong (IsLike a) states x → (es : List Event) → IsAllowed a.setting.expiries x.left es → Goes a states x (length es)
    → ShowsIn states (fold (apply a.setting.program) x.position es)
through a states over x among es allowed goes = by among.same
  where
    p : Program
    p = a.setting.program

    equal : x ≡ among.other → ShowsIn states (fold (apply p) x.position es)
    equal same =
        subst (λ (c : Config). ShowsIn states (fold (apply p) c.position es)) (sym same)
        (goes among.other among.there (ap (λ (c : Config). fuel_of p c.position) (sym same)) es refl (subst (λ (c : Config). IsAllowed a.setting.expiries c.left es) same allowed))

    renamed : IsRenamed a x among.other → ShowsIn states (fold (apply p) x.position es)
    renamed h =
        let d = among.other in
        let others = map (named_event h.position.names) es in
        let r = goes d among.there (fuel_alike p h.position.names x.position d.position h.position.alike) others (map_length (named_event h.position.names) es)
        (subst (λ (m : ℕ). IsAllowed a.setting.expiries m others) h.left (named_allowed a.setting.expiries x.left h.position.names es allowed)) in
        record {
          config = r.config;
          there = r.there;
          shows = shown_alike h.position.names (fold (apply p) x.position es) (fold (apply p) d.position others) r.config.position
              (alike_run p h.position.quiet h.position.names x.position d.position es h.position.alike) (over.calm h.exact r.config r.there) r.shows;
        }

    by : (x ≡ among.other) ⊎ IsLike a x among.other → ShowsIn states (fold (apply p) x.position es)
    by (inl same) = equal same
    by (inr (inl same)) = equal same
    by (inr (inr h)) = renamed h

-- ---- lists of events, by how long they are and by how many own steps can follow one another

abbrev Shorter : Asked → List Config → ℕ → Type 0
Shorter a states n = (es : List Event) (c : Config) → Contains states c → length es < n → IsAllowed a.setting.expiries c.left es → ShowsIn states (fold (apply a.setting.program) c.position es)

-- those of at most n events too, from states with less fuel
abbrev Nearer : Asked → List Config → ℕ → ℕ → Type 0
Nearer a states n k = (es : List Event) (c : Config) → Contains states c → length es < suc n → fuel_of a.setting.program c.position < k → IsAllowed a.setting.expiries c.left es → ShowsIn states (fold (apply a.setting.program) c.position es)

-- ---- no task has an own step

by_event : (a : Asked) (states : List Config) → IsOver a states → (n : ℕ) → Shorter a states n → (e : Event) (es : List Event) (c : Config) → Contains states c → length (e ∷ es) < suc n → own_step_of a.setting.program c.position ≡ None
    → IsAllowed a.setting.expiries c.left (e ∷ es) → ShowsIn states (fold (apply a.setting.program) (apply a.setting.program c.position e) es)
by_event a states over n shorter e es c there less none h = by (can a.setting c e) refl (omega (arith, less))
  where
    g : Setting
    g = a.setting

    by : (b : Bool) → can g c e ≡ b → length es < n → ShowsIn states (fold (apply g.program) (apply g.program c.position e) es)
    by true is rest =
        let tried : tries g c e ≡ true = ap (λ (o : Option ℕ). is_tried o g c.left c.position e) none ∙ is in
        let l = settles a.own_steps g (next g c e) es (run_on g.program c.position e (over.runs c there)) (rest_after g c.left e es h) in
        let r = through a states over (next_kept a c e) (step_in a states over c there e tried) l.rest l.allowed (λ d in_there same others long may. shorter others d in_there (omega (arith, long, l.short, rest)) may) in
        record { config = r.config; there = r.there; shows = r.shows ∙ l.same }
    by false is rest =
        let same : apply g.program c.position e ≡ c.position = idle g c.left c.position e (first_of_all g c.left e es h) is in
        subst (λ s. ShowsIn states (fold (apply g.program) s es)) (sym same) (shorter es c there rest (rest_without g c.left e es h))

-- ---- some task has one

-- fewer, or as many
either : {X : Type 0} (a b : ℕ) → a ≤ b → (a < b → X) → (a ≤ b → X) → X
either {X} a b most fewer same = by (ltb a b) refl
  where
    by : (x : Bool) → ltb a b ≡ x → X
    by true e = fewer (ltb-true a b e)
    by false e = same most

by_own : (a : Asked) (states : List Config) → IsOver a states → (n k : ℕ) → Shorter a states n → Nearer a states n k → (es : List Event) (c : Config) (t : ℕ) → Contains states c → length es < suc n → fuel_of a.setting.program c.position < suc k
    → own_step_of a.setting.program c.position ≡ Some t → IsAllowed a.setting.expiries c.left es → ShowsIn states (fold (apply a.setting.program) c.position es)
by_own a states over n k shorter nearer es c t in_there less little is h =
    let g = a.setting in
    let there : Config = next g c (event.Step t) in
    let run = over.runs c in_there in
    let one = own_leads g c es t run is h in
    let more = settles a.own_steps g there one.rest (run_on g.program c.position (event.Step t) run) one.allowed in
    let fewer = own_nearer g c t is in
    let near : fuel_of g.program (next_kept a c (event.Step t)).position < k = omega (arith, more.fuels, fewer, little) in
    let tried : tries g c (event.Step t) ≡ true = ap (λ (x : Option ℕ). is_tried x g c.left c.position (event.Step t)) is ∙ eq-eqb t t refl in
    let r = through a states over (next_kept a c (event.Step t)) (step_in a states over c in_there (event.Step t) tried) more.rest more.allowed
    (λ d in_d fuels others long may. either (length others) (length es) (omega (arith, more.short, one.short, long)) (λ fewer. shorter others d in_d (omega (arith, fewer, less)) may)
    (λ most. nearer others d in_d (omega (arith, most, less)) (omega (arith, fuels, near)) may)) in
    record { config = r.config; there = r.there; shows = r.shows ∙ more.same ∙ one.same }

-- ---- so what each list that is allowed leads to is shown by one of the states

by_fuel : (a : Asked) (states : List Config) → IsOver a states → (n : ℕ) → Shorter a states n → (k : ℕ) → Nearer a states n k
by_fuel a states over n shorter zero es c there less little h = absurd (omega (arith, little))
by_fuel a states over n shorter (suc k) [] c there less little h = record { config = c; there = there; shows = refl }
by_fuel a states over n shorter (suc k) (e ∷ es) c there less little h = by (own_step_of a.setting.program c.position) refl (by_fuel a states over n shorter k)
  where
    by : (o : Option ℕ) → own_step_of a.setting.program c.position ≡ o → Nearer a states n k → ShowsIn states (fold (apply a.setting.program) c.position (e ∷ es))
    by None is nearer = by_event a states over n shorter e es c there less is h
    by (Some t) is nearer = by_own a states over n k shorter nearer (e ∷ es) c t there less little is h

by_length : (a : Asked) (states : List Config) → IsOver a states → (n : ℕ) → Shorter a states n
by_length a states over zero es c there less h = absurd (omega (arith, less))
by_length a states over (suc n) es c there less h = by_fuel a states over n (by_length a states over n) (suc (fuel_of a.setting.program c.position)) es c there less (omega arith) h

pub shows_all : (a : Asked) (states : List Config) → IsOver a states → (events : List Event) → IsAllowed a.setting.expiries a.setting.interrupts events → ShowsIn states (fold (apply a.setting.program) (start a.setting).position events)
shows_all a states over events h = by_length a states over (suc (length events)) events (start a.setting) over.begins (omega arith) h
