-- Own steps that are taken in one go. After them no more events than before lead to a state that
-- shows the same.
use Rattle.std.proofs.Common.{◌≡◌, ℕ, zero, suc, ◌<◌, ◌≤◌, ◌+◌, List, [], ◌∷◌, ◌++◌, length, fold, refl, ap, sym, ◌∙◌, arith, Bool, true, false, Option, Some, None, find, cond, count_by, subst, append_assoc}
use Rattle.std.proofs.lemmas.List.{append-nil}
use Rattle.std.specs.List.{range_with_len}
use Rattle.std.proofs.lemmas.Bool.{eq-eqb}
use Rattle.sts_code.specs.Program.{Program}
use Rattle.sts_model.specs.declared.event.Event.{Event}
use Rattle.sts_model.specs.declared.event.Event.TheVariants as event
use Rattle.sts_model.specs.declared.record.Task.{Task}
use Rattle.sts_model.specs.World.{World, State, Running, Faulted, with_frame}
use Rattle.sts_model.specs.Run.{apply, step}
use Rattle.sts_plain.specs.Seen.{shown, ended_or_running}
use Rattle.laws_names.specs.Names.{Names, AreAlike}
use Rattle.ends_search.specs.Search.{IsWay}
use Rattle.ends_plain.specs.declared.config.Asked.{Asked}
use Rattle.ends_plain.specs.declared.config.Config.{Config}
use Rattle.ends_plain.specs.declared.config.Setting.{Setting}
use Rattle.ends_plain.specs.Ends.{IsAllowed, is_interrupt, is_expiry}
use Rattle.ends_plain.specs.Configs.{next, can, can_come, is_tried, next_kept, own_events, settled, step_first, tries}
use Rattle.ends_plain.specs.Own.{has_own_step, own_step_of}
use Rattle.ends_plain.proofs.ApartLemmas.{value_apart}
use Rattle.ends_plain.proofs.OwnLemmas.{own_step, goes_on, IsRun, run_on}
use Rattle.ends_plain.proofs.EarlierLemmas.{IsOutward, is_step, without, without_shorter, without_counts, shows_same, fuel, fuel_less, fuel_same}
use Rattle.ends_plain.proofs.WayLemmas.{way_more}

-- ---- the own step that is tried

found_passes : (test : ℕ → Bool) (a n t : ℕ) → find test (range_with_len a n) ≡ Some t → test t ≡ true
found_passes test a zero t e = cc
found_passes test a (suc n) t e = by (test a) refl e (λ h. found_passes test (a + 1) n t h)
  where
    by : (b : Bool) → test a ≡ b → cond b (Some a) (find test (range_with_len (a + 1) n)) ≡ Some t → (find test (range_with_len (a + 1) n) ≡ Some t → test t ≡ true) → test t ≡ true
    by true is h rest = let same : a ≡ t = cc in ap test (sym same) ∙ is
    by false is h rest = rest h

-- a state in which this task has an own step
record Owns (p : Program) (s : State) (t : ℕ) : Type 0 where
  pub world : World
  pub runs : s ≡ Running world
  pub own : has_own_step p world t ≡ true

owns : (p : Program) (s : State) (t : ℕ) → own_step_of p s ≡ Some t → Owns p s t
owns p (Faulted kind u f pc) t e = cc
owns p (Running w) t e = record { world = w; runs = refl; own = found_passes (has_own_step p w) 0 (length w.tasks) t e }

-- what is tried can come
pub tried_can : (g : Setting) (left : ℕ) (s : State) (e : Event) (o : Option ℕ) → own_step_of g.program s ≡ o → is_tried o g left s e ≡ true → can_come g left s e ≡ true
tried_can g left s e None is h = h
tried_can g left s e (Some t) is h =
    let o = owns g.program s t is in
    ap (λ (x : Event). can_come g left s x) (is_step t e h)
    ∙ ap (λ (x : State). can_come g left x (event.Step t)) o.runs
    ∙ (own_step g.program o.world t o.own).can

-- ---- what is shown

shown_outward : IsOutward shown
shown_outward = record { blind = λ w t g. value_apart (λ (x : Task). ended_or_running x.outcome) w t g 0 (λ x. refl) }

pub fuel_of : Program → State → ℕ
fuel_of p (Running w) = fuel p w
fuel_of p (Faulted kind t f pc) = 0

pub fuel_alike : (p : Program) (n : Names) (x y : State) → AreAlike n x y → fuel_of p y ≡ fuel_of p x
unfolding fuel_of
fuel_alike p n (Running w) (Running v) h = fuel_same p n w v h
fuel_alike p n (Running w) (Faulted kind t f pc) h = absurd h
fuel_alike p n (Faulted kind t f pc) y h = ap (fuel_of p) h

-- ---- an own step

allowed_without : (g : Setting) (left t : ℕ) (es : List Event) → IsAllowed g.expiries left es → IsAllowed g.expiries left (without t es)
allowed_without g left t es h =
    let same : count_by is_interrupt (without t es) ≡ count_by is_interrupt es = without_counts is_interrupt t refl es in
    record { interrupts = let few = h.interrupts in omega (arith, same, few); expiries = λ e. without_counts is_expiry t refl es ∙ h.expiries e }

-- from y no more events than these lead to a state that shows what they show from x
pub record Leads (g : Setting) (x y : Config) (es : List Event) : Type 0 where
  pub rest : List Event
  pub short : length rest ≤ length es
  pub allowed : IsAllowed g.expiries y.left rest
  pub same : shown (fold (apply g.program) y.position rest) ≡ shown (fold (apply g.program) x.position es)
  pub fuels : fuel_of g.program y.position ≤ fuel_of g.program x.position

leads_self : (g : Setting) (c : Config) (es : List Event) → IsAllowed g.expiries c.left es → Leads g c c es
leads_self g c es h = record { rest = es; short = omega arith; allowed = h; same = refl; fuels = omega arith }

leads_on : (g : Setting) (x y z : Config) (es : List Event) → (l : Leads g x y es) → Leads g y z l.rest → Leads g x z es
leads_on g x y z es l m = record {
  rest = m.rest;
  short = omega (arith, l.short, m.short);
  allowed = m.allowed;
  same = m.same ∙ l.same;
  fuels = omega (arith, l.fuels, m.fuels);
}

pub own_nearer : (g : Setting) (c : Config) (t : ℕ) → own_step_of g.program c.position ≡ Some t → fuel_of g.program (next g c (event.Step t)).position < fuel_of g.program c.position
unfolding fuel_of
own_nearer g c t is =
    let p = g.program in
    let o : Owns p c.position t = owns p c.position t is in
    let own = own_step p o.world t o.own in
    let there : Config = next g c (event.Step t) in
    let at_there : there.position ≡ step p o.world t = ap (λ (s : State). apply p s (event.Step t)) o.runs in
    let here : fuel_of p c.position ≡ fuel p o.world = ap (fuel_of p) o.runs in
    let after : fuel_of p there.position ≡ fuel p (with_frame o.world t (goes_on p o.world t)) = ap (fuel_of p) (at_there ∙ own.leads) in
    let fuelled : fuel p (with_frame o.world t (goes_on p o.world t)) < fuel p o.world = fuel_less p o.world t own in
    omega (arith, here, after, fuelled)

pub own_leads : (g : Setting) (c : Config) (es : List Event) (t : ℕ) → IsRun g.program c.position → own_step_of g.program c.position ≡ Some t → IsAllowed g.expiries c.left es → Leads g c (next g c (event.Step t)) es
own_leads g c es t run is h =
    let p = g.program in
    let o : Owns p c.position t = owns p c.position t is in
    let there : Config = next g c (event.Step t) in
    let at_there : there.position ≡ step p o.world t = ap (λ (s : State). apply p s (event.Step t)) o.runs in
    let nearer = own_nearer g c t is in
    record {
      rest = without t es;
      short = without_shorter t es;
      allowed = allowed_without g c.left t es h;
      same = ap (λ (s : State). shown (fold (apply p) s (without t es))) at_there
          ∙ shows_same shown shown_outward p es o.world t (subst (λ (s : State). IsRun p s) o.runs run) o.own
          ∙ ap (λ (s : State). shown (fold (apply p) s es)) (sym o.runs);
      fuels = omega (arith, nearer);
    }

-- ---- own steps in one go

pub settles : (n : ℕ) (g : Setting) (c : Config) (es : List Event) → IsRun g.program c.position → IsAllowed g.expiries c.left es → Leads g c (settled n g c) es
settles zero g c es run h = leads_self g c es h
settles (suc n) g c es run h = by (λ d rest on may. settles n g d rest on may) (own_step_of g.program c.position) refl
  where
    by : ((d : Config) (rest : List Event) → IsRun g.program d.position → IsAllowed g.expiries d.left rest → Leads g d (settled n g d) rest) → (o : Option ℕ) → own_step_of g.program c.position ≡ o → Leads g c (fold (next g) c (step_first o (λ t. own_events n g (next g c (event.Step t))))) es
    by more None is = leads_self g c es h
    by more (Some t) is =
        let there : Config = next g c (event.Step t) in
        let l = own_leads g c es t run is h in
        leads_on g c there (settled n g there) es l (more there l.rest (run_on g.program c.position (event.Step t) run) l.allowed)

run_all : (g : Setting) (c : Config) (es : List Event) → IsRun g.program c.position → IsRun g.program (fold (next g) c es).position
run_all g c [] run = run
run_all g c (e ∷ es) run = run_all g (next g c e) es (run_on g.program c.position e run)

pub run_kept : (a : Asked) (c : Config) (e : Event) → IsRun a.setting.program c.position → IsRun a.setting.program (next_kept a c e).position
run_kept a c e run = run_all a.setting (next a.setting c e) (own_events a.own_steps a.setting (next a.setting c e)) (run_on a.setting.program c.position e run)

-- a way, and the own steps that follow
pub way_settled : (n : ℕ) (g : Setting) (first c : Config) (es : List Event) → IsWay (next g) (can g) first es c → IsWay (next g) (can g) first (es ++ own_events n g c) (settled n g c)
way_settled zero g first c es way = rw (append-nil es) way
way_settled (suc n) g first c es way = by (λ d fs on. way_settled n g first d fs on) (own_step_of g.program c.position) refl
  where
    by : ((d : Config) (fs : List Event) → IsWay (next g) (can g) first fs d → IsWay (next g) (can g) first (fs ++ own_events n g d) (settled n g d)) → (o : Option ℕ) → own_step_of g.program c.position ≡ o → IsWay (next g) (can g) first (es ++ step_first o (λ t. own_events n g (next g c (event.Step t)))) (fold (next g) c (step_first o (λ t. own_events n g (next g c (event.Step t)))))
    by more None is = rw (append-nil es) way
    by more (Some t) is =
        let there : Config = next g c (event.Step t) in
        let comes : can g c (event.Step t) ≡ true = tried_can g c.left c.position (event.Step t) (Some t) is (eq-eqb t t refl) in
        subst (λ (xs : List Event). IsWay (next g) (can g) first xs (settled n g there)) (append_assoc es (event.Step t ∷ []) (own_events n g there))
        (more there (es ++ event.Step t ∷ []) (way_more g first c es (event.Step t) way comes))

-- one event more of a way from state to state of a search
pub way_kept : (a : Asked) (first c r : Config) (left es : List Event) (e : Event) → IsWay (next_kept a) (tries a.setting) c (e ∷ left) r → IsWay (next a.setting) (can a.setting) first es c
    → IsWay (next_kept a) (tries a.setting) (next_kept a c e) left r × IsWay (next a.setting) (can a.setting) first ((es ++ e ∷ []) ++ own_events a.own_steps a.setting (next a.setting c e)) (next_kept a c e)
way_kept a first c r left es e ahead way =
    let g = a.setting in
    let comes : can g c e ≡ true = tried_can g c.left c.position e (own_step_of g.program c.position) refl ahead.can_all.0 in (
      record { can_all = ahead.can_all.1; leads = ahead.leads },
      way_settled a.own_steps g first (next g c e) (es ++ e ∷ []) (way_more g first c es e way comes),
    )

-- one step after the other

pub own_none : (n : ℕ) (g : Setting) (c : Config) → own_step_of g.program c.position ≡ None → own_events n g c ≡ []
own_none zero g c is = refl
own_none (suc n) g c is = ap (λ (o : Option ℕ). step_first o (λ t. own_events n g (next g c (event.Step t)))) is

pub own_some : (n m : ℕ) (g : Setting) (c : Config) (t : ℕ) → n ≡ suc m → own_step_of g.program c.position ≡ Some t → own_events n g c ≡ event.Step t ∷ own_events m g (next g c (event.Step t))
own_some n m g c t one is = ap (λ (k : ℕ). own_events k g c) one ∙ ap (λ (o : Option ℕ). step_first o (λ u. own_events m g (next g c (event.Step u)))) is

pub settled_none : (n : ℕ) (g : Setting) (c : Config) → own_step_of g.program c.position ≡ None → settled n g c ≡ c
settled_none n g c is = ap (λ (es : List Event). fold (next g) c es) (own_none n g c is)

pub settled_some : (n m : ℕ) (g : Setting) (c : Config) (t : ℕ) → n ≡ suc m → own_step_of g.program c.position ≡ Some t → settled m g (next g c (event.Step t)) ≡ settled n g c
settled_some n m g c t one is = sym (ap (λ (es : List Event). fold (next g) c es) (own_some n m g c t one is))
