-- Under `any`, which subtask failed first.
use Rattle.std.proofs.Common.{◌≡◌, ℕ, zero, suc, ◌+◌, ◌≤◌, List, [], ◌∷◌, ◌++◌, Bool, true, false, Option, Some, None}
use Rattle.std.proofs.Common.{refl, sym, ◌∙◌, ap, subst, arith, set, cond, not}
use Rattle.std.specs.Prelude.{ℤ, ◌==◌, slice_get, find, option_map, count_by}
use Rattle.std.proofs.lemmas.Bool.Decides.{nat_tests}
use Rattle.std.proofs.lemmas.List.Sums.{sum_by-cons}
use Rattle.std.proofs.lemmas.Option.{same_Some}
use Rattle.sts_model.specs.declared.event.End.{End}
use Rattle.sts_model.specs.declared.event.End.TheVariants.{Failed}
use Rattle.sts_model.specs.declared.record.Completion.{Completion}
use Rattle.sts_model.specs.declared.record.Scope.{Scope}
use Rattle.sts_model.specs.World.{World, scope_at}
use Rattle.sts_model.specs.Living.{completion_of, ends_of}
use Rattle.sts_model.specs.Joining.{is_failure}
use Rattle.laws_runs.proofs.EventLemmas.{Right}
use Rattle.laws_calls.specs.Tasks.{AllTwo, Part, Knowledge, Unseen}
use Rattle.laws_calls.specs.Steps.{missed}
use Rattle.laws_calls.specs.Covers.{subs, AllEarly, InOrder, FailedFirst, first_failed}
use Rattle.laws_calls.proofs.Lists.{all_at, among_get, get_front}
use Rattle.laws_calls.proofs.Told.{Test, EndOf, counted, rest_once}
use Rattle.laws_calls.proofs.Turns.{sub_listed}

abbrev TaskOf : Option Completion → Option ℕ
TaskOf o = option_map (λ (c : Completion). c.task) o

abbrev Fails : Completion → Bool
Fails c = is_failure c.end

-- ---- completions

-- the first failure of the ends is that of the task that failed first
pub first_of : (cs : List Completion) → ((u : ℕ) → count_by (Test u) cs ≤ 1) → (e : End) → find is_failure (ends_of cs) ≡ Some e → (d : ℕ) × ((first_failed cs ≡ Some d) × (completion_of cs d ≡ Some e))
first_of [] once e h = cc
first_of (c ∷ cs) once e h = by (is_failure c.end) refl h (λ k. first_of cs (rest_once c cs once) e k)
  where
    here : c.end ≡ e → is_failure c.end ≡ true → (d : ℕ) × ((first_failed (c ∷ cs) ≡ Some d) × (completion_of (c ∷ cs) d ≡ Some e))
    here same fails =
        let self : (c.task == c.task) ≡ true = grind (arith, nat_tests) in
        (c.task, (ap (λ b. TaskOf (cond b (Some c) (find Fails cs))) fails, ap (λ b. EndOf (cond b (Some c) (find (Test c.task) cs))) self ∙ ap Some same))

    later : is_failure c.end ≡ false → (d : ℕ) × ((first_failed cs ≡ Some d) × (completion_of cs d ≡ Some e)) → (d : ℕ) × ((first_failed (c ∷ cs) ≡ Some d) × (completion_of (c ∷ cs) d ≡ Some e))
    later fine r = (r.0, (ap (λ b. TaskOf (cond b (Some c) (find Fails cs))) fine ∙ r.1.0, by2 (c.task == r.0) (sum_by-cons (λ (x : Completion). cond (Test r.0 x) 1 0) c cs)))
      where
        by2 : (b : Bool) → count_by (Test r.0) (c ∷ cs) ≡ cond b 1 0 + count_by (Test r.0) cs → EndOf (cond b (Some c) (find (Test r.0) cs)) ≡ Some e
        by2 true n = let o = once r.0 in let more = counted cs r.0 e r.1.1 in absurd (omega (arith, n, o, more))
        by2 false n = r.1.1

    by : (b : Bool) → is_failure c.end ≡ b → cond b (Some c.end) (find is_failure (ends_of cs)) ≡ Some e → (find is_failure (ends_of cs) ≡ Some e → (d : ℕ) × ((first_failed cs ≡ Some d) × (completion_of cs d ≡ Some e))) → (d : ℕ) × ((first_failed (c ∷ cs) ≡ Some d) × (completion_of (c ∷ cs) d ≡ Some e))
    by true fails k next = here (same_Some c.end e k) fails
    by false fine k next = later fine (next k)

-- the task that failed first has a completion
first_has : (cs : List Completion) (d : ℕ) → first_failed cs ≡ Some d → (e : End) × (completion_of cs d ≡ Some e)
first_has [] d h = cc
first_has (c ∷ cs) d h = by (is_failure c.end) h (first_has cs d)
  where
    mine : c.task ≡ d → completion_of (c ∷ cs) d ≡ Some c.end
    mine same = let is : (c.task == d) ≡ true = grind (arith, nat_tests) in ap (λ b. EndOf (cond b (Some c) (find (Test d) cs))) is

    other : (e : End) × (completion_of cs d ≡ Some e) → (b : Bool) → (e : End) × (EndOf (cond b (Some c) (find (Test d) cs)) ≡ Some e)
    other r true = (c.end, refl)
    other r false = r

    some_task : Some c.task ≡ Some d → c.task ≡ d
    some_task k = cc

    by : (b : Bool) → TaskOf (cond b (Some c) (find Fails cs)) ≡ Some d → (first_failed cs ≡ Some d → (e : End) × (completion_of cs d ≡ Some e)) → (e : End) × (completion_of (c ∷ cs) d ≡ Some e)
    by true k next = (c.end, mine (some_task k))
    by false k next = other (next k) (c.task == d)

none_failed : (cs : List Completion) (u : ℕ) (e : End) → first_failed cs ≡ None → completion_of cs u ≡ Some e → is_failure e ≡ false
none_failed [] u e none h = cc
none_failed (c ∷ cs) u e none h = by (is_failure c.end) refl none (c.task == u) h (λ k k2. none_failed cs u e k k2)
  where
    by : (a : Bool) → is_failure c.end ≡ a → TaskOf (cond a (Some c) (find Fails cs)) ≡ None → (b : Bool) → EndOf (cond b (Some c) (find (Test u) cs)) ≡ Some e → (first_failed cs ≡ None → completion_of cs u ≡ Some e → is_failure e ≡ false) → is_failure e ≡ false
    by true fails k b k2 next = cc
    by false fine k true k2 next = let same : c.end ≡ e = cc in subst (λ z. is_failure z ≡ false) same fine
    by false fine k false k2 next = next k k2

pub first_front : (cs more : List Completion) (d : ℕ) → first_failed cs ≡ Some d → first_failed (cs ++ more) ≡ Some d
first_front [] more d h = cc
first_front (c ∷ cs) more d h = by (is_failure c.end) h (first_front cs more d)
  where
    by : (b : Bool) → TaskOf (cond b (Some c) (find Fails cs)) ≡ Some d → (first_failed cs ≡ Some d → first_failed (cs ++ more) ≡ Some d) → TaskOf (cond b (Some c) (find Fails (cs ++ more))) ≡ Some d
    by true k next = k
    by false k next = next k

-- ---- parts

pub early_get : (parts : List Part) (i : ℕ) (part : Part) → AllEarly parts → slice_get parts i ≡ Some part → part.is_early ≡ true
early_get [] i part all h = cc
early_get (x ∷ parts) zero part all h = let same : x ≡ part = cc in subst (λ (z : Part). z.is_early ≡ true) same all.0
early_get (x ∷ parts) (suc i) part all h = early_get parts i part all.1 h

early_set : (parts : List Part) (i : ℕ) (old new : Part) → AllEarly parts → slice_get parts i ≡ Some old → new.is_early ≡ old.is_early → AllEarly (set parts i new)
early_set [] i old new all h same = cc
early_set (x ∷ parts) zero old new all h same = (same ∙ early_get (x ∷ parts) zero old all h, all.1)
early_set (x ∷ parts) (suc i) old new all h same = (all.0, early_set parts i old new all.1 h same)

early_more : (parts : List Part) (new : Part) → AllEarly parts → new.is_early ≡ true → AllEarly (parts ++ new ∷ [])
early_more [] new all is = (is, tt)
early_more (x ∷ parts) new all is = (all.0, early_more parts new all.1 is)

-- the part at a place after another is put at a place, with the same mark
get_put : (parts : List Part) (i j : ℕ) (old new part : Part) → slice_get parts i ≡ Some old → new.is_early ≡ old.is_early → slice_get parts j ≡ Some part → (z : Part) × ((slice_get (set parts i new) j ≡ Some z) × (z.is_early ≡ part.is_early))
get_put [] i j old new part h same k = cc
get_put (x ∷ parts) zero zero old new part h same k = let one : Some old ≡ Some part = sym h ∙ k in let at : old ≡ part = cc in (new, (refl, same ∙ ap (λ (z : Part). z.is_early) at))
get_put (x ∷ parts) zero (suc j) old new part h same k = (part, (k, refl))
get_put (x ∷ parts) (suc i) zero old new part h same k = (part, (k, refl))
get_put (x ∷ parts) (suc i) (suc j) old new part h same k = get_put parts i j old new part h same k

-- ---- order

pub order_put : (b : Bool) (scope : Scope) (us : List ℕ) (parts : List Part) (i : ℕ) (old new : Part) → slice_get parts i ≡ Some old → new.is_early ≡ old.is_early → InOrder b scope us parts → InOrder b scope us (set parts i new)
order_put false scope us parts i old new h same k = early_set parts i old new k h same
order_put true scope us parts i old new h same k =
    let r = get_put parts i k.i old new k.part h same k.known in
    record { task = k.task; i = k.i; part = r.0; failed = k.failed; sub = k.sub; known = r.1.0; is_early = r.1.1 ∙ k.is_early }

get_other : (parts : List Part) (i j : ℕ) (new : Part) → (j ≡ i → ⊥) → slice_get (set parts i new) j ≡ slice_get parts j
get_other [] i j new other = refl
get_other (x ∷ parts) zero zero new other = absurd (other refl)
get_other (x ∷ parts) zero (suc j) new other = refl
get_other (x ∷ parts) (suc i) zero new other = refl
get_other (x ∷ parts) (suc i) (suc j) new other = get_other parts i j new (λ e. other (ap suc e))

missed_early : (q : Knowledge) (part : Part) → (missed q false part).is_early ≡ part.is_early
missed_early Unseen part = refl
missed_early _ part = refl

-- the subtask at this place has not ended, so it did not fail first
pub order_missed : (b : Bool) (scope : Scope) (us : List ℕ) (parts : List Part) (i c : ℕ) (old : Part) → slice_get us i ≡ Some c → completion_of scope.completions c ≡ None → slice_get parts i ≡ Some old → (q : Knowledge) → InOrder b scope us parts → InOrder b scope us (set parts i (missed q b old))
order_missed false scope us parts i c old sub none known q k = early_set parts i old (missed q false old) k known (missed_early q old)
order_missed true scope us parts i c old sub none known q k =
    record { task = k.task; i = k.i; part = k.part; failed = k.failed; sub = k.sub; known = get_other parts i k.i (missed q true old) apart ∙ k.known; is_early = k.is_early }
  where
    apart : k.i ≡ i → ⊥
    apart e =
        let both : Some k.task ≡ Some c = sym k.sub ∙ ap (λ j. slice_get us j) e ∙ sub in
        let same : k.task ≡ c = cc in
        let has = first_has scope.completions k.task k.failed in
        let never : None ≡ Some has.0 = sym none ∙ ap (completion_of scope.completions) (sym same) ∙ has.1 in
        cc

pub order_more : (b : Bool) (scope : Scope) (us : List ℕ) (parts : List Part) (n : ℕ) (new : Part) → new.is_early ≡ not b → InOrder b scope us parts → InOrder b scope (us ++ n ∷ []) (parts ++ new ∷ [])
order_more false scope us parts n new is k = early_more parts new k is
order_more true scope us parts n new is k =
    record {
      task = k.task;
      i = k.i;
      part = k.part;
      failed = k.failed;
      sub = get_front us (n ∷ []) k.i k.task k.sub;
      known = get_front parts (new ∷ []) k.i k.part k.known;
      is_early = k.is_early;
    }

-- the scope with more completions
pub order_told : (b : Bool) (scope after : Scope) (us : List ℕ) (parts : List Part) (more : List Completion) → after.completions ≡ scope.completions ++ more → InOrder b scope us parts → InOrder b after us parts
order_told false scope after us parts more e k = k
order_told true scope after us parts more e k =
    record {
      task = k.task;
      i = k.i;
      part = k.part;
      failed = ap first_failed e ∙ first_front scope.completions more k.task k.failed;
      sub = k.sub;
      known = k.known;
      is_early = k.is_early;
    }

-- nothing of the completions changes
pub order_same : (b : Bool) (scope after : Scope) (us : List ℕ) (parts : List Part) → after.completions ≡ scope.completions → InOrder b scope us parts → InOrder b after us parts
order_same false scope after us parts e k = k
order_same true scope after us parts e k =
    record { task = k.task; i = k.i; part = k.part; failed = ap first_failed e ∙ k.failed; sub = k.sub; known = k.known; is_early = k.is_early }

module _ (w : World) (o : Right w) (s : ℕ) (R : ℕ → Part → Type 0) (parts : List Part) (fits : AllTwo R (subs w s) parts) where
  abbrev cs : List Completion
  cs = (scope_at w s).completions

  place : (d : ℕ) → first_failed cs ≡ Some d → (i : ℕ) × (slice_get (subs w s) i ≡ Some d)
  place d failed = let e = first_has cs d failed in among_get (subs w s) d (sub_listed w s d ((o.told s).subtask d e.0 e.1))

  -- the owner saw that a subtask failed
  pub order_saw : (b : Bool) → InOrder b (scope_at w s) (subs w s) parts → (u : ℕ) (v : ℤ) → completion_of cs u ≡ Some (Failed v) → FailedFirst (scope_at w s) (subs w s) parts
  order_saw true k u v h = k
  order_saw false k u v h = by (first_failed cs) refl
    where
      by : (q : Option ℕ) → first_failed cs ≡ q → FailedFirst (scope_at w s) (subs w s) parts
      by None e = let never : true ≡ false = none_failed cs u (Failed v) e h in cc
      by (Some d) e =
          let i = place d e in
          let q = all_at R (subs w s) parts i.0 d fits i.1 in
          record { task = d; i = i.0; part = q.0; failed = e; sub = i.1; known = q.1.0; is_early = early_get parts i.0 q.0 k q.1.0 }

  -- where the task that failed first is
  pub record Place (d : ℕ) : Type 0 where
    pub i : ℕ
    pub sub : slice_get (subs w s) i ≡ Some d
    pub is_early : (part : Part) → slice_get parts i ≡ Some part → part.is_early ≡ true

  pub early_place : (b : Bool) → InOrder b (scope_at w s) (subs w s) parts → (d : ℕ) → first_failed cs ≡ Some d → Place d
  early_place false k d failed = let i = place d failed in record { i = i.0; sub = i.1; is_early = λ part at. early_get parts i.0 part k at }
  early_place true k d failed =
      let one : Some k.task ≡ Some d = sym k.failed ∙ failed in
      let same : k.task ≡ d = cc in
      record { i = k.i; sub = k.sub ∙ ap Some same; is_early = λ part at. early k.part part (sym k.known ∙ at) k.is_early }
    where
      early : (a b : Part) → Some a ≡ Some b → a.is_early ≡ true → b.is_early ≡ true
      early a b e is = let same : a ≡ b = cc in subst (λ (z : Part). z.is_early ≡ true) same is
