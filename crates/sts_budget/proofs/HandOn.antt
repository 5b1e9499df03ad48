-- The code and the pass hand on the same values at a place.
use Rattle.std.proofs.Common.{◌≡◌, ℕ, ◌+◌, ◌*◌, ◌<◌, ◌≤◌, max, min, inl, inr, List, [], ◌∷◌, ◌++◌, length, get_or, replicate, true, false, Option, unwrap_or}
use Rattle.std.proofs.Common.{refl, sym, ap, ◌∙◌, subst, arith, Bool, pos}
use Rattle.std.proofs.lemmas.List.{length-replicate, get_or-replicate, get_or_default}
use Rattle.sts_code.specs.Program.{Program, instr_at}
use Rattle.sts_code.specs.declared.profile.Profile.TheVariants.{One}
use Rattle.sts_code.specs.declared.instr.Instr.{Instr}
use Rattle.sts_code.specs.declared.instr.Instr.TheVariants.{Push, Times, Next, Ret, Fail}
use Rattle.sts_rules.specs.Around.{next_place, around}
use Rattle.sts_code.specs.Facts.{goes_straight_on, targets}
use Rattle.sts_rules.specs.declared.budget.Budgets.{Budgets}
use Rattle.sts_rules.specs.Budget.{skeleton, shape_of}
use Rattle.sts_rules.specs.ControlPaths.{Shape, GoesTo, Repeats, EndsTurn, EndsPath, Skeleton, Among}
use Rattle.sts_budget.specs.declared.change.Resource.{Resource}
use Rattle.sts_budget.specs.declared.change.Resource.TheVariants.{Steps}
use Rattle.sts_budget.specs.declared.layout.Layout.{Layout}
use Rattle.sts_budget.specs.Change.{source_of, added_of, change_of, depth_of, own_step}
use Rattle.sts_budget.specs.Handing.{is_quiet, is_ordinary, turns_of, value_by, handed_value}
use Rattle.sts_budget.specs.Ready.{IsLaidFor, first_of, names_in, head_in, flows_in}
use Rattle.sts_budget.specs.Structured.{bound_of}
use Rattle.sts_budget.specs.Sums.{Flows, FitsEntries, Stands}
use Rattle.sts_budget.specs.Table.{read, New, Handed, over_go, over_loop, IsSpread, IsPartial, IsCarried, IsSent, IsStopped, HandsTooMuch, Passes}
use Rattle.sts_budget.proofs.Sorts.{Sort, sort, is_times, is_next, is_end, goes_on, GoesOn, among_at, straight}
use Rattle.sts_budget.proofs.SumsLemmas.{IsSourced, go_stands, loop_stands}
use Rattle.sts_budget.proofs.Forward.{among_cases, partial_more, sourced}
use Rattle.sts_budget.proofs.FourKindLemmas.{fits}
use Rattle.sts_budget.proofs.HandedValues.{value_of_ordinary}
use Rattle.laws_words.proofs.ListLemmas.{zeros}

-- an instruction of the code, which is not quiet
pub not_quiet : (code : List Instr) (pc : ℕ) (b : Bool) → pc < length code → b ≡ is_quiet (get_or code pc (Push (pos 0))) → b ≡ false → (get_or code pc (Push (pos 0)) ≡ instr_at code pc) × (is_quiet (instr_at code pc) ≡ false)
not_quiet code pc b within is isnt =
    let at : get_or code pc (Push (pos 0)) ≡ instr_at code pc = get_or_default code pc _ Ret within in
    (at, sym (ap is_quiet at) ∙ sym is ∙ isnt)

-- any program, for definitions that don't depend on it
abbrev any_program : Program
any_program = record { profile = One; routines = [] }

-- a `times` and a `next` count the same
pub times_counts : (k : Resource) (earlier : List Budgets) (n : ℕ) (ns : List (Option ℕ)) (d : ℕ) → added_of (change_of k earlier (Times n) ns) (depth_of k ns) d ≡ own_step k
times_counts Steps earlier n ns d = refl
times_counts _ earlier n ns d = refl

pub next_counts : (k : Resource) (earlier : List Budgets) (ns : List (Option ℕ)) (d : ℕ) → added_of (change_of k earlier Next ns) (depth_of k ns) d ≡ own_step k
next_counts Steps earlier ns d = refl
next_counts _ earlier ns d = refl

-- an instruction that goes on hands on the sums after it
value_goes : (k : Resource) (earlier : List Budgets) (code : List Instr) (l : Layout) (best : ℕ → ℕ → ℕ) (pc : ℕ) (i : Instr) (d : ℕ) → GoesOn any_program code pc i → value_by k earlier code l best pc i d ≡ best pc (source_of (change_of k earlier i (names_in l pc)) (depth_of k (names_in l pc)) d) + added_of (change_of k earlier i (names_in l pc)) (depth_of k (names_in l pc)) d
value_goes k earlier code l best pc Next d goes = (let z : EndsTurn ≡ GoesTo (targets Next ++ next_place pc Next) = goes.shape in absurd (cc))
value_goes k earlier code l best pc _ d goes = refl

-- the only one of a single place
only : (at q : ℕ) → Among (at ∷ []) q → q ≡ at
only at q (inl e) = sym e
only at q (inr out_of) = absurd out_of

-- nothing new comes from a quiet instruction
quiet_none : (c : Skeleton) (f : Flows) (head : ℕ → ℕ) (best : ℕ → ℕ → ℕ) (pc : ℕ) (i : Instr) → is_quiet i ≡ true → (q d m : ℕ) → New c f head best pc (shape_of pc i) q d m → ⊥
quiet_none skel fl head best pc (Times n) e q d m w = w
quiet_none skel fl head best pc Ret e q d m w = w
quiet_none skel fl head best pc Fail e q d m w = w
quiet_none skel fl head best pc _ e q d m w = absurd (cc)

module _ (k : Resource) (earlier : List Budgets) (code : List Instr) (l : Layout) (ready : IsLaidFor earlier code l) where
  abbrev c : Skeleton
  c = skeleton earlier code

  abbrev f : Flows
  f = flows_in k earlier code l

  pub fits_here : FitsEntries c (around code) f
  fits_here = fits earlier code (around code) ready.good (names_in l) ready.known k

  -- the head of the loop that a place ends
  pub heads_right : (pc : ℕ) → c.shape pc ≡ EndsTurn → ((n : ℕ) × (c.shape (head_in l pc) ≡ Repeats n)) × (c.mate (head_in l pc) ≡ pc)
  heads_right pc e =
      let q = ready.good.end pc e in
      let lp = ready.good.loop q.0 q.1.0 q.1.1.0 in
      let within : pc < length code = omega (arith, q.1.1.1, lp.2) in
      let round : around code pc ≡ q.0 ∷ around code q.0 = ap (around code) (sym q.1.1.1) ∙ lp.5 in
      let head : head_in l pc ≡ q.0 = ap (λ o. unwrap_or o 0) (ready.heads pc within ∙ ap first_of round) in
      ((q.1.0, ap c.shape head ∙ q.1.1.0), ap c.mate head ∙ q.1.1.1)

  head_times : (pc n : ℕ) → c.shape (head_in l pc) ≡ Repeats n → instr_at code (head_in l pc) ≡ Times n
  head_times pc n e = ready.known.times (head_in l pc) n e

  pub counts_times : (pc n d : ℕ) → instr_at code pc ≡ Times n → f.added pc d ≡ own_step k
  counts_times pc n d t = ap (λ j. added_of (change_of k earlier j (names_in l pc)) (depth_of k (names_in l pc)) d) t ∙ times_counts k earlier n (names_in l pc) d

  pub counts_next : (pc d : ℕ) → instr_at code pc ≡ Next → f.added pc d ≡ own_step k
  counts_next pc d t = ap (λ j. added_of (change_of k earlier j (names_in l pc)) (depth_of k (names_in l pc)) d) t ∙ next_counts k earlier (names_in l pc) d

  -- each new value is handed on to the places that the instruction names
  new_is : (best : ℕ → ℕ → ℕ) (pc : ℕ) (i : Instr) → instr_at code pc ≡ i → Sort any_program code pc i → is_quiet i ≡ false → (q d m : ℕ) → New c f (head_in l) best pc (shape_of pc i) q d m → Among (targets i ++ next_place pc i) q × (value_by k earlier code l best pc i d ≡ m)
  new_is best pc i at (is_times n) quiet q d m w = absurd (cc)
  new_is best pc i at is_next quiet q d m w =
      let h = heads_right pc (ap (shape_of pc) at) in
      let t = head_times pc h.0.0 h.0.1 in
      let head_counts : f.added (head_in l pc) d ≡ own_step k = ap (λ j. added_of (change_of k earlier j (names_in l (head_in l pc))) (depth_of k (names_in l (head_in l pc))) d) t ∙ times_counts k earlier h.0.0 (names_in l (head_in l pc)) d in
      let here_counts : f.added pc d ≡ own_step k = ap (λ j. added_of (change_of k earlier j (names_in l pc)) (depth_of k (names_in l pc)) d) at ∙ next_counts k earlier (names_in l pc) d in
      let turns : bound_of (c.shape (head_in l pc)) ≡ turns_of (instr_at code (head_in l pc)) = ap bound_of h.0.1 ∙ sym (ap turns_of t) in (
        inl w.0,
        sym (ap (λ x. best (head_in l pc) d + x + bound_of (c.shape (head_in l pc)) * (best pc d + f.added pc d)) head_counts
            ∙ ap (λ x. best (head_in l pc) d + own_step k + bound_of (c.shape (head_in l pc)) * (best pc d + x)) here_counts
            ∙ ap (λ x. best (head_in l pc) d + own_step k + x * (best pc d + own_step k)) turns) ∙ w.1,
      )
  new_is best pc i at (is_end shape none nowhere) quiet q d m w = absurd (subst (λ s. New c f (head_in l) best pc s q d m) shape w)
  new_is best pc i at (goes_on g) quiet q d m w =
      let w' : Among (targets i ++ next_place pc i) q × (best pc (f.source pc d) + f.added pc d ≡ m) = subst (λ s. New c f (head_in l) best pc s q d m) g.shape w in
      (w'.0, value_goes k earlier code l best pc i d g ∙ ap (λ j. best pc (source_of (change_of k earlier j (names_in l pc)) (depth_of k (names_in l pc)) d) + added_of (change_of k earlier j (names_in l pc)) (depth_of k (names_in l pc)) d) (sym at) ∙ w'.1)

  -- and each value that is handed on is new
  new_of : (best : ℕ → ℕ → ℕ) (pc : ℕ) (i : Instr) → instr_at code pc ≡ i → Sort any_program code pc i → is_quiet i ≡ false → (q d : ℕ) → Among (targets i ++ next_place pc i) q → New c f (head_in l) best pc (shape_of pc i) q d (value_by k earlier code l best pc i d)
  new_of best pc i at (is_times n) quiet q d among = absurd (cc)
  new_of best pc i at is_next quiet q d (inl same) =
      let h = heads_right pc (ap (shape_of pc) at) in
      let t = head_times pc h.0.0 h.0.1 in
      let head_counts : f.added (head_in l pc) d ≡ own_step k = ap (λ j. added_of (change_of k earlier j (names_in l (head_in l pc))) (depth_of k (names_in l (head_in l pc))) d) t ∙ times_counts k earlier h.0.0 (names_in l (head_in l pc)) d in
      let here_counts : f.added pc d ≡ own_step k = ap (λ j. added_of (change_of k earlier j (names_in l pc)) (depth_of k (names_in l pc)) d) at ∙ next_counts k earlier (names_in l pc) d in
      let turns : bound_of (c.shape (head_in l pc)) ≡ turns_of (instr_at code (head_in l pc)) = ap bound_of h.0.1 ∙ sym (ap turns_of t) in (
        same,
        ap (λ x. best (head_in l pc) d + x + bound_of (c.shape (head_in l pc)) * (best pc d + f.added pc d)) head_counts
            ∙ ap (λ x. best (head_in l pc) d + own_step k + bound_of (c.shape (head_in l pc)) * (best pc d + x)) here_counts
            ∙ ap (λ x. best (head_in l pc) d + own_step k + x * (best pc d + own_step k)) turns,
      )
  new_of best pc i at is_next quiet q d (inr out_of) = absurd out_of
  new_of best pc i at (is_end shape none nowhere) quiet q d among = absurd (subst (λ ps. Among ps q) nowhere among)
  new_of best pc i at (goes_on g) quiet q d among =
      let v = value_goes k earlier code l best pc i d g ∙ ap (λ j. best pc (source_of (change_of k earlier j (names_in l pc)) (depth_of k (names_in l pc)) d) + added_of (change_of k earlier j (names_in l pc)) (depth_of k (names_in l pc)) d) (sym at) in
      subst (λ s. New c f (head_in l) best pc s q d (value_by k earlier code l best pc i d)) (sym g.shape) (among, sym v)

  pub quiet_spread : (pc : ℕ) (rows : List (List ℕ)) → is_quiet (instr_at code pc) ≡ true → IsSpread c f (head_in l) pc rows rows
  quiet_spread pc rows e = record { long = refl; raised = λ q d m lt low w. absurd (quiet_none c f (head_in l) (read rows) pc (instr_at code pc) e q d m w); same = λ q d lt low out. refl }

  capped : (v x most : ℕ) → v ≡ min x 18446744073709551615 → v ≤ most → most < 4294967296 → v ≡ x
  capped v x most e le small = omega arith

  pub sent_spread : (n pc most : ℕ) (values : List ℕ) (before after : List (List ℕ)) → ((q : ℕ) → depth_of k (names_in l q) < n) → is_quiet (instr_at code pc) ≡ false → most < 4294967296 → ((d : ℕ) → d < n → get_or values d 0 ≡ min (handed_value k earlier code l (read before) pc d) 18446744073709551615)
      → IsSent values (λ q. depth_of k (names_in l q)) most (targets (instr_at code pc) ++ next_place pc (instr_at code pc)) before after → IsSpread c f (head_in l) pc before after
  sent_spread n pc most values before after fits quiet small is sent = record {
    long = sent.long;
    raised = λ q d m lt low w. (
        let new = new_is (read before) pc (instr_at code pc) refl (sort any_program code pc (instr_at code pc)) quiet q d m w in
        let few = fits q in
        let le = sent.small q d new.0 low in
        let v = capped (get_or values d 0) (handed_value k earlier code l (read before) pc d) most (is d (omega arith)) le small in
        sent.raised q d new.0 low ∙ ap (max (read before q d)) (v ∙ new.1));
    same = λ q d lt low out. elim (among_cases (targets (instr_at code pc) ++ next_place pc (instr_at code pc)) q) [
      | inl a ↦ absurd (out _ (new_of (read before) pc (instr_at code pc) refl (sort any_program code pc (instr_at code pc)) quiet q d a))
      | inr no_way ↦ sent.same q d no_way
    ];
  }

  -- an instruction that only counts a step, and goes on to the next place
  pub carried_spread : (n pc : ℕ) (before after : List (List ℕ)) → ((q : ℕ) → depth_of k (names_in l q) < n) → is_quiet (instr_at code pc) ≡ false → is_ordinary (instr_at code pc) ≡ true → goes_straight_on (instr_at code pc) ≡ true → IsCarried n pc (own_step k) before after → IsSpread c f (head_in l) pc before after
  carried_spread n pc before after fits quiet ordinary goes h = record {
    long = h.long;
    raised = λ q d m lt low w. (
        let new = new_is (read before) pc (instr_at code pc) refl (sort any_program code pc (instr_at code pc)) quiet q d m w in
        let few = fits q in
        let value = sym (value_of_ordinary k earlier code l (read before) pc d (instr_at code pc) ordinary) ∙ new.1 in
        let here = only (pc + 1) q (subst (λ ps. Among ps q) (sym (straight (instr_at code pc) pc goes)) new.0) in
        let less : d < n = omega (arith, few, low) in
        subst (λ p. read after p d ≡ max (read before p d) m) (sym here) (h.raised d less ∙ ap (max (read before (pc + 1) d)) value));
    same = λ q d lt low out. h.same q d (λ e. out _ (new_of (read before) pc (instr_at code pc) refl (sort any_program code pc (instr_at code pc)) quiet q d (subst (λ ps. Among ps q) (straight (instr_at code pc) pc goes) (inl (sym e)))));
  }

  pub stopped_over : (n pc most : ℕ) (values : List ℕ) (before : List (List ℕ)) → ((q : ℕ) → depth_of k (names_in l q) < n) → pc < length code → is_quiet (instr_at code pc) ≡ false → ((d : ℕ) → d < n → get_or values d 0 ≡ min (handed_value k earlier code l (read before) pc d) 18446744073709551615)
      → IsStopped values (λ q. depth_of k (names_in l q)) most (targets (instr_at code pc) ++ next_place pc (instr_at code pc)) → HandsTooMuch c f (head_in l) pc (read before) most
  stopped_over n pc most values before fits within quiet is (q, (d, h)) =
      let few = fits q in
      let v = is d (omega (arith, h.1)) in
      let w = new_of (read before) pc (instr_at code pc) refl (sort any_program code pc (instr_at code pc)) quiet q d h.0 in
      (q, (d, (_, (inside pc (c.shape pc) refl q d _ (read before) w, h.1, w, omega (arith, v, h.2)))))
    where
      inside : (pc : ℕ) (s : Shape) → c.shape pc ≡ s → (q d m : ℕ) (best : ℕ → ℕ → ℕ) → New c f (head_in l) best pc s q d m → q < c.size
      inside pc (GoesTo places) e q d m best w = (ready.good.forward pc q places e w.0).1
      inside pc (Repeats n) e q d m best w = absurd w
      inside pc EndsTurn e q d m best w =
          let h = heads_right pc e in
          let lp = ready.good.loop (head_in l pc) h.0.0 h.0.1 in
          omega (arith, lp.2, h.1, w.0)
      inside pc EndsPath e q d m best w = absurd w

  -- the places after an instruction are in the code
  pub leads_in : (pc q : ℕ) → is_quiet (instr_at code pc) ≡ false → Among (targets (instr_at code pc) ++ next_place pc (instr_at code pc)) q → q < length code
  leads_in pc q quiet among = by (c.shape pc) refl (new_of (λ x y. 0) pc (instr_at code pc) refl (sort any_program code pc (instr_at code pc)) quiet q 0 among)
    where
      by : (s : Shape) → c.shape pc ≡ s → New c f (head_in l) (λ x y. 0) pc s q 0 (value_by k earlier code l (λ x y. 0) pc (instr_at code pc) 0) → q < length code
      by (GoesTo places) e w = (ready.good.forward pc q places e w.0).1
      by (Repeats n) e w = absurd w
      by EndsTurn e w =
          let h = heads_right pc e in
          let lp = ready.good.loop (head_in l pc) h.0.0 h.0.1 in
          omega (arith, lp.2, h.1, w.0)
      by EndsPath e w = absurd w

  -- what is said of an instruction that was read off the code
  module _ (pc : ℕ) (i : Instr) (at : i ≡ instr_at code pc) (quiet : is_quiet (instr_at code pc) ≡ false) where
    -- it leads to rows of the table
    pub leads_at : (places : ℕ) → places ≡ length code → (j d : ℕ) → j < length (targets i ++ next_place pc i) → get_or (targets i ++ next_place pc i) j d < places
    leads_at places long j d lt =
        let q = get_or (targets i ++ next_place pc i) j d in
        let h : q < length code = leads_in pc q quiet (subst (λ x. Among (targets x ++ next_place pc x) q) at (among_at (targets i ++ next_place pc i) j d lt)) in
        subst (λ n. q < n) (sym long) h

    module _ (n most : ℕ) (values : List ℕ) (before : List (List ℕ)) (few : (q : ℕ) → depth_of k (names_in l q) < n) (is : (d : ℕ) → d < n → get_or values d 0 ≡ min (handed_value k earlier code l (read before) pc d) 18446744073709551615) where
      -- the sums that it hands on were sent there
      pub sent_at : (after : List (List ℕ)) → most < 4294967296 → IsSent values (λ q. depth_of k (names_in l q)) most (targets i ++ next_place pc i) before after → IsSpread c f (head_in l) pc before after
      sent_at after small sent = sent_spread n pc most values before after few quiet small is (subst (λ x. IsSent values (λ q. depth_of k (names_in l q)) most (targets x ++ next_place pc x) before after) at sent)

      -- one of them passes the limit
      pub over_at : pc < length code → IsStopped values (λ q. depth_of k (names_in l q)) most (targets i ++ next_place pc i) → HandsTooMuch c f (head_in l) pc (read before) most
      over_at within stopped = stopped_over n pc most values before few within quiet is (subst (λ x. IsStopped values (λ q. depth_of k (names_in l q)) most (targets x ++ next_place pc x)) at stopped)

  -- ---- the pass

  pub partial_none : (n : ℕ) (rows : List (List ℕ)) → rows ≡ replicate (length code) (replicate n 0) → IsPartial c f 0 rows
  partial_none n rows e = record {
    long = ap length e ∙ length-replicate (length code) (replicate n 0);
    greatest = λ pc d lt low. ((λ m h. absurd (nothing pc d m h)), inr (zero_at pc d lt, nothing pc d));
  }
    where
      nothing : (pc d m : ℕ) → Handed c f (read rows) 0 pc d m → ⊥
      nothing pc d m (over_go from to x places lt e among low) = omega arith
      nothing pc d m (over_loop p n x lt e low) = omega arith

      zero_at : (pc d : ℕ) → pc < length code → read rows pc d ≡ 0
      zero_at pc d lt = ap (λ (xs : List (List ℕ)). get_or (get_or xs pc []) d 0) e ∙ ap (λ (x : List ℕ). get_or x d 0) (get_or-replicate (length code) pc (replicate n 0) [] lt) ∙ zeros n d

  pub partial_next : (pc : ℕ) (before after : List (List ℕ)) → IsPartial c f pc before → IsSpread c f (head_in l) pc before after → IsPartial c f (pc + 1) after
  partial_next pc before after h sp = partial_more c (around code) ready.good f fits_here (head_in l) heads_right pc before after h sp

  -- if a place hands on a value over the limit, some point has a sum over the limit
  pub too_much : (pc most : ℕ) (rows : List (List ℕ)) → pc < length code → IsPartial c f pc rows → HandsTooMuch c f (head_in l) pc (read rows) most → Passes c f most
  too_much pc most rows within h (q, (d, (m, t))) = by (c.shape pc) refl t.2
    where
      s : IsSourced c f (read rows) (pc + 1)
      s = sourced c (around code) ready.good f fits_here (head_in l) heads_right pc (pc + 1) rows (omega arith) (omega arith) h ready.led

      by : (sh : Shape) → c.shape pc ≡ sh → New c f (head_in l) (read rows) pc sh q d m → Passes c f most
      by (GoesTo places) e w = (m, (subst (Stands c f) w.1 (go_stands c (around code) ready.good f fits_here (read rows) (pc + 1) s pc q d places (omega arith) e w.0 t.1), t.3))
      by (Repeats n) e w = absurd w
      by EndsTurn e w =
          let hd = heads_right pc e in
          let same = fits_here.same (head_in l pc) hd.0.0 hd.0.1 in
          let place : c.mate (head_in l pc) + 1 ≡ q = ap (λ x. x + 1) hd.1 ∙ w.0 in
          let low : d ≤ f.depth (head_in l pc) = omega (arith, same.2, ap f.depth place, t.1) in
          let st = loop_stands c (around code) ready.good f fits_here (read rows) (pc + 1) s (head_in l pc) hd.0.0 d (omega (arith, hd.1)) hd.0.1 low in
          let turns : hd.0.0 ≡ bound_of (c.shape (head_in l pc)) = ap bound_of (sym hd.0.1) in
          let v : read rows (head_in l pc) d + f.added (head_in l pc) d + hd.0.0 * (read rows (c.mate (head_in l pc)) d + f.added (c.mate (head_in l pc)) d) ≡ m =
          ap (λ x. read rows (head_in l pc) d + f.added (head_in l pc) d + x * (read rows (c.mate (head_in l pc)) d + f.added (c.mate (head_in l pc)) d)) turns
          ∙ ap (λ x. read rows (head_in l pc) d + f.added (head_in l pc) d + bound_of (c.shape (head_in l pc)) * (read rows x d + f.added x d)) hd.1 ∙ w.1 in
          (m, (subst (Stands c f) v st, t.3))
      by EndsPath e w = absurd w
