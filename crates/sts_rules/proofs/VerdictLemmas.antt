-- Acceptance and refusal exclude each other, and a program has one refusal at most.
use Rattle.std.proofs.Common.{◌≡◌, ℕ, zero, suc, ◌+◌, ◌-◌, ◌<◌, ◌≤◌, ◌⊎◌, inl, inr, List, [], ◌∷◌, length, take, take_all, get_or, Ok, Err, sym, ap, ◌∙◌, subst}
use Rattle.std.proofs.Common.{refl, arith}
use Rattle.std.proofs.lemmas.Bool.{cases_lt}
use Rattle.std.proofs.lemmas.List.{take_more_same}
use Rattle.sts_code.specs.Program.{Program, routine}
use Rattle.sts_code.specs.declared.instr.Instr.{Instr}
use Rattle.sts_rules.specs.declared.budget.Budgets.{Budgets}
use Rattle.sts_rules.specs.declared.typing.Cause.{Cause}
use Rattle.sts_rules.specs.declared.typing.Cause.TheVariants as cause
use Rattle.sts_rules.specs.Budget.{AreBudgets, IsBudget, Exceeds, IsLeastExcess, budget_at, no_budget}
use Rattle.sts_rules.specs.Causes.{cause_number}
use Rattle.sts_rules.specs.ControlPaths.{Skeleton, OpenEntry, IsGreatest, IsPeak}
use Rattle.sts_rules.specs.Edges.{typing}
use Rattle.sts_rules.specs.Flow as flow
use Rattle.sts_rules.specs.Flow.{Flow, IsAlone, HasTwo, TurnKeeps, IsClear, HasCause, dead, two, edge, turn}
use Rattle.sts_rules.specs.Refusal.{IsAccepted, IsRefusal, IsSound, IsUnsound, IsOneVerdict, ill_typed, too_much, size}

-- ---- a place of a flow

module _ {S C : Type 0} (f : Flow S C) (pc : ℕ) where
  not_alone : (s : S) → HasTwo f pc → IsAlone f pc s → ⊥
  not_alone s t alone = t.1.1.2 (alone.1 t.0 t.1.1.0 ∙ sym (alone.1 t.1.0 t.1.1.1))

  pub clear_excludes : (c : C) → IsClear f pc → HasCause f pc c → ⊥
  clear_excludes c clear (dead none) = none clear.state clear.alone.0
  clear_excludes c clear (two t) = not_alone clear.state t clear.alone
  clear_excludes c clear (edge s alone e) =
      let both : Err c ≡ Ok clear.out = sym e ∙ ap (f.edges pc) (clear.alone.1 s alone.0) ∙ clear.fine in absurd (cc)
  clear_excludes c clear (turn s out alone e t) =
      let keeps : TurnKeeps f pc s = subst (TurnKeeps f pc) (sym (clear.alone.1 s alone.0)) clear.same in
      t.1.1.2 (keeps t.0 t.1.0 t.1.1.0 t.1.1.1)

  one_cause : (c d : C) → HasCause f pc c → HasCause f pc d → c ≡ d
  one_cause c d (dead a) (dead b) = refl
  one_cause c d (dead a) (two b) = absurd (a b.0 b.1.1.0)
  one_cause c d (dead a) (edge s alone e) = absurd (a s alone.0)
  one_cause c d (dead a) (turn s out alone e t) = absurd (a s alone.0)
  one_cause c d (two a) (dead b) = absurd (b a.0 a.1.1.0)
  one_cause c d (two a) (two b) = refl
  one_cause c d (two a) (edge s alone e) = absurd (not_alone s a alone)
  one_cause c d (two a) (turn s out alone e t) = refl
  one_cause c d (edge s alone e) (dead b) = absurd (b s alone.0)
  one_cause c d (edge s alone e) (two b) = absurd (not_alone s b alone)
  one_cause c d (edge s alone e) (edge x only g) =
      let both : Err c ≡ Err d = sym e ∙ ap (f.edges pc) (only.1 s alone.0) ∙ g in cc
  one_cause c d (edge s alone e) (turn x out only g t) =
      let both : Err c ≡ Ok out = sym e ∙ ap (f.edges pc) (only.1 s alone.0) ∙ g in absurd (cc)
  one_cause c d (turn s out alone e t) (dead b) = absurd (b s alone.0)
  one_cause c d (turn s out alone e t) (two b) = refl
  one_cause c d (turn s out alone e t) (edge x only g) =
      let both : Ok out ≡ Err d = sym e ∙ ap (f.edges pc) (only.1 s alone.0) ∙ g in absurd (cc)
  one_cause c d (turn s out alone e t) (turn x other only g u) = refl

-- ---- the least place

module _ {S C : Type 0} (f : Flow S C) (n : ℕ) where
  accepted_excludes : (pc : ℕ) (c : C) → flow.IsAccepted f n → flow.IsRefusal f n pc c → ⊥
  accepted_excludes pc c all r = clear_excludes f pc c (all pc r.0) r.1

  one_place : (p q : ℕ) (c d : C) → flow.IsRefusal f n p c → flow.IsRefusal f n q d → (p ≡ q) × (c ≡ d)
  one_place p q c d a b = by (cases_lt p q) (cases_lt q p)
    where
      by : (p < q) ⊎ (q ≤ p) → (q < p) ⊎ (p ≤ q) → (p ≡ q) × (c ≡ d)
      by (inl lt) w = absurd (clear_excludes f p c (b.2 p lt) a.1)
      by (inr le) (inl lt) = absurd (clear_excludes f q d (a.2 q lt) b.1)
      by (inr le) (inr ge) =
          let same : p ≡ q = omega arith in
          (same, one_cause f q c d (subst (λ k. HasCause f k c) same a.1) b.1)

-- ---- the budgets are determined

one_greatest : (c : Skeleton) (m n : ℕ) → IsGreatest c m → IsGreatest c n → m ≡ n
one_greatest c m n a b = let x = a.1 n b.0 in let y = b.1 m a.0 in omega arith

one_peak : (c : Skeleton) (sum : List OpenEntry → ℕ) (m n : ℕ) → IsPeak c sum m → IsPeak c sum n → m ≡ n
one_peak c sum m n a b = let x = a.1 n b.0 in let y = b.1 m a.0 in omega arith

same_budgets : (a b : Budgets) → a.steps ≡ b.steps → a.tasks ≡ b.tasks → a.scopes ≡ b.scopes → a.binds ≡ b.binds → a ≡ b
same_budgets a b e f g h =
    let same : record { steps = a.steps; tasks = a.tasks; scopes = a.scopes; binds = a.binds } ≡ record { steps = b.steps; tasks = b.tasks; scopes = b.scopes; binds = b.binds } = rw (e, f, g, h) refl in same

pub one_budget : (earlier : List Budgets) (code : List Instr) (a b : Budgets) → IsBudget earlier code a → IsBudget earlier code b → a ≡ b
one_budget earlier code a b x y =
    same_budgets a b (one_greatest _ _ _ x.steps y.steps) (one_peak _ _ _ _ x.tasks y.tasks) (one_peak _ _ _ _ x.scopes y.scopes) (one_peak _ _ _ _ x.binds y.binds)

module _ (p : Program) (xs ys : List Budgets) (long : length xs ≡ length ys) (left : AreBudgets p xs) (right : AreBudgets p ys) where
  fronts : (k : ℕ) → k ≤ length xs → take k xs ≡ take k ys
  fronts zero le = refl
  fronts (suc k) le =
      let lt : k < length xs = omega arith in
      let lt' : k < length ys = omega (arith, long) in
      let before : take k xs ≡ take k ys = fronts k (omega arith) in
      let here : budget_at xs k ≡ budget_at ys k = one_budget (take k ys) (routine p k).code _ _ (subst (λ zs. IsBudget zs (routine p k).code (budget_at xs k)) before (left k lt)) (right k lt') in
      let more : take (k + 1) xs ≡ take (k + 1) ys = take_more_same xs ys k no_budget lt lt' before here in
      let next : k + 1 ≡ suc k = omega arith in subst (λ n. take n xs ≡ take n ys) next more

  pub are_one : xs ≡ ys
  are_one =
      let all : take (length xs) xs ≡ take (length xs) ys = fronts (length xs) (omega arith) in
      sym (take_all (length xs) xs (omega arith)) ∙ all ∙ take_all (length xs) ys (omega (arith, long))

-- ---- causes by their numbers

abbrev all_causes : List Cause
all_causes =
    cause.StackUnder ∷ cause.StackOver ∷ cause.FallsOff ∷ cause.BackJump ∷ cause.LoopMismatch ∷ cause.LoopDepth
    ∷ cause.StatesDiffer ∷ cause.DeadCode ∷ cause.SlotKind ∷ cause.SlotBusy ∷ cause.WrongThread ∷ cause.IllegalState
    ∷ cause.Structure ∷ cause.Nesting ∷ cause.Unbound ∷ cause.JoinEdges ∷ cause.TooManySteps ∷ cause.TooManyTasks
    ∷ cause.TooManyScopes ∷ cause.TooManyBinds ∷ []

abbrev cause_of_number : ℕ → Cause
cause_of_number n = get_or all_causes (n - 1) cause.TooManyBinds

has_number : (c : Cause) → cause_of_number (cause_number c) ≡ c
has_number cause.StackUnder = refl
has_number _ = refl

one_excess : (earlier : List Budgets) (code : List Instr) (c d : Cause) → IsLeastExcess earlier code c → IsLeastExcess earlier code d → c ≡ d
one_excess earlier code c d a b = by (cases_lt (cause_number c) (cause_number d)) (cases_lt (cause_number d) (cause_number c))
  where
    by : (cause_number c < cause_number d) ⊎ (cause_number d ≤ cause_number c) → (cause_number d < cause_number c) ⊎ (cause_number c ≤ cause_number d) → c ≡ d
    by (inl lt) w = absurd (b.1 c lt a.0)
    by (inr le) (inl lt) = absurd (a.1 d lt b.0)
    by (inr le) (inr ge) =
        let same : cause_number c ≡ cause_number d = omega arith in
        sym (has_number c) ∙ ap cause_of_number same ∙ has_number d

-- ---- functions and programs

sound_excludes : (p : Program) (f pc : ℕ) (c : Cause) → IsSound p f → IsUnsound p f pc c → ⊥
sound_excludes p f pc c s (ill_typed r) = accepted_excludes (typing p f) (size p f) pc c s.typed r
sound_excludes p f pc c s (too_much earlier typed long right least) =
    let same : earlier ≡ s.earlier = are_one p earlier s.earlier (long ∙ sym s.long) right s.right in
    s.within c (subst (λ bs. Exceeds bs (routine p f).code c) same least.0)

one_unsound : (p : Program) (f pc qc : ℕ) (c d : Cause) → IsUnsound p f pc c → IsUnsound p f qc d → (pc ≡ qc) × (c ≡ d)
one_unsound p f pc qc c d (ill_typed a) (ill_typed b) = one_place (typing p f) (size p f) pc qc c d a b
one_unsound p f pc qc c d (ill_typed a) (too_much bs typed long right least) = absurd (accepted_excludes (typing p f) (size p f) pc c typed a)
one_unsound p f pc qc c d (too_much bs typed long right least) (ill_typed b) = absurd (accepted_excludes (typing p f) (size p f) qc d typed b)
one_unsound p f pc qc c d (too_much xs typed long right least) (too_much ys typed' long' right' least') =
    let same : xs ≡ ys = are_one p xs ys (long ∙ sym long') right right' in
    (refl, one_excess ys (routine p f).code c d (subst (λ bs. IsLeastExcess bs (routine p f).code c) same least) least')

accepted_not_refused : (p : Program) (f pc : ℕ) (c : Cause) → IsAccepted p → IsRefusal p f pc c → ⊥
accepted_not_refused p f pc c a r = sound_excludes p f pc c (a.sound f r.0) r.1

one_refusal : (p : Program) (f g pc qc : ℕ) (c d : Cause) → IsRefusal p f pc c → IsRefusal p g qc d → (f ≡ g) × (pc ≡ qc) × (c ≡ d)
one_refusal p f g pc qc c d a b = by (cases_lt f g) (cases_lt g f)
  where
    by : (f < g) ⊎ (g ≤ f) → (g < f) ⊎ (f ≤ g) → (f ≡ g) × (pc ≡ qc) × (c ≡ d)
    by (inl lt) w = absurd (sound_excludes p f pc c (b.2 f lt) a.1)
    by (inr le) (inl lt) = absurd (sound_excludes p g qc d (a.2 g lt) b.1)
    by (inr le) (inr ge) =
        let same : f ≡ g = omega arith in
        let rest = one_unsound p g pc qc c d (subst (λ k. IsUnsound p k pc c) same a.1) b.1 in
        (same, rest.0, rest.1)

pub verdict_is_one : (p : Program) → IsOneVerdict p
verdict_is_one p = record { apart = λ f pc c. accepted_not_refused p f pc c; alone = one_refusal p }
