-- The weight of a path at its end, in the words of the budget.
use Rattle.std.proofs.Common.{◌≡◌, ℕ, ◌+◌, ◌<◌, ◌⊎◌, List, length, true, Option, Some, None, sym, ap, subst, arith}
use Rattle.std.specs.Prelude.{MatchOption}
use Rattle.sts_code.specs.Checks.{program_fault}
use Rattle.sts_code.specs.Program.{Program, routine, instr_at}
use Rattle.sts_code.specs.declared.instr.Instr.{Instr}
use Rattle.sts_rules.specs.Around.{around}
use Rattle.sts_rules.specs.declared.budget.Budgets.{Budgets}
use Rattle.sts_rules.specs.Budget.{AreBudgets, skeleton, tasks_measure, scopes_measure, binds_measure}
use Rattle.sts_rules.specs.ControlPaths.{Loops}
use Rattle.sts_rules.specs.Refusal.{IsWellTyped}
use Rattle.sts_budget.specs.declared.change.Resource.{Resource}
use Rattle.sts_budget.specs.declared.change.Resource.TheVariants.{Steps, Tasks, Scopes, Binds}
use Rattle.sts_budget.specs.declared.layout.Layout.{Layout}
use Rattle.sts_budget.specs.Change.{own_of, limit_of, depth_of}
use Rattle.sts_budget.specs.Flowing.{flows}
use Rattle.sts_budget.specs.Known.{KnowsNames, NamesRight}
use Rattle.sts_budget.specs.Laws.{PointsLieOnPaths}
use Rattle.sts_budget.specs.Layout.{EntryNames, IsDeepest}
use Rattle.sts_budget.specs.Ready.{names_in, IsLaidFor}
use Rattle.sts_budget.specs.Structured.{IsStructured}
use Rattle.sts_budget.specs.Sums.{Sums}
use Rattle.look_refusal.specs.declared.heavy.Heavy.{Heavy}
use Rattle.look_refusal.specs.Adding.{total}
use Rattle.look_refusal.specs.Found.{IsHeaviest, IsNotTold, IsWeighedIn}
use Rattle.look_refusal.specs.Heavy.{IsHeavy, IsUntold, IsTooHeavy, Weighs, NoneHeavier}
use Rattle.look_refusal.specs.declared.search.Search.{Search}
use Rattle.look_refusal.specs.Search.{IsReady, ends_for}
use Rattle.look_refusal.proofs.Extending.{sums}
use Rattle.look_refusal.proofs.Instrs.{path_ends}
use Rattle.sts_budget.proofs.PathLemmas.{lie_on_paths}
use Rattle.sts_budget.proofs.FourKindLemmas.{end_counts}
use Rattle.sts_budget.proofs.PointLemmas.{stands, steps_come}
use Rattle.sts_budget.proofs.ReadyLemmas.{names_right, is_typed_ready}
use Rattle.sts_types.specs.Typing.{Typing, IsTyping}

module _ (earlier : List Budgets) (code : List Instr) (round : ℕ → List ℕ) (good : IsStructured (skeleton earlier code) round) (names_at : ℕ → EntryNames) (known : KnowsNames code (skeleton earlier code) round names_at) where
  pub weighs : (k : Resource) (pc : ℕ) (loops : Loops) (sum : ℕ) → ends_for k (instr_at code pc) ≡ true → Sums (skeleton earlier code) (flows k earlier code names_at) (depth_of k (names_at pc)) pc loops sum → Weighs k earlier code pc (own_of k + sum)
  weighs Steps pc loops sum may h =
      let w = steps_come earlier code round good names_at known pc loops sum h in
      let e = path_ends pc (instr_at code pc) may in
      let one = end_counts earlier pc (instr_at code pc) e in
      (loops, (sum, (w.0, (w.1, (e, omega arith)))))
  weighs Tasks pc loops sum may h = let w = stands earlier code round good names_at known (tasks_measure earlier) pc loops sum h in (loops, (w.0, (w.1.0, (w.1.1.0, ap (λ n. 1 + n) w.1.1.1))))
  weighs Scopes pc loops sum may h = let w = stands earlier code round good names_at known (scopes_measure earlier) pc loops sum h in (loops, (w.0, (w.1.0, (w.1.1.0, (let e = w.1.1.1 in omega arith)))))
  weighs Binds pc loops sum may h = let w = stands earlier code round good names_at known (binds_measure earlier) pc loops sum h in (loops, (w.0, (w.1.0, (w.1.1.0, (let e = w.1.1.1 in omega arith)))))

heavy : (p : Program) (f : ℕ) (k : Resource) (earlier : List Budgets) (code : List Instr) (l : Layout) (h : Heavy) → length earlier ≡ f → AreBudgets p earlier → NamesRight p f (names_in l) → IsLaidFor earlier code l → code ≡ (routine p f).code → IsWeighedIn k earlier code l h → NoneHeavier k earlier code h.weight → IsHeavy p f k h
heavy p f k earlier code l h size right named ready is w most = by (subst (λ xs. IsLaidFor earlier xs l) is ready) (subst (λ xs. IsWeighedIn k earlier xs l h) is w)
  where
    by : IsLaidFor earlier (routine p f).code l → IsWeighedIn k earlier (routine p f).code l h → IsHeavy p f k h
    by r v = record {
      earlier = earlier;
      long = size;
      right = right;
      names_at = names_in l;
      named = named;
      loops = v.loops;
      steps = v.steps;
      path = v.path;
      one_each = v.one_each;
      few = (let short = r.short in omega (arith, v.one_each));
      shares = v.shares;
      weight = v.weight;
      weighs = subst (λ m. Weighs k earlier (routine p f).code h.place m) (sym v.weight) (weighs earlier (routine p f).code (around (routine p f).code) r.good (names_in l) r.known k h.place v.loops (total v.steps) v.may (sums (skeleton earlier (routine p f).code) (flows k earlier (routine p f).code (names_in l)) (depth_of k (names_in l h.place)) h.place v.loops v.steps v.path));
      most = subst (λ xs. NoneHeavier k earlier xs h.weight) is most;
      over = v.over;
    }

-- ---- what a search finds

untold : (p : Program) (f : ℕ) (k : Resource) (earlier : List Budgets) (code : List Instr) → length earlier ≡ f → AreBudgets p earlier → code ≡ (routine p f).code → NoneHeavier k earlier code (limit_of k) ⊎ IsTooHeavy k earlier code → IsUntold p f k
untold p f k earlier code size right is why = record { earlier = earlier; long = size; right = right; why = subst (λ xs. NoneHeavier k earlier xs (limit_of k) ⊎ IsTooHeavy k earlier xs) is why }

pub on_paths : (p : Program) (f : ℕ) (earlier : List Budgets) (code : List Instr) → program_fault p.routines ≡ None → f < length p.routines → IsWellTyped p f → code ≡ (routine p f).code → PointsLieOnPaths earlier code
on_paths p f earlier code fine within typed is = subst (PointsLieOnPaths earlier) (sym is) (lie_on_paths p f earlier fine within typed)

-- in the words of the function
of_function : (s : Search) (p : Program) (f : ℕ) → IsReady s → length s.earlier.now ≡ f → AreBudgets p s.earlier.now → NamesRight p f (names_in s.layout.now) → s.code.now ≡ (routine p f).code → (o : Option Heavy) → MatchOption o (IsNotTold s) (IsHeaviest s) → MatchOption o (IsUntold p f s.resource) (IsHeavy p f s.resource)
of_function s p f ready size right named is None why = untold p f s.resource s.earlier.now s.code.now size right is why
of_function s p f ready size right named is (Some h) w = heavy p f s.resource s.earlier.now s.code.now s.layout.now h size right named ready is w.weighed w.most

-- in the words of the function, if the layout has its typing
pub of_typed : (s : Search) (p : Program) (f : ℕ) (t : Typing) → program_fault p.routines ≡ None → f < length p.routines → length s.earlier.now ≡ f → AreBudgets p s.earlier.now → s.code.now ≡ (routine p f).code → s.layout.now.typing.now ≡ t → IsTyping p f t → IsDeepest t s.layout.now.deepest → (o : Option Heavy) → MatchOption o (IsNotTold s) (IsHeaviest s) → MatchOption o (IsUntold p f s.resource) (IsHeavy p f s.resource)
of_typed s p f t fine within size right is same typed deepest =
    let ready = is_typed_ready p f s.earlier.now s.code.now s.layout.now t fine within size is same typed deepest in
    of_function s p f ready size right (names_right p f s.layout.now fine within (subst (IsTyping p f) (sym same) typed)) is
