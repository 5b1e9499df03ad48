-- The last turns: the greatest sums of all places, from the table.
use Rattle.std.proofs.Common.{◌≡◌, ◌≢◌, ℕ, ◌+◌, ◌-◌, ◌*◌, ◌<◌, ◌≤◌, ◌⊎◌, max, inl, inr, List, [], ◌∷◌, length, get_or, set, replicate, Option, Some, None}
use Rattle.std.proofs.Common.{IfSome, rules, refl, sym, ap, ◌∙◌, subst, arith, length-set, mul-le-mul, get_or-set_same, get_or-set_other}
use Rattle.std.proofs.lemmas.Bool.{cases_eq, cases_lt}
use Rattle.std.proofs.lemmas.List.{length-replicate, get_or_default}
use Rattle.sts_code.specs.declared.instr.Instr.{Instr}
use Rattle.sts_code.specs.declared.instr.Instr.TheVariants.{Times, Next}
use Rattle.sts_rules.specs.Around.{around}
use Rattle.sts_code.specs.Program.{instr_at}
use Rattle.sts_rules.specs.declared.budget.Budgets.{Budgets}
use Rattle.sts_rules.specs.declared.typing.Cause.{Cause}
use Rattle.sts_rules.specs.declared.typing.Cause.TheVariants as cause
use Rattle.sts_rules.specs.Causes.{cause_number}
use Rattle.sts_rules.specs.Budget.{skeleton, shape_of, Exceeds, IsLeastExcess}
use Rattle.sts_rules.specs.ControlPaths.{Skeleton}
use Rattle.sts_budget.specs.declared.change.Resource.{Resource}
use Rattle.sts_budget.specs.declared.layout.Layout.{Layout}
use Rattle.sts_budget.specs.Change.{own_step, own_of, limit_of, cause_of, depth_of, IsMost}
use Rattle.sts_budget.specs.Handing.{base_of, bases_after}
use Rattle.sts_budget.specs.Last.{HasBases, IsTop}
use Rattle.sts_budget.specs.Ready.{IsLaidFor, first_of, names_in, head_in, flows_in}
use Rattle.sts_budget.specs.Structured.{bound_of}
use Rattle.sts_budget.specs.Sums.{Flows, full, turn_base, gain}
use Rattle.sts_budget.specs.Table.{read, IsPartial, Passes}
use Rattle.sts_budget.specs.declared.change.Resource.TheVariants.{Steps, Tasks, Scopes, Binds}
use Rattle.sts_budget.proofs.Forward.{is_table}
use Rattle.sts_budget.proofs.FourKindLemmas.{stands_exceeds, top_is_most}
use Rattle.sts_budget.proofs.HandOn.{fits_here, heads_right, counts_times, counts_next}
use Rattle.sts_budget.proofs.SumsLemmas.{IsTable, point_attained, full_inside, full_outside}
use Rattle.laws_words.proofs.ListLemmas.{zeros}

pub limit_small : (k : Resource) → limit_of k ≤ 1000000
limit_small Steps = omega arith
limit_small _ = omega arith

pub own_within : (k : Resource) → own_of k ≤ limit_of k
own_within Steps = omega arith
own_within _ = omega arith

own_low : (k : Resource) → own_step k ≤ 1
own_low Steps = omega arith
own_low _ = omega arith

is_times_or : (i : Instr) (pc own full end : ℕ) (bases : List ℕ) → ((n : ℕ) × (i ≡ Times n)) ⊎ (((n : ℕ) → i ≡ Times n → ⊥) × (bases_after i pc own full end bases ≡ bases))
is_times_or (Times n) pc own full end bases = inl (n, refl)
is_times_or _ pc own full end bases = inr ((λ m e. (cc)), refl)

-- the bases are small
pub base_small : (bases : List ℕ) (o : Option ℕ) → ((i : ℕ) → get_or bases i 0 < 1125899906842624) → base_of bases o < 1125899906842624
base_small bases None small = omega arith
base_small bases (Some h) small = small h

module _ (k : Resource) (earlier : List Budgets) (code : List Instr) (l : Layout) (ready : IsLaidFor earlier code l) (rows : List (List ℕ)) (whole : IsPartial (skeleton earlier code) (flows_in k earlier code l) (length code) rows) where
  abbrev c : Skeleton
  c = skeleton earlier code

  abbrev f : Flows
  f = flows_in k earlier code l

  abbrev here : ℕ → ℕ
  here pc = full (skeleton earlier code) (flows_in k earlier code l) (around code) (read rows) pc

  table : IsTable c f (read rows)
  table = is_table c (around code) ready.good f (fits_here k earlier code l ready) (head_in l) (heads_right k earlier code l ready) rows whole ready.led

  pub head_small : (pc : ℕ) → pc < length code → (bases : List ℕ) → HasBases k earlier code l rows pc bases → (o d : Option ℕ) → o ≡ get_or l.typing.now.loops.heads pc d → IfSome o (λ h. h < length bases)
  head_small pc lt bases b None d e = search rules
  head_small pc lt bases b (Some h) d e = by (around code pc) refl
    where
      head : Some h ≡ first_of (around code pc)
      head = e ∙ get_or_default l.typing.now.loops.heads pc d None (omega (arith, ready.heads_long)) ∙ ready.heads pc lt

      by : (hs : List ℕ) → around code pc ≡ hs → h < length bases
      by [] is = let z : Some h ≡ None = head ∙ ap first_of is in absurd (cc)
      by (x ∷ xs) is = let z : Some h ≡ Some x = head ∙ ap first_of is in let same : h ≡ x = cc in let less = ready.good.lesser pc x xs is in omega (arith, b.long)

  -- the greatest sum of a place
  pub full_is : (pc : ℕ) → pc < length code → (bases : List ℕ) → HasBases k earlier code l rows pc bases → (o d : Option ℕ) → o ≡ get_or l.typing.now.loops.heads pc d → base_of bases o + read rows pc (depth_of k (names_in l pc)) ≡ here pc
  full_is pc lt bases b o d e = by (around code pc) refl
    where
      head : o ≡ first_of (around code pc)
      head = e ∙ get_or_default l.typing.now.loops.heads pc d None (omega (arith, ready.heads_long)) ∙ ready.heads pc lt

      by : (hs : List ℕ) → around code pc ≡ hs → base_of bases o + read rows pc (depth_of k (names_in l pc)) ≡ here pc
      by [] is =
          let z : base_of bases o ≡ 0 = ap (base_of bases) (head ∙ ap first_of is) in
          let w = full_outside c (around code) ready.good f (fits_here k earlier code l ready) (read rows) table pc is in
          omega arith
      by (x ∷ xs) is =
          let less = ready.good.lesser pc x xs is in
          let n = ready.good.nested pc x xs is in
          let t = ready.known.times x n.0.0 n.0.1 in
          let z : base_of bases o ≡ turn_base c f (around code) (read rows) x = ap (base_of bases) (head ∙ ap first_of is) ∙ b.right x n.0.0 less t in
          let w = full_inside c (around code) ready.good f (fits_here k earlier code l ready) (read rows) table pc x xs is in
          omega arith

  -- if a place's greatest sum is over the limit, some point has a sum over the limit
  pub over : (pc most : ℕ) → pc < length code → most < here pc → Passes c f most
  over pc most lt more =
      (here pc, ((depth_of k (names_in l pc), (pc, (_, (here pc, (omega arith, point_attained c (around code) ready.good f (fits_here k earlier code l ready) (read rows) table pc lt, omega arith))))), more))

  turn_is : (pc n end : ℕ) → instr_at code pc ≡ Times n → end ≡ read rows (c.mate pc) (depth_of k (names_in l pc)) → here pc + own_step k + (n - 1) * (end + own_step k) ≡ turn_base c f (around code) (read rows) pc
  turn_is pc n end t e =
      let lp = ready.good.loop pc n (ap (shape_of pc) t) in
      let m : instr_at code (c.mate pc) ≡ Next = ready.known.next (c.mate pc) lp.3 in
      let d = depth_of k (names_in l pc) in
      let a : f.added pc d ≡ own_step k = counts_times k earlier code l ready pc n d t in
      let g : f.added (c.mate pc) d ≡ own_step k = counts_next k earlier code l ready (c.mate pc) d m in
      let bound : bound_of (c.shape pc) ≡ n = ap (λ i. bound_of (shape_of pc i)) t in
      sym (ap (λ x. here pc + x + (bound_of (c.shape pc) - 1) * gain c f (read rows) pc d) a
      ∙ ap (λ x. here pc + own_step k + (x - 1) * gain c f (read rows) pc d) bound
      ∙ ap (λ x. here pc + own_step k + (n - 1) * (read rows (c.mate pc) d + x)) g
      ∙ ap (λ x. here pc + own_step k + (n - 1) * (x + own_step k)) (sym e))

  pub bases_none : (bases : List ℕ) → bases ≡ replicate (length code) 0 → HasBases k earlier code l rows 0 bases
  bases_none bases e = record {
    long = ap length e ∙ length-replicate (length code) 0;
    right = λ h n lt t. absurd (omega arith);
    small = λ i. (let z : get_or bases i 0 ≡ 0 = ap (λ (xs : List ℕ). get_or xs i 0) e ∙ zeros (length code) i in omega arith);
  }

  pub bases_next : (pc full' end : ℕ) (bases bases' : List ℕ) → pc < length code → HasBases k earlier code l rows pc bases → full' ≡ here pc → full' < 4294967296 → end < 4294967296 → ((n : ℕ) → instr_at code pc ≡ Times n → (n < 65536) × (end ≡ read rows (c.mate pc) (depth_of k (names_in l pc)))) → bases' ≡ bases_after (instr_at code pc) pc (own_step k) full' end bases → HasBases k earlier code l rows (pc + 1) bases'
  bases_next pc full' end bases bases' lt b full_here low low' at e = elim (is_times_or (instr_at code pc) pc (own_step k) full' end bases) [ inl t ↦ subst (HasBases k earlier code l rows (pc + 1)) (sym (e ∙ ap (λ i. bases_after i pc (own_step k) full' end bases) t.1)) (opens t.0 t.1) | inr other ↦ subst (HasBases k earlier code l rows (pc + 1)) (sym (e ∙ other.1)) (same other.0) ]
    where
      same : ((n : ℕ) → instr_at code pc ≡ Times n → ⊥) → HasBases k earlier code l rows (pc + 1) bases
      same no_times = record {
        long = b.long;
        right = λ h n less t. (let ne : h ≢ pc = λ z. no_times n (subst (λ q. instr_at code q ≡ Times n) z t) in b.right h n (omega arith) t);
        small = b.small;
      }

      value : ℕ → ℕ
      value n = full' + own_step k + (n - 1) * (end + own_step k)

      opens : (n : ℕ) → instr_at code pc ≡ Times n → HasBases k earlier code l rows (pc + 1) (set bases pc (value n))
      opens n t =
          let a = at n t in
          let own : own_step k ≤ 1 = own_low k in
          let few : n - 1 ≤ 65535 = omega (arith, a.0) in
          let step : end + own_step k ≤ 4294967296 = omega (arith, own) in
          let product : (n - 1) * (end + own_step k) ≤ 65535 * 4294967296 = mul-le-mul few step in
          let v : value n < 1125899906842624 = omega (arith, product, own) in
          record {
            long = length-set bases pc (value n) ∙ b.long;
            right = λ h m less th. elim (cases_eq h pc) [
              | inl z ↦ (let is : value n ≡ turn_base c f (around code) (read rows) pc = ap (λ x. x + own_step k + (n - 1) * (end + own_step k)) full_here ∙ turn_is pc n end t a.1 in
                  ap (λ q. get_or (set bases pc (value n)) q 0) z ∙ get_or-set_same bases pc (value n) 0 (omega (arith, b.long)) ∙ is ∙ sym (ap (turn_base c f (around code) (read rows)) z))
              | inr ne ↦ (get_or-set_other bases pc h (value n) 0 ne ∙ b.right h m (omega arith) th)
            ];
            small = λ i. elim (cases_eq i pc) [
              | inl z ↦ subst (λ q. get_or (set bases pc (value n)) q 0 < 1125899906842624) (sym z) (subst (λ x. x < 1125899906842624) (sym (get_or-set_same bases pc (value n) 0 (omega (arith, b.long)))) v)
              | inr ne ↦ subst (λ x. x < 1125899906842624) (sym (get_or-set_other bases pc i (value n) 0 ne)) (b.small i)
            ];
          }

  pub top_none : IsTop k earlier code l rows 0 0
  top_none = record { most = λ q lt. absurd (omega arith); attained = inl refl; none_yet = λ e. refl }

  pub top_next : (pc top v : ℕ) → IsTop k earlier code l rows pc top → v ≡ here pc → IsTop k earlier code l rows (pc + 1) (max v top)
  top_next pc top v t is = record {
    most = λ q lt. elim (cases_eq q pc) [ inl e ↦ (let s : here q ≡ here pc = ap (λ x. here x) e in omega arith) | inr ne ↦ (let h = t.most q (omega arith) in omega arith) ];
    attained = inr (elim (cases_lt v top) [ inl lt ↦ old lt | inr ge ↦ (pc, (omega arith, (let m : max v top ≡ v = omega arith in sym is ∙ sym m))) ]);
    none_yet = λ e. absurd (omega arith);
  }
    where
      old : v < top → (q : ℕ) × ((q < pc + 1) × (here q ≡ max v top))
      old lt = elim t.attained [
        | inl e ↦ absurd (omega (arith, t.none_yet e))
        | inr a ↦ (a.0, (omega (arith, a.1.0), (let m : top ≡ max v top = omega arith in a.1.1 ∙ m)))
      ]

  -- one more place has been added
  pub topped_next : (pc v end most : ℕ) (bases bases' : List ℕ) (top top' : ℕ) → pc < length code → HasBases k earlier code l rows pc bases × IsTop k earlier code l rows pc top × (top ≤ most) → v ≡ here pc → v ≤ most → most < 4294967296 → end < 4294967296 → ((n : ℕ) → instr_at code pc ≡ Times n → (n < 65536) × (end ≡ read rows (c.mate pc) (depth_of k (names_in l pc)))) → bases' ≡ bases_after (instr_at code pc) pc (own_step k) v end bases → top' ≡ max v top
      → HasBases k earlier code l rows (pc + 1) bases' × IsTop k earlier code l rows (pc + 1) top' × (top' ≤ most)
  topped_next pc v end most bases bases' top top' lt h is le low low' at after greater =
      (bases_next pc v end bases bases' lt h.0 is (omega arith) low' at after, subst (IsTop k earlier code l rows (pc + 1)) (sym greater) (top_next pc top v h.1 is), omega (arith, h.2))

  pub finished : (top : ℕ) → IsTop k earlier code l rows (length code) top → IsMost k earlier code (own_of k + top)
  finished top t = elim t.attained [
    | inl e ↦ absurd (omega (arith, ready.good.some_code))
    | inr a ↦ top_is_most earlier code (around code) ready.good (names_in l) ready.known k (read rows) table top t.most a.0 a.1.0 a.1.1
  ]

-- the limit is passed
pub exceeds : (k : Resource) (earlier : List Budgets) (code : List Instr) (l : Layout) → IsLaidFor earlier code l → (most : ℕ) → most ≡ limit_of k - own_of k → Passes (skeleton earlier code) (flows_in k earlier code l) most → Exceeds earlier code (cause_of k)
exceeds k earlier code l ready most e (v, h) = stands_exceeds earlier code (around code) ready.good (names_in l) ready.known k v h.0 (omega (arith, h.1))

-- a budget within its limit is no cause
pub no_excess : (k : Resource) (earlier : List Budgets) (code : List Instr) (m : ℕ) → IsMost k earlier code m → m ≤ limit_of k → Exceeds earlier code (cause_of k) → ⊥
no_excess Steps earlier code m h le (x, t) = let top = h.1 x t.0 in omega (arith, t.1)
no_excess Tasks earlier code m h le (x, t) = let top = h.1 x t.0 in omega (arith, t.1)
no_excess Scopes earlier code m h le (x, t) = let top = h.1 x t.0 in omega (arith, t.1)
no_excess Binds earlier code m h le (x, t) = let top = h.1 x t.0 in omega (arith, t.1)

-- the first resource that is over its limit gives the lowest-numbered cause
pub least_excess : (k : Resource) (earlier : List Budgets) (code : List Instr) → Exceeds earlier code (cause_of k) → ((j : Resource) → cause_number (cause_of j) < cause_number (cause_of k) → Exceeds earlier code (cause_of j) → ⊥) → IsLeastExcess earlier code (cause_of k)
least_excess k earlier code here before = (here, less)
  where
    less : (other : Cause) → cause_number other < cause_number (cause_of k) → Exceeds earlier code other → ⊥
    less cause.TooManySteps lt e = before Steps lt e
    less cause.TooManyTasks lt e = before Tasks lt e
    less cause.TooManyScopes lt e = before Scopes lt e
    less cause.TooManyBinds lt e = before Binds lt e
    less _ lt e = e
