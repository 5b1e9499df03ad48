-- The passes of all resources at once, resource by resource.
use Rattle.std.proofs.Common.{◌≡◌, ℕ, ◌+◌, ◌-◌, ◌<◌, ◌≤◌, List, [], length, get_or, refl, sym, subst}
use Rattle.std.proofs.Common.{arith, take, replicate, ap, ◌∙◌, min, Option, None, Result, Err}
use Rattle.std.specs.Result.{IsErrAnd}
use Rattle.sts_code.specs.declared.instr.Instr.{Instr}
use Rattle.sts_rules.specs.Budget.{skeleton}
use Rattle.sts_rules.specs.declared.budget.Budgets.{Budgets}
use Rattle.sts_rules.specs.declared.typing.TypedEntry.{TypedEntry}
use Rattle.sts_budget.specs.declared.budgets.BudgetError.{BudgetError}
use Rattle.sts_budget.specs.declared.change.Resource.{Resource}
use Rattle.sts_budget.specs.declared.change.Resource.TheVariants.{Steps, Tasks, Scopes, Binds}
use Rattle.sts_budget.specs.declared.greatest.Top.{Top}
use Rattle.sts_budget.specs.declared.layout.Layout.{Layout}
use Rattle.sts_budget.specs.declared.pass.Pass.{Pass}
use Rattle.sts_budget.specs.declared.together.Source.{Source}
use Rattle.sts_budget.specs.Change.{depth_of, limit_of, own_of, IsMost}
use Rattle.sts_budget.specs.Handing.{handed_value}
use Rattle.sts_budget.specs.Last.{HasBases, IsTop}
use Rattle.sts_budget.specs.Layout.{EntryNames}
use Rattle.sts_budget.specs.Outcome.{IsFound, IsNumber}
use Rattle.sts_budget.specs.Ready.{IsLaidFor, flows_in, names_in}
use Rattle.sts_budget.specs.Row.{IsRaised}
use Rattle.sts_budget.specs.Table.{read, IsPartial, IsRaisedAt, IsSent}
use Rattle.sts_budget.specs.Together.{IsPassOf, over_open, width, most}
use Rattle.sts_budget.specs.TypedNames.{names}
use Rattle.sts_budget.proofs.LastTurns.{limit_small, own_within, bases_none, top_none, finished}
use Rattle.sts_budget.proofs.Named.{named_long}
use Rattle.sts_budget.proofs.Rows.{sent_more}
use Rattle.sts_budget.proofs.Found.{NoneBefore, found_error}

-- what holds for each of the four resources holds for all
pub each : (P : Resource → Type 0) → P Steps → P Tasks → P Scopes → P Binds → (k : Resource) → P k
each P a b c d Steps = a
each P a b c d Tasks = b
each P a b c d Scopes = c
each P a b c d Binds = d

pub as_many : (n : ℕ) (es fs : List TypedEntry) → n ≡ length es → es ≡ fs → n ≡ length (names fs)
as_many n es fs long same = long ∙ ap length same ∙ sym (named_long fs)

pub depth_named : (k : Resource) (n : ℕ) (es : List TypedEntry) → (k ≡ Steps → ⊥) → n ≡ length es → n ≡ depth_of k (names es)
depth_named Steps n es other long = absurd (other refl)
depth_named _ n es other long = as_many n es es long refl

pub open_depth : (k : Resource) (ns : EntryNames) → over_open k (length ns) ≡ depth_of k ns
open_depth Steps ns = refl
open_depth _ ns = refl

pub fits_width : (n : ℕ) (l : Layout) → ((q : ℕ) → length (names_in l q) < n) → (k : Resource) (q : ℕ) → depth_of k (names_in l q) < width n k
fits_width n l fits Steps q = omega arith
fits_width n l fits Tasks q = fits q
fits_width n l fits Scopes q = fits q
fits_width n l fits Binds q = fits q

pub most_small : (k : Resource) → most k < 4294967296
most_small k = omega (arith, limit_small k)

-- the rows at one more place are raised
pub sent_next : (k : Resource) (values : List ℕ) (l : Layout) (places : List ℕ) (i to : ℕ) (before mid after : List (List ℕ)) → i < length places → get_or places i 0 ≡ to → to < length before → IsSent values (λ pc. depth_of k (names_in l pc)) (most k) (take i places) before mid → IsRaisedAt values (over_open k (length (names_in l to))) (most k) to mid after → IsSent values (λ pc. depth_of k (names_in l pc)) (most k) (take (i + 1) places) before after
sent_next k values l places i to before mid after lt is within h (row, r) = subst (IsSent values (λ pc. depth_of k (names_in l pc)) (most k) (take (i + 1) places) before) (sym r.0) (sent_more values (λ pc. depth_of k (names_in l pc)) (most k) places i to before mid row lt is within h (subst (λ n. IsRaised values n (most k) (get_or mid to []) row) (open_depth k (names_in l to)) r.1))

-- no place has been added yet
pub top_start : (k : Resource) (earlier : List Budgets) (code : List Instr) (l : Layout) → IsLaidFor earlier code l → (rows : List (List ℕ)) → IsPartial (skeleton earlier code) (flows_in k earlier code l) (length code) rows → (t : Top) → (t.bases.items ≡ replicate (length code) 0) × (t.greatest ≡ 0) → HasBases k earlier code l rows 0 t.bases.items × IsTop k earlier code l rows 0 t.greatest × (t.greatest ≤ most k)
top_start k earlier code l ready rows whole t e = (bases_none k earlier code l ready rows whole t.bases.items e.0, subst (IsTop k earlier code l rows 0) (sym e.1) (top_none k earlier code l ready rows whole), omega (arith, e.1))

-- all places have been added
pub top_end : (k : Resource) (earlier : List Budgets) (code : List Instr) (l : Layout) → IsLaidFor earlier code l → (rows : List (List ℕ)) → IsPartial (skeleton earlier code) (flows_in k earlier code l) (length code) rows → (t : Top) (pc own : ℕ) → pc ≡ length code → own ≡ own_of k → HasBases k earlier code l rows pc t.bases.items × IsTop k earlier code l rows pc t.greatest × (t.greatest ≤ most k) → IsMost k earlier code (own + t.greatest) × (own + t.greatest ≤ limit_of k)
top_end k earlier code l ready rows whole t pc own n o h =
    (subst (λ x. IsMost k earlier code (x + t.greatest)) (sym o) (finished k earlier code l ready rows whole t.greatest (subst (λ q. IsTop k earlier code l rows q t.greatest) n h.1)), omega (arith, o, h.2, own_within k))

few_wide : (n : ℕ) → n ≤ 17 → (k : Resource) → width n k ≤ 17
few_wide n le Steps = omega arith
few_wide n le _ = le

-- ---- what a pass for one resource needs and gives

-- the greatest sums are those of the places before pc, and none is over m
abbrev pub IsToppedBy : Resource → List Budgets → List Instr → Layout → ℕ → List (List ℕ) → ℕ → Top → Type 0
IsToppedBy k earlier code l m rows pc t = HasBases k earlier code l rows pc t.bases.items × IsTop k earlier code l rows pc t.greatest × (t.greatest ≤ m)

-- the first n sums of each row are those of the open entries, and the table has a row for each place
abbrev pub HasRows : ℕ → ℕ → List (List ℕ) → Resource → List Budgets → List Instr → Layout → ℕ → Type 0
HasRows n pc rows k earlier code l m = IsLaidFor earlier code l × (((q : ℕ) → depth_of k (names_in l q) < n) × ((pc < length code) × (length rows ≡ length code)))

-- a place may be added to these greatest sums
abbrev pub MayAdd : (n pc depth : ℕ) → Option ℕ → List (List ℕ) → Top → Resource → List Budgets → List Instr → Layout → ℕ → Type 0
MayAdd n pc depth head rows t k earlier code l m =
    IsLaidFor earlier code l × ((m ≡ limit_of k - own_of k) × ((n ≤ 17) × (((q : ℕ) → depth_of k (names_in l q) < n) × ((pc < length code) × ((depth ≡ depth_of k (names_in l pc)) × ((head ≡ get_or l.typing.now.loops.heads pc None) × (IsPartial (skeleton earlier code) (flows_in k earlier code l) (length code) rows × IsToppedBy k earlier code l m rows pc t)))))))

pub adds : (k : Resource) (earlier : List Budgets) (code : List Instr) (l : Layout) (m n pc depth : ℕ) (head : Option ℕ) (rows best : List (List ℕ)) → best ≡ rows → (t : Top) → IsLaidFor earlier code l → m ≡ limit_of k - own_of k → n ≤ 17 → ((q : ℕ) → depth_of k (names_in l q) < n) → pc < length code → depth ≡ depth_of k (names_in l pc) → head ≡ get_or l.typing.now.loops.heads pc None
    → IsPartial (skeleton earlier code) (flows_in k earlier code l) (length code) rows → IsToppedBy k earlier code l m rows pc t → MayAdd n pc depth head best t k earlier code l m
adds k earlier code l m n pc depth head rows best same t ready limit small fits in_code deep headed whole h =
    subst (λ b. MayAdd n pc depth head b t k earlier code l m) (sym same) (ready, (limit, (small, (fits, (in_code, (deep, (headed, (whole, h))))))))

module _ (s : Source) (k : Resource) (p : Pass) (is : IsPassOf s k p) where
  -- what holds of the function and the resource holds of the pass, and the other way round
  pub to_pass : (P : Resource → List Budgets → List Instr → Layout → ℕ → Type 0) → P k s.earlier.now s.code.now s.layout.now (most k) → P p.resource p.earlier.now p.code.now p.layout.now p.most
  to_pass P x =
      let l = subst (λ y. P k s.earlier.now s.code.now s.layout.now y) (sym is.most) x in
      let c = subst (λ y. P k s.earlier.now s.code.now y p.most) (sym is.layout) l in
      let e = subst (λ y. P k s.earlier.now y p.layout.now p.most) (sym is.code) c in
      let r = subst (λ y. P k y p.code.now p.layout.now p.most) (sym is.earlier) e in
      subst (λ y. P y p.earlier.now p.code.now p.layout.now p.most) (sym is.resource) r

  pub of_pass : (P : Resource → List Budgets → List Instr → Layout → ℕ → Type 0) → P p.resource p.earlier.now p.code.now p.layout.now p.most → P k s.earlier.now s.code.now s.layout.now (most k)
  of_pass P x =
      let r = subst (λ y. P y p.earlier.now p.code.now p.layout.now p.most) is.resource x in
      let e = subst (λ y. P k y p.code.now p.layout.now p.most) is.earlier r in
      let c = subst (λ y. P k s.earlier.now y p.layout.now p.most) is.code e in
      let l = subst (λ y. P k s.earlier.now s.code.now y p.most) is.layout c in
      subst (λ y. P k s.earlier.now s.code.now s.layout.now y) is.most l

  pub laid_for_pass : IsLaidFor s.earlier.now s.code.now s.layout.now → IsLaidFor p.earlier.now p.code.now p.layout.now
  laid_for_pass ready = to_pass (λ r earlier code l m. IsLaidFor earlier code l) ready

  pub limit_of_pass : p.most ≡ limit_of p.resource - own_of p.resource
  limit_of_pass = to_pass (λ r earlier code l m. m ≡ limit_of r - own_of r) refl

  pub number_of_pass : (o : Result ℕ BudgetError) → IsNumber p.resource p.earlier.now p.code.now o → IsNumber k s.earlier.now s.code.now o
  number_of_pass o h = of_pass (λ r earlier code l m. IsNumber r earlier code o) h

  pub error_of_pass : NoneBefore k s.earlier.now s.code.now → (e : BudgetError) → IsNumber p.resource p.earlier.now p.code.now (Err e) → (r : Result Budgets BudgetError) → IsErrAnd r (λ x. x ≡ e) → IsFound s.earlier.now s.code.now r
  error_of_pass before e h r given = found_error k s.earlier.now s.code.now s.code.now refl before e (number_of_pass (Err e) h) r given

  module _ (rows best : List (List ℕ)) (same : best ≡ rows) where
    -- the sums that it finds are those of the resource
    pub hands : (n pc : ℕ) (values : List ℕ) → ((d : ℕ) → d < n → get_or values d 0 ≡ min (handed_value p.resource p.earlier.now p.code.now p.layout.now (read best) pc d) 18446744073709551615)
        → (d : ℕ) → d < n → get_or values d 0 ≡ min (handed_value k s.earlier.now s.code.now s.layout.now (read rows) pc d) 18446744073709551615
    hands n pc values h =
        subst (λ b. (d : ℕ) → d < n → get_or values d 0 ≡ min (handed_value k s.earlier.now s.code.now s.layout.now (read b) pc d) 18446744073709551615) same
        (of_pass (λ r earlier code l m. (d : ℕ) → d < n → get_or values d 0 ≡ min (handed_value r earlier code l (read best) pc d) 18446744073709551615) h)

    -- and so are the greatest sums
    pub topped : (pc : ℕ) (t : Top) → IsToppedBy p.resource p.earlier.now p.code.now p.layout.now p.most best pc t → IsToppedBy k s.earlier.now s.code.now s.layout.now (most k) rows pc t
    topped pc t h = subst (λ b. IsToppedBy k s.earlier.now s.code.now s.layout.now (most k) b pc t) same (of_pass (λ r earlier code l m. IsToppedBy r earlier code l m best pc t) h)

    module _ (n pc : ℕ) (ready : IsLaidFor s.earlier.now s.code.now s.layout.now) (fits : (q : ℕ) → length (names_in s.layout.now q) < n) (in_code : pc < length s.code.now) where
      -- it may find the sums that a place hands on
      pub has_rows : length rows ≡ length s.code.now → HasRows (width n k) pc best p.resource p.earlier.now p.code.now p.layout.now p.most
      has_rows long = to_pass (HasRows (width n k) pc best) (ready, (fits_width n s.layout.now fits k, (in_code, ap length same ∙ long)))

      -- it may add a place
      pub may_add : (depth : ℕ) (head : Option ℕ) (t : Top) → n ≤ 17 → depth ≡ depth_of k (names_in s.layout.now pc) → head ≡ get_or s.layout.now.typing.now.loops.heads pc None → IsPartial (skeleton s.earlier.now s.code.now) (flows_in k s.earlier.now s.code.now s.layout.now) (length s.code.now) rows
          → IsToppedBy k s.earlier.now s.code.now s.layout.now (most k) rows pc t → MayAdd (width n k) pc depth head best t p.resource p.earlier.now p.code.now p.layout.now p.most
      may_add depth head t small deep headed whole h =
          to_pass (MayAdd (width n k) pc depth head best t) (adds k s.earlier.now s.code.now s.layout.now (most k) (width n k) pc depth head rows best same t ready refl (few_wide n small k) (fits_width n s.layout.now fits k) in_code deep headed whole h)
