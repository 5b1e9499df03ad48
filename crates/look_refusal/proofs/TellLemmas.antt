-- The detail of a cause.
use Rattle.std.proofs.Common.{◌≡◌, ◌≢◌, ℕ, ◌<◌, List, [], ◌++◌, Err, inl, inr, refl, sym, ap, ◌∙◌, subst, arith}
use Rattle.std.proofs.lemmas.List.{append-nil}
use Rattle.sts_code.specs.Program.{Program, routine}
use Rattle.sts_code.specs.declared.instr.Instr.{Instr}
use Rattle.sts_asm.specs.Outline.{Outline}
use Rattle.sts_rules.specs.declared.typing.Cause.{Cause}
use Rattle.sts_rules.specs.declared.typing.Cause.TheVariants.{StatesDiffer, DeadCode, TooManySteps, TooManyTasks, TooManyScopes, TooManyBinds}
use Rattle.sts_rules.specs.declared.budget.Budgets.{Budgets}
use Rattle.sts_rules.specs.Budget.{Exceeds}
use Rattle.sts_rules.specs.Edges.{typing}
use Rattle.sts_rules.specs.Flow.{HasCause, dead, two, edge, turn}
use Rattle.sts_rules.specs.Refusal.{IsUnsound, IsWellTyped, IsTypeRefusal, ill_typed, too_much, IsRefusal}
use Rattle.sts_budget.specs.declared.change.Resource.{Resource}
use Rattle.sts_budget.specs.declared.change.Resource.TheVariants.{Steps, Tasks, Scopes, Binds}
use Rattle.sts_budget.specs.Change.{cause_of, limit_of}
use Rattle.look_refusal.specs.declared.heavy.Heavy.{Heavy}
use Rattle.look_refusal.specs.Heavy.{IsHeavy, IsUntold, NeedsMoreBits, NoneHeavier, Weighs}
use Rattle.sts_rules.proofs.VerdictLemmas.{are_one}
use Rattle.look_refusal.proofs.ForwardLemmas.{never_budget}
use Rattle.look_refusal.specs.Weights.{weight_lines}
use Rattle.look_refusal.specs.declared.ways.Meeting.{Meeting}
use Rattle.look_refusal.specs.Ways.{Meets}
use Rattle.look_refusal.specs.Differences.{difference_lines, SaysDifferences}
use Rattle.sts_asm.specs.Source.{sentence_at}
use Rattle.look_refusal.specs.declared.remedy.Remedy.{Remedy}
use Rattle.look_refusal.specs.Remedies.{IsRemedy}
use Rattle.look_refusal.specs.Lines.{refused_lines}
use Rattle.look_refusal.specs.Output.{Tells, told, meets, weighs, none, IsRefused}
use Rattle.look_refusal.proofs.PartLemmas.{some_differ}

pub nothing_told : (p : Program) (o : Outline) (f pc : ℕ) (c : Cause) (before : List ℕ) → c ≢ StatesDiffer → ((k : Resource) → c ≡ cause_of k → NeedsMoreBits p f k) → Tells p o f pc c before before
nothing_told p o f pc c before other wide = told [] (none other wide) (sym (append-nil before))

-- the cause isn't one of a budget
pub no_budget : (p : Program) (f : ℕ) (c : Cause) → c ≢ TooManySteps → c ≢ TooManyTasks → c ≢ TooManyScopes → c ≢ TooManyBinds → (k : Resource) → c ≡ cause_of k → NeedsMoreBits p f k
no_budget p f c steps tasks scopes binds Steps e = absurd (steps e)
no_budget p f c steps tasks scopes binds Tasks e = absurd (tasks e)
no_budget p f c steps tasks scopes binds Scopes e = absurd (scopes e)
no_budget p f c steps tasks scopes binds Binds e = absurd (binds e)

-- no budget is why ways differ
pub heavy_cause : (k : Resource) → cause_of k ≢ StatesDiffer
heavy_cause Steps e = absurd (cc)
heavy_cause _ e = absurd (cc)

one_resource : (k j : Resource) → cause_of k ≡ cause_of j → k ≡ j
one_resource Steps Steps e = refl
one_resource Tasks Tasks e = refl
one_resource Scopes Scopes e = refl
one_resource Binds Binds e = refl
one_resource k j e = absurd (cc)

-- if ways differ, no budget is over its limit
pub type_refusal : (p : Program) (f pc : ℕ) (c : Cause) → c ≡ StatesDiffer → IsUnsound p f pc c → IsTypeRefusal p f pc StatesDiffer
type_refusal p f pc c e (ill_typed r) = subst (λ (x : Cause). IsTypeRefusal p f pc x) e r
type_refusal p f pc c e (too_much earlier typed long right excess) = absurd (subst (λ (x : Cause). Exceeds earlier (routine p f).code x) e excess.0)

pub meeting_told : (p : Program) (o : Outline) (f pc : ℕ) (m : Meeting) (before after : List ℕ) → Meets p f pc m → SaysDifferences o p f m before after → Tells p o f pc StatesDiffer before after
meeting_told p o f pc m before after is h = told (difference_lines o p f m h.found) (meets m h.found is (some_differ p f pc m h.found is h.differ)) h.said

pub heavy_told : (p : Program) (o : Outline) (f pc : ℕ) (k : Resource) (h : Heavy) (before after : List ℕ) → IsHeavy p f k h → after ≡ before ++ weight_lines o f k h → Tells p o f pc (cause_of k) before after
heavy_told p o f pc k h before after is e = told (weight_lines o f k h) (weighs k h refl is) e

-- ---- a budget is passed in well-typed functions alone

dead_cause : (k : Resource) → DeadCode ≡ cause_of k → ⊥
dead_cause Steps e = absurd (cc)
dead_cause _ e = absurd (cc)

-- no budget is the cause of an instruction by itself
no_cause : (p : Program) (f pc : ℕ) (k : Resource) (c : Cause) → c ≡ cause_of k → HasCause (typing p f) pc c → ⊥
no_cause p f pc k c e (dead d) = dead_cause k e
no_cause p f pc k c e (two t) = heavy_cause k (sym e)
no_cause p f pc k c e (edge s alone fails) = never_budget p f pc s k (fails ∙ ap (λ x. Err x) e)
no_cause p f pc k c e (turn s out alone is differs) = heavy_cause k (sym e)

pub typed_of : (p : Program) (f pc : ℕ) (k : Resource) (c : Cause) → c ≡ cause_of k → IsUnsound p f pc c → IsWellTyped p f
typed_of p f pc k c e (ill_typed r) = absurd (no_cause p f pc k c e r.1)
typed_of p f pc k c e (too_much earlier typed long right excess) = typed

-- more than the limit weighs somewhere
more_weighs : (k : Resource) (earlier : List Budgets) (code : List Instr) → Exceeds earlier code (cause_of k) → (pc : ℕ) × ((m : ℕ) × (Weighs k earlier code pc m × (limit_of k < m)))
more_weighs Steps earlier code (m, (p, over)) = (p.0, (m, ((p.1.0, (p.1.1.0, (p.1.1.1.0, (p.1.1.1.1.0, (p.1.1.1.1.1, p.1.1.1.1.2))))), over)))
more_weighs Tasks earlier code (m, (p, over)) = (p.0, (m, ((p.1.0, (p.1.1.0, (p.1.1.1.0, p.1.1.1.1))), over)))
more_weighs Scopes earlier code (m, (p, over)) = (p.0, (m, ((p.1.0, (p.1.1.0, (p.1.1.1.0, p.1.1.1.1))), over)))
more_weighs Binds earlier code (m, (p, over)) = (p.0, (m, ((p.1.0, (p.1.1.0, (p.1.1.1.0, p.1.1.1.1))), over)))

-- if a budget over its limit has no detail, more bits are needed
pub untold_wide : (p : Program) (f pc : ℕ) (k : Resource) (c : Cause) → c ≡ cause_of k → IsUnsound p f pc c → IsUntold p f k → NeedsMoreBits p f k
untold_wide p f pc k c e (ill_typed r) u = absurd (no_cause p f pc k c e r.1)
untold_wide p f pc k c e (too_much earlier typed long right excess) u = elim u.why [ inl light ↦ absurd (too_light light) | inr wide ↦ record { earlier = u.earlier; long = u.long; right = u.right; more = wide } ]
  where
    code : List Instr
    code = (routine p f).code

    too_light : NoneHeavier k u.earlier (routine p f).code (limit_of k) → ⊥
    too_light light =
        let same : earlier ≡ u.earlier = are_one p earlier u.earlier (long ∙ sym u.long) right u.right in
        let over = more_weighs k u.earlier code (subst (λ x. Exceeds u.earlier (routine p f).code x) e (subst (λ bs. Exceeds bs (routine p f).code c) same excess.0)) in
        let le = light over.0 over.1.0 over.1.1.0 in
        omega (arith, over.1.1.1)

pub untold_budget : (p : Program) (f pc : ℕ) (k : Resource) → IsUnsound p f pc (cause_of k) → IsUntold p f k → (j : Resource) → cause_of k ≡ cause_of j → NeedsMoreBits p f j
untold_budget p f pc k is u j e = subst (NeedsMoreBits p f) (one_resource k j e) (untold_wide p f pc k (cause_of k) refl is u)

-- ---- a refusal

pub refused_as : (p : Program) (o : Outline) (f pc : ℕ) (c : Cause) (remedy : Remedy) (bytes : List ℕ) → IsRefusal p f pc c → IsRemedy p f pc c remedy → Tells p o f pc c (refused_lines p (sentence_at o f pc) f c remedy) bytes → IsRefused p o (record { bytes = bytes; status = 4 })
refused_as p o f pc c remedy bytes r m (told detail is e) = record { function = f; place = pc; cause = c; remedy = remedy; detail = detail; refusal = r; right = m; told = is; printed = ap (λ (b : List ℕ). record { bytes = b; status = 4 }) e }
