-- The journal has the events that the dues gave.
use Rattle.std.proofs.Common.{◌≡◌, ℕ, zero, suc, ◌≤◌, ◌<◌, List, [], ◌∷◌, ◌++◌, length, take, drop, Bool, true, false, Some, None, ◌⊎◌, inl, inr, refl, sym, ap, ◌∙◌, subst, arith}
use Rattle.std.proofs.lemmas.Bool.Decides.{nat_tests}
use Rattle.std.proofs.lemmas.Option.{slice_get_past}
use Rattle.std.specs.Prelude.{IfSome, IsSomeAnd, nat_le, if◌then◌else◌, slice_get}
use Rattle.sts_model.specs.declared.event.Event.{Event}
use Rattle.sts_model.specs.declared.event.Event.TheVariants.{Step}
use Rattle.sts_trace.specs.declared.outside.Due.{Due}
use Rattle.sts_pool.specs.Outside as outside
use Rattle.sts_pool.specs.Outside.{Gave, IsGiven, IsOutside, outside_entries}
use Rattle.sts_pool.proofs.OutsideLemmas.{entries_more, one_outside}
use Rattle.sts_cli.specs.Dues.{AreGiven, dues_give}

-- ---- an entry more

-- an entry of a longer list is one of the list, or the last
at_more : (xs : List Event) (x e : Event) (k : ℕ) → slice_get (xs ++ x ∷ []) k ≡ Some e
    → ((slice_get xs k ≡ Some e) × (take k (xs ++ x ∷ []) ≡ take k xs)) ⊎ ((k ≡ length xs) × (e ≡ x) × (take k (xs ++ x ∷ []) ≡ xs))
at_more [] x e zero is = inr (refl, (let same : x ≡ e = cc in sym same), refl)
at_more [] x e (suc k) is = absurd (cc)
at_more (y ∷ xs) x e zero is = inl (is, refl)
at_more (y ∷ xs) x e (suc k) is = elim (at_more xs x e k is) [ inl h ↦ inl (h.0, ap (λ ys. y ∷ ys) h.1) | inr h ↦ inr (ap suc h.0, h.1, ap (λ ys. y ∷ ys) h.2) ]

-- ---- the events of the text

-- the next one, and those that are left
next_one : (xs : List Due) (j : ℕ) (d : Due) (ds : List Due) → drop j xs ≡ d ∷ ds → (slice_get xs j ≡ Some d) × (ds ≡ drop (suc j) xs)
next_one [] zero d ds is = absurd (cc)
next_one [] (suc j) d ds is = absurd (cc)
next_one (x ∷ xs) zero d ds is = (let same : x ≡ d = cc in ap Some same, let rest : xs ≡ ds = cc in sym rest)
next_one (x ∷ xs) (suc j) d ds is = next_one xs j d ds is

-- if an event came, it was the next one, and was due
given_next : (xs : List Due) (j n : ℕ) (now later : List Due) (e : Event) → now ≡ drop j xs → dues_give now n (Some e) later
    → IsSomeAnd (slice_get xs j) (λ d. (d.event ≡ e) × (d.at ≤ n)) × (later ≡ drop (suc j) xs)
given_next xs j n [] later e at gave = let none : Some e ≡ None = gave.0 in absurd (cc)
given_next xs j n (d ∷ ds) later e at gave = by_test (nat_le d.at n) refl
  where
    by_test : (b : Bool) → nat_le d.at n ≡ b → IsSomeAnd (slice_get xs j) (λ d. (d.event ≡ e) × (d.at ≤ n)) × (later ≡ drop (suc j) xs)
    by_test true due =
        let here = next_one xs j d ds (sym at) in
        let said : Some e ≡ (if true then Some d.event else None) = subst (λ b. Some e ≡ (if b then Some d.event else None)) due gave.0 in
        let rest : later ≡ (if true then ds else d ∷ ds) = subst (λ b. later ≡ (if b then ds else d ∷ ds)) due gave.1 in
        let same : e ≡ d.event = cc in
        let within : d.at ≤ n = grind (arith, nat_tests) in
        (subst (λ o. IsSomeAnd o (λ d. (d.event ≡ e) × (d.at ≤ n))) (sym here.0) (sym same, within), rest ∙ here.1)
    by_test false due =
        let said : Some e ≡ (if false then Some d.event else None) = subst (λ b. Some e ≡ (if b then Some d.event else None)) due gave.0 in
        absurd (cc)

-- if none came, the text is at its end or the next one isn't due
given_none : (xs : List Due) (j n : ℕ) (later : List Due) → dues_give (drop j xs) n None later → (later ≡ drop j xs) × IfSome (slice_get xs j) (λ d. n < d.at)
given_none [] zero n later gave = (gave.1, tt)
given_none [] (suc j) n later gave = (gave.1, tt)
given_none (d ∷ ds) (suc j) n later gave = given_none ds j n later gave
given_none (d ∷ ds) zero n later gave = by_test (nat_le d.at n) refl
  where
    by_test : (b : Bool) → nat_le d.at n ≡ b → (later ≡ d ∷ ds) × (n < d.at)
    by_test true due =
        let said : None ≡ (if true then Some d.event else None) = subst (λ b. None ≡ (if b then Some d.event else None)) due gave.0 in
        absurd (cc)
    by_test false due =
        let rest : later ≡ (if false then ds else d ∷ ds) = subst (λ b. later ≡ (if b then ds else d ∷ ds)) due gave.1 in
        let beyond : n < d.at = grind (arith, nat_tests) in
        (rest, beyond)

-- ---- the journal

-- each interrupt and expiry is the next event, and was due
abbrev Came : List Due → List Event → Type 0
Came dues journal =
    (k : ℕ) (e : Event) → slice_get journal k ≡ Some e → IsOutside e → IsSomeAnd (slice_get dues (outside_entries (take k journal))) (λ d. (d.event ≡ e) × (d.at ≤ k))

no_step : (e : Event) (t : ℕ) → e ≡ Step t → IsOutside e → ⊥
no_step (Step u) t is outer = absurd (cc)
no_step _ t is outer = absurd (cc)

gave_came : (dues : List Due) {journal : List Event} {left : List Due} → Gave dues_give dues journal left → Came dues journal × (left ≡ drop (outside_entries journal) dues)
gave_came dues outside.opening = ((λ k e is outer. absurd (cc)), refl)
gave_came dues (outside.step journal now t gave) =
    let before = gave_came dues gave in
    let more = entries_more journal (Step t ∷ []) in
    let same : outside_entries (journal ++ Step t ∷ []) ≡ outside_entries journal = omega (arith, more) in (
      (λ k e is outer. elim (at_more journal (Step t) e k is) [
        | inl h ↦ subst (λ es. IsSomeAnd (slice_get dues (outside_entries es)) (λ d. (d.event ≡ e) × (d.at ≤ k))) (sym h.1) (before.0 k e h.0 outer)
        | inr h ↦ absurd (no_step e t h.1 outer)
      ]),
      before.1 ∙ ap (λ n. drop n dues) (sym same),
    )
gave_came dues (outside.nothing journal now later gave none) =
    let before = gave_came dues gave in
    let rest = given_none dues (outside_entries journal) (length journal) later (subst (λ ds. dues_give ds (length journal) None later) before.1 none) in
    (before.0, rest.0)
gave_came dues (outside.event journal now later x gave outer some) =
    let before = gave_came dues gave in
    let next = given_next dues (outside_entries journal) (length journal) now later x before.1 some in
    let more = entries_more journal (x ∷ []) in
    let one = one_outside x 0 outer in
    let long : outside_entries (journal ++ x ∷ []) ≡ suc (outside_entries journal) = omega (arith, more, one) in (
      (λ k e is also. elim (at_more journal x e k is) [
        | inl h ↦ subst (λ es. IsSomeAnd (slice_get dues (outside_entries es)) (λ d. (d.event ≡ e) × (d.at ≤ k))) (sym h.1) (before.0 k e h.0 also)
        | inr h ↦ last k e h.0 h.1 h.2 next.0
      ]),
      next.1 ∙ ap (λ n. drop n dues) (sym long),
    )
  where
    last : (k : ℕ) (e : Event) → k ≡ length journal → e ≡ x → take k (journal ++ x ∷ []) ≡ journal → IsSomeAnd (slice_get dues (outside_entries journal)) (λ d. (d.event ≡ x) × (d.at ≤ length journal)) → IsSomeAnd (slice_get dues (outside_entries (take k (journal ++ x ∷ [])))) (λ d. (d.event ≡ e) × (d.at ≤ k))
    last k e at is taken h =
        subst (λ es. IsSomeAnd (slice_get dues (outside_entries es)) (λ d. (d.event ≡ e) × (d.at ≤ k))) (sym taken)
        (subst (λ m. IsSomeAnd (slice_get dues (outside_entries journal)) (λ d. (d.event ≡ e) × (d.at ≤ m))) (sym at)
        (subst (λ y. IsSomeAnd (slice_get dues (outside_entries journal)) (λ d. (d.event ≡ y) × (d.at ≤ length journal))) (sym is) h))

-- no text has more events than a run takes
pub are_given : (dues : List Due) (journal : List Event) → length dues ≤ 4096 → IsGiven dues_give dues journal → AreGiven dues journal
are_given dues journal few is =
    let came = gave_came dues is.gave in
    let at_end : (((later : List Due) × dues_give is.left (length journal) None later) ⊎ (outside_entries journal ≡ 4096)) → IfSome (slice_get dues (outside_entries journal)) (λ d. length journal < d.at)
    = elim [
      | inl h ↦ (given_none dues (outside_entries journal) (length journal) h.0 (subst (λ ds. dues_give ds (length journal) None h.0) came.1 h.1)).1
      | inr full ↦ all_came full
    ]
    in
    record { came = came.0; left = at_end is.spent }
  where
    all_came : outside_entries journal ≡ 4096 → IfSome (slice_get dues (outside_entries journal)) (λ d. length journal < d.at)
    all_came full =
        let past : slice_get dues (outside_entries journal) ≡ None = slice_get_past dues (outside_entries journal) (omega (arith, few, full)) in
        subst (λ o. IfSome o (λ d. length journal < d.at)) (sym past) tt
