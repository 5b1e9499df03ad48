-- The order of the places by weight: how many places come before one, and which are shown.
use Rattle.std.proofs.Common.{◌≡◌, ◌≢◌, ℕ, zero, suc, ◌+◌, ◌<◌, ◌≤◌, ◌⊎◌, List, length, get_or, Bool, true, false, Option, Some, None, inl, inr, refl, sym, ap, ◌∙◌, subst, arith}
use Rattle.std.specs.Prelude.{◌||◌, ◌&&◌, ◌==◌, IfSome, not, nat_lt, sum_by}
use Rattle.std.specs.List.{range_with_len}
use Rattle.std.proofs.lemmas.Bool.{cases_eq, cases_lt, cases_order, or_cases, or_left, or_right, and_parts, and_from, ltb-true, lt-ltb, le-ltb, eqb-true, eq-eqb, not-true, not_from_false, false_from_ne_true}
use Rattle.look_refusal.specs.Order.{comes_after, comes_before, NoneAfter, IsFirstAfter, IsNext, count_to, IsLast, IsLastShown}
use Rattle.look_refusal.specs.Weights.{is_weightier, one_if, rank}
use Rattle.look_refusal.proofs.WeightLemmas.{sum_next}

-- ---- sums of numbers in a row

module _ (f g : ℕ → ℕ) where
  sums_le : (n : ℕ) → ((y : ℕ) → y < n → f y ≤ g y) → sum_by f (range_with_len 0 n) ≤ sum_by g (range_with_len 0 n)
  sums_le zero le = omega arith
  sums_le (suc n) le =
      let below = sums_le n (λ y lt. le y (omega arith)) in
      let here : f n ≤ g n = le n (omega arith) in
      omega (arith, sum_next f n, sum_next g n, below, here)

  -- one of them is less
  sums_less : (n x : ℕ) → x < n → ((y : ℕ) → y < n → f y ≤ g y) → f x < g x → sum_by f (range_with_len 0 n) + 1 ≤ sum_by g (range_with_len 0 n)
  sums_less zero x lt le less = absurd (omega arith)
  sums_less (suc n) x lt le less = elim (cases_lt x n) [
    | inl low ↦ (
        let below = sums_less n x low (λ y h. le y (omega arith)) less in
        let here : f n ≤ g n = le n (omega arith) in
        omega (arith, sum_next f n, sum_next g n, below, here))
    | inr ge ↦ (
        let same : x ≡ n = omega arith in
        let below = sums_le n (λ y h. le y (omega arith)) in
        let here : f n < g n = subst (λ y. f y < g y) same less in
        omega (arith, sum_next f n, sum_next g n, below, here))
  ]

-- one of them is one more
sums_one : (f g : ℕ → ℕ) (n x : ℕ) → x < n → ((y : ℕ) → y < n → y ≢ x → g y ≡ f y) → g x ≡ f x + 1 → sum_by g (range_with_len 0 n) ≡ sum_by f (range_with_len 0 n) + 1
sums_one f g zero x lt same more = absurd (omega arith)
sums_one f g (suc n) x lt same more = elim (cases_lt x n) [
  | inl low ↦ (
      let below = sums_one f g n x low (λ y h ne. same y (omega arith) ne) more in
      let here : g n ≡ f n = same n (omega arith) (omega arith) in
      omega (arith, sum_next f n, sum_next g n, below, here))
  | inr ge ↦ (
      let is : x ≡ n = omega arith in
      let up = sums_le f g n (λ y h. (let e : g y ≡ f y = same y (omega arith) (omega arith) in omega arith)) in
      let down = sums_le g f n (λ y h. (let e : g y ≡ f y = same y (omega arith) (omega arith) in omega arith)) in
      let here : g n ≡ f n + 1 = subst (λ y. g y ≡ f y + 1) is more in
      omega (arith, sum_next f n, sum_next g n, up, down, here))
]

one_le : (a b : Bool) → (a ≡ true → b ≡ true) → one_if a ≤ one_if b
one_le true b h = subst (λ (t : Bool). 1 ≤ one_if t) (sym (h refl)) (omega arith)
one_le false b h = omega arith

-- ---- the order

weightier_is : (a b x y : ℕ) → (nat_lt a b || (b == a && nat_lt y x)) ≡ true → (a < b) ⊎ ((b ≡ a) × (y < x))
weightier_is a b x y e = elim (or_cases (nat_lt a b) (b == a && nat_lt y x) e) [
  | inl less ↦ inl (ltb-true a b less)
  | inr both ↦ (let p = and_parts (b == a) (nat_lt y x) both in inr (eqb-true b a p.0, ltb-true y x p.1))
]

weightier_from : (a b x y : ℕ) → (a < b) ⊎ ((b ≡ a) × (y < x)) → (nat_lt a b || (b == a && nat_lt y x)) ≡ true
weightier_from a b x y (inl less) = or_left (nat_lt a b) (b == a && nat_lt y x) (lt-ltb a b less)
weightier_from a b x y (inr both) = or_right (nat_lt a b) (b == a && nat_lt y x) (and_from (b == a) (nat_lt y x) (eq-eqb b a both.0) (lt-ltb y x both.1))

module _ (shares : List ℕ) where
  over : (x y : ℕ) → is_weightier shares x y ≡ true → (get_or shares x 0 < get_or shares y 0) ⊎ ((get_or shares y 0 ≡ get_or shares x 0) × (y < x))
  over x y = weightier_is (get_or shares x 0) (get_or shares y 0) x y

  is_over : (x y : ℕ) → (get_or shares x 0 < get_or shares y 0) ⊎ ((get_or shares y 0 ≡ get_or shares x 0) × (y < x)) → is_weightier shares x y ≡ true
  is_over x y = weightier_from (get_or shares x 0) (get_or shares y 0) x y

  not_itself : (x : ℕ) → is_weightier shares x x ≡ false
  not_itself x = false_from_ne_true (is_weightier shares x x) (λ e. by (over x x e))
    where
      by : (get_or shares x 0 < get_or shares x 0) ⊎ ((get_or shares x 0 ≡ get_or shares x 0) × (x < x)) → ⊥
      by (inl less) = omega arith
      by (inr both) = omega (arith, both.1)

  through : (x y z : ℕ) → is_weightier shares x y ≡ true → is_weightier shares y z ≡ true → is_weightier shares x z ≡ true
  through x y z p q = is_over x z (by (over x y p) (over y z q))
    where
      by : (get_or shares x 0 < get_or shares y 0) ⊎ ((get_or shares y 0 ≡ get_or shares x 0) × (y < x)) → (get_or shares y 0 < get_or shares z 0) ⊎ ((get_or shares z 0 ≡ get_or shares y 0) × (z < y)) → (get_or shares x 0 < get_or shares z 0) ⊎ ((get_or shares z 0 ≡ get_or shares x 0) × (z < x))
      by (inl a) (inl b) = inl (omega arith)
      by (inl a) (inr b) = inl (omega (arith, b.0))
      by (inr a) (inl b) = inl (omega (arith, a.0))
      by (inr a) (inr b) = inr (b.0 ∙ a.0, omega (arith, a.1, b.1))

  or_else : (x y : ℕ) → x ≢ y → is_weightier shares x y ≡ false → is_weightier shares y x ≡ true
  or_else x y apart out = elim (cases_order (get_or shares x 0) (get_or shares y 0)) [
    | inl same ↦ elim (cases_lt x y) [
      | inl less ↦ is_over y x (inr (same, less))
      | inr ge ↦ (let here : is_weightier shares x y ≡ true = is_over x y (inr (sym same, omega arith)) in absurd (cc))
    ]
    | inr (inl less) ↦ (let here : is_weightier shares x y ≡ true = is_over x y (inl less) in absurd (cc))
    | inr (inr more) ↦ is_over y x (inl more)
  ]

  -- ---- the first of the places after one

  pub next_none : (last : Option ℕ) → IsNext shares last 0 None
  next_none last = λ x lt. absurd (omega arith)

  pub next_taken : (last : Option ℕ) (k : ℕ) (next : Option ℕ) → comes_after shares last k ≡ true → comes_before shares next k ≡ true → IsNext shares last k next → IsNext shares last (k + 1) (Some k)
  next_taken last k None after before none = record {
    below = omega arith;
    after = after;
    first = λ y lt e. elim (cases_lt y k) [
      | inl low ↦ (let out : comes_after shares last y ≡ false = none y low in absurd (cc))
      | inr ge ↦ (let same : k ≡ y = omega arith in subst (λ z. is_weightier shares k z ≡ false) same (not_itself k))
    ];
  }
  next_taken last k (Some b) after before h = record {
    below = omega arith;
    after = after;
    first = λ y lt e. elim (cases_lt y k) [
      | inl low ↦ false_from_ne_true (is_weightier shares k y) (λ over_y. (
          let out : is_weightier shares b y ≡ false = h.first y low e in
          let holds : is_weightier shares b y ≡ true = through b k y before over_y in
          cc))
      | inr ge ↦ (let same : k ≡ y = omega arith in subst (λ z. is_weightier shares k z ≡ false) same (not_itself k))
    ];
  }

  -- a place that doesn't come after the last one
  pub next_past : (last : Option ℕ) (k : ℕ) (next : Option ℕ) → comes_after shares last k ≡ false → IsNext shares last k next → IsNext shares last (k + 1) next
  next_past last k None out none = λ y lt. elim (cases_lt y k) [
    | inl low ↦ none y low
    | inr ge ↦ (let same : k ≡ y = omega arith in subst (λ z. comes_after shares last z ≡ false) same out)
  ]
  next_past last k (Some b) out h = record {
    below = omega (arith, h.below);
    after = h.after;
    first = λ y lt e. elim (cases_lt y k) [
      | inl low ↦ h.first y low e
      | inr ge ↦ (let same : k ≡ y = omega arith in let here : comes_after shares last y ≡ false = subst (λ z. comes_after shares last z ≡ false) same out in absurd (cc))
    ];
  }

  -- a place that doesn't come before the next one
  pub next_kept : (last : Option ℕ) (k : ℕ) (next : Option ℕ) → comes_before shares next k ≡ false → IsNext shares last k next → IsNext shares last (k + 1) next
  next_kept last k None out none = absurd (cc)
  next_kept last k (Some b) out h = record {
    below = omega (arith, h.below);
    after = h.after;
    first = λ y lt e. elim (cases_lt y k) [
      | inl low ↦ h.first y low e
      | inr ge ↦ (let same : k ≡ y = omega arith in subst (λ z. is_weightier shares b z ≡ false) same out)
    ];
  }

  pub next_inside : (last : Option ℕ) (k : ℕ) (next : Option ℕ) → k ≤ length shares → IsNext shares last k next → IfSome next (λ x. x < length shares)
  next_inside last k None le none = tt
  next_inside last k (Some b) le h = omega (arith, le, h.below)

  -- ---- the last of the first places

  pub last_none : IsLast shares 0 None
  last_none = record { inside = tt; count = none (length shares) }
    where
      none : (n : ℕ) → sum_by (λ (x : ℕ). one_if (not (comes_after shares None x))) (range_with_len 0 n) ≡ 0
      none zero = refl
      none (suc n) = sum_next (λ (x : ℕ). one_if (not (comes_after shares None x))) n ∙ ap (λ (m : ℕ). m + 0) (none n)

  pub last_more : (k : ℕ) (last : Option ℕ) (b : ℕ) → IsLast shares k last → IsFirstAfter shares last (length shares) b → IsLast shares (k + 1) (Some b)
  last_more k last b h next = record {
    inside = next.below;
    count =
        sums_one (λ (x : ℕ). one_if (not (comes_after shares last x))) (λ (x : ℕ). one_if (not (comes_after shares (Some b) x))) (length shares) b next.below others here
        ∙ ap (λ (m : ℕ). m + 1) h.count;
  }
    where
      here : one_if (not (comes_after shares (Some b) b)) ≡ one_if (not (comes_after shares last b)) + 1
      here = ap (λ (t : Bool). one_if (not t)) (not_itself b) ∙ ap (λ (t : Bool). one_if (not t) + 1) (sym next.after)

      -- one that doesn't come after the last doesn't come after the next
      still : (o : Option ℕ) (y : ℕ) → comes_after shares o b ≡ true → comes_after shares o y ≡ false → is_weightier shares y b ≡ false
      still None y after out = absurd (cc)
      still (Some l) y after out = false_from_ne_true (is_weightier shares y b) (λ e. (let holds : is_weightier shares y l ≡ true = through y b l e after in cc))

      others : (y : ℕ) → y < length shares → y ≢ b → one_if (not (comes_after shares (Some b) y)) ≡ one_if (not (comes_after shares last y))
      others y lt apart = by (comes_after shares last y) refl
        where
          by : (t : Bool) → comes_after shares last y ≡ t → one_if (not (is_weightier shares y b)) ≡ one_if (not (comes_after shares last y))
          by true e = ap (λ (t : Bool). one_if (not t)) (or_else b y (λ same. apart (sym same)) (next.first y lt e)) ∙ ap (λ (t : Bool). one_if (not t)) (sym e)
          by false e = ap (λ (t : Bool). one_if (not t)) (still last y next.after e) ∙ ap (λ (t : Bool). one_if (not t)) (sym e)

  -- ---- the rank of a place, and the number of places up to the last one

  after_more : (last : Option ℕ) (x : ℕ) → comes_after shares last x ≡ true → count_to shares last ≤ rank shares x
  after_more last x after = sums_le (λ (y : ℕ). one_if (not (comes_after shares last y))) (λ (y : ℕ). one_if (is_weightier shares x y)) (length shares) (λ y lt. one_le (not (comes_after shares last y)) (is_weightier shares x y) (by last after y))
    where
      by : (o : Option ℕ) → comes_after shares o x ≡ true → (y : ℕ) → not (comes_after shares o y) ≡ true → is_weightier shares x y ≡ true
      by None after y e = absurd (cc)
      by (Some b) after y e = elim (cases_eq y b) [
        | inl same ↦ subst (λ z. is_weightier shares x z ≡ true) (sym same) after
        | inr apart ↦ through x b y after (or_else y b apart (not-true (is_weightier shares y b) e))
      ]

  shown_less : (last : Option ℕ) (x : ℕ) → x < length shares → comes_after shares last x ≡ false → rank shares x + 1 ≤ count_to shares last
  shown_less last x inside out = sums_less (λ (y : ℕ). one_if (is_weightier shares x y)) (λ (y : ℕ). one_if (not (comes_after shares last y))) (length shares) x inside (λ y lt. one_le (is_weightier shares x y) (not (comes_after shares last y)) (by last out y)) less
    where
      by : (o : Option ℕ) → comes_after shares o x ≡ false → (y : ℕ) → is_weightier shares x y ≡ true → not (comes_after shares o y) ≡ true
      by None out y e = absurd (cc)
      by (Some b) out y e = not_from_false (is_weightier shares y b) (false_from_ne_true (is_weightier shares y b) (λ f. (let holds : is_weightier shares x b ≡ true = through x y b e f in cc)))

      less : one_if (is_weightier shares x x) < one_if (not (comes_after shares last x))
      less =
          let zero_is : one_if (is_weightier shares x x) ≡ 0 = ap one_if (not_itself x) in
          let one_is : one_if (not (comes_after shares last x)) ≡ 1 = ap (λ (t : Bool). one_if (not t)) out in
          omega arith

  -- the first k places are those of a rank below k
  right_at : (k : ℕ) (last : Option ℕ) (x : ℕ) → count_to shares last ≡ k → k ≤ 50 → (comes_after shares last x ≡ true → 50 ≤ k) → x < length shares → nat_lt (rank shares x) 50 ≡ not (comes_after shares last x)
  right_at k last x count few all inside = by (comes_after shares last x) refl
    where
      by : (t : Bool) → comes_after shares last x ≡ t → nat_lt (rank shares x) 50 ≡ not (comes_after shares last x)
      by true e = (let le = after_more last x e in le-ltb (rank shares x) 50 (omega (arith, count, le, all e))) ∙ ap not (sym e)
      by false e = (let lt = shown_less last x inside e in lt-ltb (rank shares x) 50 (omega (arith, count, lt, few))) ∙ ap not (sym e)

  -- all 50 places were found
  pub shown_all : (last : Option ℕ) → IsLast shares 50 last → IsLastShown shares last
  shown_all last h = record { inside = h.inside; right = λ x lt. right_at 50 last x h.count (omega arith) (λ e. omega arith) lt }

  -- there are no more places
  pub shown_fewer : (k : ℕ) (last : Option ℕ) → k ≤ 50 → IsLast shares k last → NoneAfter shares last (length shares) → IsLastShown shares last
  shown_fewer k last few h none = record { inside = h.inside; right = λ x lt. right_at k last x h.count few (λ e. (let out : comes_after shares last x ≡ false = none x lt in absurd (cc))) lt }
