-- Tests of a range of numbers.
use Rattle.std.proofs.Common.{◌≡◌, ℕ, suc, ◌+◌, ◌-◌, ◌<◌, ◌≤◌, Bool, true, false, ◌||◌, sym, ap, ◌∙◌, arith}
use Rattle.std.specs.List.{range_with_len, list_any}

-- does one of the numbers from q up to n pass?
unfoldable pub any_from : (ℕ → Bool) → ℕ → ℕ → Bool
any_from test q n = list_any test (range_with_len q (n - q))

step_any : (test : ℕ → Bool) (q n : ℕ) → q < n → any_from test q n ≡ test q || any_from test (q + 1) n
unfolding any_from
step_any test q n h =
    let one : n - q ≡ suc (n - (q + 1)) = omega arith in
    ap (λ m. list_any test (range_with_len q m)) one

pub any_next : (test : ℕ → Bool) (q n : ℕ) (b : Bool) → q < n → b ≡ test q → b ≡ false → any_from test (q + 1) n ≡ any_from test q n
any_next test q n b h e f = sym (step_any test q n h ∙ ap (λ x. x || any_from test (q + 1) n) (sym e ∙ f))

pub any_here : (test : ℕ → Bool) (q n : ℕ) (b : Bool) → q < n → b ≡ test q → b ≡ true → true ≡ any_from test q n
any_here test q n b h e t = sym (step_any test q n h ∙ ap (λ x. x || any_from test (q + 1) n) (sym e ∙ t))

pub any_end : (test : ℕ → Bool) (q n : ℕ) → n ≤ q → false ≡ any_from test q n
unfolding any_from
any_end test q n h =
    let none : n - q ≡ 0 = omega arith in
    ap (λ m. list_any test (range_with_len q m)) (sym none)

pub any_all : (test : ℕ → Bool) (n : ℕ) → any_from test 0 n ≡ list_any test (range_with_len 0 n)
unfolding any_from
any_all test n = let z : n - 0 ≡ n = omega arith in ap (λ m. list_any test (range_with_len 0 m)) z
