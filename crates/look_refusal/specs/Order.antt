-- The order of the places by weight, and the last place that is shown (this project's own).
use Rattle.std.specs.Prelude.{◌≡◌, ℕ, ◌<◌, List, Bool, true, false, not, Option, Some, None, IfSome}
use Rattle.std.specs.Prelude.{MatchOption, length, nat_lt, sum_by}
use Rattle.std.specs.List.{range_with_len}
use Rattle.look_refusal.specs.Weights.{is_weightier, one_if, rank}

-- does the place come after the last one in the order? If there is none, each place does
abbrev pub comes_after : List ℕ → Option ℕ → ℕ → Bool
comes_after shares None x = true
comes_after shares (Some last) x = is_weightier shares x last

-- does the place come before the next one? If there is none, each place does
abbrev pub comes_before : List ℕ → Option ℕ → ℕ → Bool
comes_before shares None x = true
comes_before shares (Some next) x = is_weightier shares next x

-- no place below k comes after this one
abbrev pub NoneAfter : List ℕ → Option ℕ → ℕ → Type 0
NoneAfter shares last k = (x : ℕ) → x < k → comes_after shares last x ≡ false

-- the first of the places below k that come after this one
pub record IsFirstAfter (shares : List ℕ) (last : Option ℕ) (k x : ℕ) : Type 0 where
  pub below : x < k
  pub after : comes_after shares last x ≡ true
  pub first : (y : ℕ) → y < k → comes_after shares last y ≡ true → is_weightier shares x y ≡ false

-- that one, if there is one
abbrev pub IsNext : List ℕ → Option ℕ → ℕ → Option ℕ → Type 0
IsNext shares last k next = MatchOption next (NoneAfter shares last k) (IsFirstAfter shares last k)

-- how many places there are up to this one
abbrev pub count_to : List ℕ → Option ℕ → ℕ
count_to shares last =
    sum_by (λ x. one_if (not (comes_after shares last x))) (range_with_len 0 (length shares))

-- the last of the first k places
pub record IsLast (shares : List ℕ) (k : ℕ) (last : Option ℕ) : Type 0 where
  pub inside : IfSome last (λ x. x < length shares)
  pub count : count_to shares last ≡ k

-- the last of those whose rank lets them be shown
pub record IsLastShown (shares : List ℕ) (last : Option ℕ) : Type 0 where
  pub inside : IfSome last (λ x. x < length shares)
  pub right : (x : ℕ) → x < length shares
      → nat_lt (rank shares x) 50 ≡ not (comes_after shares last x)
