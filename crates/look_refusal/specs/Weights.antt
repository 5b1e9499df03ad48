-- The lines of a path, or of a point of one, that is over a budget (this project's own).
use Rattle.std.specs.Prelude.{ℕ, List, [], ◌++◌, Bool, ◌&&◌, ◌||◌, ◌==◌, nat_lt, not, length}
use Rattle.std.specs.Prelude.{get_or, if◌then◌else◌, sum_by, codes}
use Rattle.std.specs.List.{flat_map, range_with_len}
use Rattle.std.specs.Fmt.{decimal}
use Rattle.sts_asm.specs.Outline.{Outline}
use Rattle.sts_asm.specs.Source.{sentence_at}
use Rattle.sts_budget.specs.declared.change.Resource.{Resource}
use Rattle.sts_budget.specs.declared.change.Resource.TheVariants.{Steps, Tasks, Scopes, Binds}
use Rattle.look_refusal.specs.declared.heavy.Heavy.{Heavy}
use Rattle.look_text.specs.Lines.{place_words}

abbrev pub count_words : Resource → List ℕ
count_words Steps = codes " steps on a path that ends here"
count_words Tasks = codes " tasks count here"
count_words Scopes = codes " scopes are open here"
count_words Binds = codes " bindings are open here"

-- the line of the function's own part, outside its instructions
abbrev pub own_line : Resource → List ℕ
own_line Steps = codes "adds 1, its last step\n"
own_line Tasks = codes "adds 1, the task itself\n"
own_line Scopes = []
own_line Binds = []

-- ---- which lines are shown

-- does the place y add more than the place x, or the same and comes before it?
abbrev pub is_weightier : List ℕ → ℕ → ℕ → Bool
is_weightier shares x y =
    nat_lt (get_or shares x 0) (get_or shares y 0)
    || (get_or shares y 0 == get_or shares x 0 && nat_lt y x)

abbrev pub one_if : Bool → ℕ
one_if b = if b then 1 else 0

-- how many places are weightier
abbrev pub rank : List ℕ → ℕ → ℕ
rank shares x = sum_by (λ y. one_if (is_weightier shares x y)) (range_with_len 0 (length shares))

-- the 50 weightiest that add anything
abbrev pub is_shown : List ℕ → ℕ → Bool
is_shown shares x = nat_lt 0 (get_or shares x 0) && nat_lt (rank shares x) 50

-- does another add something?
abbrev pub is_other : List ℕ → ℕ → Bool
is_other shares x = nat_lt 0 (get_or shares x 0) && not (is_shown shares x)

-- how many others do
abbrev pub others : List ℕ → ℕ
others shares = sum_by (λ x. one_if (is_other shares x)) (range_with_len 0 (length shares))

-- ---- the lines

-- `adds 998999, line 4: times 2001`
abbrev pub share_line : Outline → ℕ → List ℕ → ℕ → List ℕ
share_line o f shares x =
    if is_shown shares x
    then codes "adds " ++ decimal (get_or shares x 0) ++ place_words (sentence_at o f x)
    ++ codes "\n"
    else []

abbrev pub share_lines : Outline → ℕ → List ℕ → List ℕ
share_lines o f shares = flat_map (share_line o f shares) (range_with_len 0 (length shares))

abbrev pub others_line : ℕ → List ℕ
others_line count =
    if count == 0 then []
    else codes "other lines that add something, none of them more: " ++ decimal count ++ codes "\n"

-- `1000001 steps on a path that ends here, line 11: ret`
abbrev pub weight_line : Outline → ℕ → Resource → Heavy → List ℕ
weight_line o f k h =
    decimal h.weight ++ count_words k ++ place_words (sentence_at o f h.place) ++ codes "\n"

-- the weight, and what each instruction of the path adds to it
abbrev pub weight_lines : Outline → ℕ → Resource → Heavy → List ℕ
weight_lines o f k h =
    weight_line o f k h ++ share_lines o f h.shares.items ++ others_line (others h.shares.items)
    ++ own_line k
