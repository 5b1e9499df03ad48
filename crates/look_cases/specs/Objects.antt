-- Objects of JSON, built member by member (this project's own).
use Rattle.std.specs.Prelude.{◌≡◌, ℕ, List, [], ◌∷◌, IfOk, Result, String, Vec, string_bytes}
use Rattle.std.specs.Borrow.{Bor}
use Rattle.std.specs.declared.alloc.AllocError.{AllocError}
use Rattle.std.specs.declared.alloc.Global.{Global}
use Rattle.serde_json.specs.Data.{Data, Items, Members, boolean, put, string}
use Rattle.serde_json.specs.View.{items_view, view}
use Rattle.serde_json.specs.declared.value.Value.{Value}
use Rattle.look_cases.specs.Json.{count, count_or_null, integer}
use Rattle.look_cases.specs.declared.objects.Scalar.{Scalar}
use Rattle.look_cases.specs.declared.objects.Scalar.TheVariants.{Text, Count, MaybeCount, Integer, Flag}

abbrev pub data_of : Scalar → Data
data_of (Text t) = string t.now
data_of (Count n) = count n
data_of (MaybeCount n) = count_or_null n
data_of (Integer z) = integer z
data_of (Flag b) = boolean b

-- an object with these members too, put one after the other
abbrev pub all_put : List (Bor (List ℕ) × Scalar) → Members → Members
all_put [] ms = ms
all_put (p ∷ ps) ms = all_put ps (put p.0.now (data_of p.1) ms)

-- if memory was enough, it is this value
abbrev pub Makes : Data → Result Value AllocError → Type 0
Makes d made = IfOk made (λ v. view v ≡ d)

-- if memory was enough, it is this list
abbrev pub MakesList : Items → Result (Vec Value Global) AllocError → Type 0
MakesList ds made = IfOk made (λ l. items_view l.items ≡ ds)

-- if memory was enough, it is this text
abbrev pub MakesText : List ℕ → Result (String Global) AllocError → Type 0
MakesText t made = IfOk made (λ s. string_bytes s ≡ t)
