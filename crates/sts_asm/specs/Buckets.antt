-- How names are spread over buckets, so that each is found among few (this project's own).
use Rattle.std.specs.Prelude.{◌≡◌, ℕ, ◌+◌, ◌*◌, ◌%◌, ◌<◌, List, Option, Some, None, fold, length}
use Rattle.std.specs.Prelude.{if◌then◌else◌}
use Rattle.std.specs.Borrow.{Bor}
use Rattle.std.specs.List.{slice_get}
use Rattle.std.specs.Ordering.{nat_cmp}
use Rattle.std.specs.Cmp.Lexicographic.{slice_cmp}
use Rattle.std.specs.BTreeMap.{BTreeMap, get_by}
use Rattle.std.specs.Str.{bytes_eq}
use Rattle.sts_asm.specs.Marks.{Mark, marked}

-- the number that a name's bytes are mixed into, with one byte more
abbrev pub with_byte : ℕ → ℕ → ℕ
with_byte mixed byte = (mixed * 67 % 65536 + byte) % 65536

abbrev pub mixed : List ℕ → ℕ
mixed name = fold with_byte 0 name

abbrev pub bucket_of : List ℕ → ℕ
bucket_of name = mixed name % 1024

-- the place of the first name of a bucket, if there is such a bucket and it has a name
abbrev pub first_in : Option (Option ℕ) → Option ℕ
first_in None = None
first_in (Some first) = first

abbrev pub first_of : List (Option ℕ) → ℕ → Option ℕ
first_of firsts bucket = first_in (slice_get firsts bucket)

-- what the map of the other names says of a name
abbrev pub other_of : BTreeMap (Bor (List ℕ)) ℕ → List ℕ → Option ℕ
other_of others name = get_by (λ k. slice_cmp nat_cmp name k.now) others

-- what the first name of a bucket says of a name, or else the map
abbrev pub told_by : Option Mark → BTreeMap (Bor (List ℕ)) ℕ → List ℕ → Option ℕ
told_by None others name = other_of others name
told_by (Some mark) others name =
    if bytes_eq mark.name name then Some mark.at else other_of others name

-- the same, given the place of the bucket's first name; a bucket without names says nothing
abbrev pub told : List Mark → BTreeMap (Bor (List ℕ)) ℕ → Option ℕ → List ℕ → Option ℕ
told marks others None name = None
told marks others (Some place) name = told_by (slice_get marks place) others name

-- what a name's own bucket says of it
abbrev pub found_in : List Mark → List (Option ℕ) → BTreeMap (Bor (List ℕ)) ℕ → List ℕ → Option ℕ
found_in marks firsts others name = told marks others (first_of firsts (bucket_of name)) name

-- Names are found by their buckets. The map has no name of a bucket without a first name.
pub record AreFound (marks : List Mark) (firsts : List (Option ℕ))
    (others : BTreeMap (Bor (List ℕ)) ℕ) : Type 0 where
  pub found : (q : List ℕ) → found_in marks firsts others q ≡ marked marks q
  pub within : (bucket place : ℕ) → first_of firsts bucket ≡ Some place → place < length marks
  pub apart : (q : List ℕ) → first_of firsts (bucket_of q) ≡ None → other_of others q ≡ None
