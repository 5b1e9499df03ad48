-- Integers have no float, and a name as a member brings none.
use Rattle.std.proofs.Common.{◌≡◌, ℕ, ℤ, List, [], ◌∷◌, Option, Some, None, false, refl, Ordering, Less, Equal, Greater}
use Rattle.std.specs.Cmp.Lexicographic.{slice_cmp}
use Rattle.std.specs.Ordering.{match_ordering, nat_cmp}
use Rattle.std.specs.Prelude.{codes, option_and_then}
use Rattle.std.proofs.lemmas.Bool.{or_from, or_parts}
use Rattle.serde_json.specs.Data.{Data, object, string, Members, no_members, member, put}
use Rattle.serde_json.specs.View.{items_of}
use Rattle.serde_json.specs.Written.{has_float, items_have_float, members_have_float}
use Rattle.look_cases.proofs.FloatLemmas.{integer_plain}
use Rattle.look_names.specs.Names.{function_name, line_name}
use Rattle.look_views.specs.Named.{line_at, named, placed, with_member}
use Rattle.look_views.specs.Task.{integers}

pub integers_plain : (zs : List ℤ) → items_have_float (items_of (integers zs)) ≡ false
integers_plain [] = refl
integers_plain (z ∷ zs) = or_from _ _ (integer_plain z) (integers_plain zs)

either_plain : (o : Ordering) (a b c : Members) → members_have_float a ≡ false → members_have_float b ≡ false → members_have_float c ≡ false → members_have_float (match_ordering o a b c) ≡ false
either_plain Less a b c h k l = h
either_plain Equal a b c h k l = k
either_plain Greater a b c h k l = l

put_plain : (key text : List ℕ) (ms : Members) → members_have_float ms ≡ false → members_have_float (put key (string text) ms) ≡ false
put_plain key text no_members h = refl
put_plain key text (member k d ms) h =
    let parts = or_parts (has_float d) (members_have_float ms) h in
    either_plain (slice_cmp nat_cmp key k) _ _ _ h parts.1 (or_from _ _ parts.0 (put_plain key text ms parts.1))

with_member_plain : (key text : List ℕ) (d : Data) → has_float d ≡ false → has_float (with_member key (string text) d) ≡ false
with_member_plain key text (object ms) h = put_plain key text ms h
with_member_plain key text _ h = h

pub named_plain : (key : List ℕ) (name : Option (List ℕ)) (d : Data) → has_float d ≡ false → has_float (named key name d) ≡ false
named_plain key None d h = h
named_plain key (Some name) d h = with_member_plain key name d h

pub placed_plain : (text : List ℕ) (f pc : ℕ) (d : Data) → has_float d ≡ false → has_float (placed text f pc d) ≡ false
placed_plain text f pc d h =
    let function = named (codes "function_name") (function_name text f) d in
    named_plain (codes "line_name") (option_and_then (line_name text) (line_at text f pc)) function (named_plain (codes "function_name") (function_name text f) d h)
