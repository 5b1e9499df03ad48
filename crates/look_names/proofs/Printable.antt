-- Printable bytes are a text.
use Rattle.std.proofs.Common.{◌≡◌, ℕ, ◌<◌, true, List, arith}
use Rattle.std.specs.List.{list_all}
use Rattle.std.specs.Str.{IsUtf8}
use Rattle.std.proofs.lemmas.Str.{IsUtf8-from_ascii}
use Rattle.std.proofs.lemmas.Bool.Decides.{nat_tests}
use Rattle.sts_asm.proofs.NameLemmas.{all_ascii}
use Rattle.look_names.specs.Marked.{is_printable}

small : (c : ℕ) → is_printable c ≡ true → c < 128
small c e = grind (arith, nat_tests)

pub printable_is_text : (bs : List ℕ) → list_all is_printable bs ≡ true → IsUtf8 bs
printable_is_text bs e = IsUtf8-from_ascii bs (all_ascii is_printable small bs e)
