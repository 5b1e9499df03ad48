use Rattle.std.proofs.Common.{◌≡◌, ℕ, List, drop}
use Rattle.look_text.specs.Names.{functions_stop, unknown_name}
use Rattle.look_text.specs.NearName.{near_in}
use Rattle.look_text.proofs.wrong.no_name_in.Given as goal

-- each word of the functions so far that should name something does
abbrev pub invariant-loop-function : goal.invariant-loop-function
invariant-loop-function l = record {
  unknown : unknown_name l.outline ≡ functions_stop l.outline.functions (drop l.function l.outline.done);
  near : (text : List ℕ) → near_in text l.outline l.outline.done ≡ near_in text l.outline (drop l.function l.outline.done);
}
