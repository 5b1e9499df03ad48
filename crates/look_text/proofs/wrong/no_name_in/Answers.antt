use Rattle.std.proofs.Common.{rules, ◌≡◌, ◌<◌, ◌+◌, length, None, Option, drop, refl, ap, ◌∙◌}
use Rattle.std.proofs.Math.ListN.{drop_of_length-le}
use Rattle.std.specs.Prelude.{slice_get}
use Rattle.std.specs.Option.{option_or}
use Rattle.sts_asm.specs.Source.{names_at, sentences_of}
use Rattle.look_text.specs.Names.{functions_stop, lines_stop}
use Rattle.look_text.specs.NearName.{near_in, near_or}
use Rattle.look_text.specs.Wanted.{Stop}
use Rattle.look_text.proofs.NameLineLemmas.{functions_stop_at}
use Rattle.look_text.proofs.NearNameLemmas.{near_in_at}
use Rattle.look_text.proofs.wrong.no_name_in.Goals as goal

pub loop-function-init : goal.loop-function-init
loop-function-init c = record { unknown = refl; near = λ text. refl }

pub returns-in-Some : goal.returns-in-Some
returns-in-Some c =
    let known = c.loop-function.invariant in
    record { within = search rules; stops = c.in-Some.ensures; unknown = known.unknown; near = known.near }

pub loop-function-preserved : goal.loop-function-preserved
loop-function-preserved c =
    let o = c.args.outline.now in
    let f = c.loop-function.function in
    let known = c.loop-function.invariant in
    let small : f < length o.done = search rules in
    let none : lines_stop (names_at o f) (sentences_of (slice_get o.done f)) ≡ None = search rules in
    record {
      unknown = known.unknown ∙ functions_stop_at o f small ∙ ap
          (λ (x : Option Stop). option_or x (functions_stop o.functions (drop (f + 1) o.done))) none;
      near = λ text. known.near text ∙ near_in_at text o f small ∙ ap
          (λ (x : Option Stop). near_or text (names_at o f) x (near_in text o (drop (f + 1) o.done))) none;
    }

pub returns : goal.returns
returns c =
    let o = c.args.outline.now in
    let known = c.loop-function.invariant in
    let end = drop_of_length-le o.done {i = c.loop-function.function} (search rules) in
    record {
      unknown = known.unknown ∙ ap (functions_stop o.functions) end;
      near = λ text. known.near text ∙ ap (near_in text o) end;
    }
