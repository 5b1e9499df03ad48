use Rattle.std.proofs.Common.{◌≡◌, [], ◌∷◌, ◌++◌, true, false, refl, ◌∙◌, arith}
use Rattle.std.specs.Prelude.{codes}
use Rattle.std.proofs.lemmas.Grind.{common_steps}
use Rattle.std.proofs.lemmas.Result.{on_ok_weaker}
use Rattle.look_text.specs.declared.wanted.Expected.TheVariants.{First}
use Rattle.look_text.specs.Failing as def
use Rattle.look_text.proofs.FailLemmas.{failed_said, nothing_said, one_said, passed_said, said_if}
use Rattle.look_text.proofs.failing.say_failing.Goals as goal

pub loop-word-init : goal.loop-word-init
loop-word-init c = (codes "at", c.in_ok-say.ensures, refl)

pub loop-word-preserved : goal.loop-word-preserved
loop-word-preserved c =
    let l = c.loop-word in
    let told = l.invariant.0 in
    let test = def.passes c.args.text.now c.args.outline.now c.args.error.function c.args.error.cause in
    let word = c.in-Some.word.now in
    let pass : test l.wanted word ≡ true = grind (arith, common_steps, c.if-not-passes.false, c.passes.ensures) in
    let one = told ++ 32 ∷ [] in
    let more = one_said c.args.out.now.items told word l.out.items c.push.new.self.items c.extend_from_slice.new.self.items
    l.invariant.1 c.in_ok-push.ensures.items c.in_ok-extend_from_slice.ensures.items in
    let next = passed_said test l.wanted c.after-wanted.result word l.left c.word.new.self told one (one ++ word)
    c.in-Some.ensures pass c.after-wanted.ensures refl refl in
    (one ++ word, more, next ∙ l.invariant.2)

pub returns-then-not-passes : goal.returns-then-not-passes
returns-then-not-passes c =
    let l = c.loop-word in
    let told = l.invariant.0 in
    let test = def.passes c.args.text.now c.args.outline.now c.args.error.function c.args.error.cause in
    let word = c.in-Some.word.now in
    let fails : test l.wanted word ≡ false = grind (arith, common_steps, c.if-not-passes.true, c.passes.ensures) in
    on_ok_weaker c.say_word.result
    (failed_said test l.wanted c.wanted_there.result word l.left c.word.new.self told told c.args.out.now.items c.args.out.now.items
    l.out.items _ (def.first_failing test First c.args.words)
    c.in-Some.ensures fails l.invariant.2 refl refl l.invariant.1 c.wanted_there.ensures)
    c.say_word.ensures

pub returns : goal.returns
returns c =
    let l = c.loop-word in
    let whole =
    def.first_failing (def.passes c.args.text.now c.args.outline.now c.args.error.function c.args.error.cause) First c.args.words in
    let none : [] ≡ said_if (codes "at") whole = grind (arith, common_steps, l.invariant.2) in
    nothing_said c.args.out.now.items l.invariant.0 l.out.items c.truncate.new.self.items c.len-start.result whole l.invariant.1
    (c.len-start.ensures ∙ c.args.out.now.ok.0) c.truncate.ensures.items none
