use Rattle.std.proofs.Common.{arith, rules, ap, sym, ◌∙◌, ◌∷◌, drop, length}
use Rattle.std.proofs.lemmas.List.{length-drop}
use Rattle.sts_model.proofs.ListLemmas.{length_reversed, drop_twice}
use Rattle.sts_model.proofs.stack.Stack.replace_top.Goals as goal

pub overflow_sub-len : goal.overflow_sub-len
overflow_sub-len g c = omega (arith, c.if-len-gt0.true)

pub set_last-requires : goal.set_last-requires
set_last-requires g c =
    let len = length_reversed c.self.inside.values.items _ _ c.self.view_is c.len-len.ensures.value in
    (search rules, omega (arith, c.if-len-gt0.true, len))

pub overflow_sub-len-then-len-gt1 : goal.overflow_sub-len-then-len-gt1
overflow_sub-len-then-len-gt1 g c = omega (arith, c.if-len-gt1.true)

pub set_last-requires-then-len-gt1 : goal.set_last-requires-then-len-gt1
set_last-requires-then-len-gt1 g c =
    let len = length_reversed c.self.inside.values.items _ _ c.self.view_is c.len-len.ensures.value in
    let rest = ap length c.drop_one.ensures ∙ length-drop 1 c.args.self.now in
    (search rules, omega (arith, c.if-len-gt1.true, len, rest))

pub push-requires : goal.push-requires
push-requires g c =
    let rest = ap length c.drop_top.ensures.rest ∙ length-drop c.args.n c.args.self.now in
    (search rules, rw rest c.requires)

pub returns-then-len-gt0 : goal.returns-then-len-gt0
returns-then-len-gt0 g c =
    c.set_last.ensures ∙ ap (λ k. c.args.value ∷ drop k c.args.self.now) (sym c.if-n-eq1.true)

pub returns-then-len-gt1 : goal.returns-then-len-gt1
returns-then-len-gt1 g c =
    c.set_last-then-len-gt1.ensures
    ∙ ap (λ r. c.args.value ∷ drop 1 r) c.drop_one.ensures
    ∙ ap (λ r. c.args.value ∷ r) (drop_twice c.args.self.now)
    ∙ ap (λ k. c.args.value ∷ drop k c.args.self.now) (sym c.if-n-eq2.true)

pub returns-else-n-eq2 : goal.returns-else-n-eq2
returns-else-n-eq2 g c = c.push.ensures ∙ ap (λ r. c.args.value ∷ r) c.drop_top.ensures.rest
