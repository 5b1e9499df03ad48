use Rattle.std.proofs.Common.{ap, sym, ◌∙◌, drop}
use Rattle.sts_model.proofs.ListLemmas.{length_reversed, drop_twice}
use Rattle.sts_model.proofs.stack.Stack.drop_top.Goals as goal

pub returns-in-0-clause-rest : goal.returns-in-0-clause-rest
returns-in-0-clause-rest g c = ap (λ k. drop k c.args.self.now) (sym c.in-0.is)

pub returns-in-0-clause-bound : goal.returns-in-0-clause-bound
returns-in-0-clause-bound g c =
    rw (sym (length_reversed c.self.inside.values.items _ _ c.self.view_is c.len.ensures.value))
    c.len.ensures.fits

pub returns-in-1-clause-rest : goal.returns-in-1-clause-rest
returns-in-1-clause-rest g c = c.drop_one.ensures ∙ ap (λ k. drop k c.args.self.now) (sym c.in-1.is)

pub returns-in-1-clause-bound : goal.returns-in-1-clause-bound
returns-in-1-clause-bound g c =
    rw (sym (length_reversed c.self.inside.values.items _ _ c.self.view_is c.len.ensures.value))
    c.len.ensures.fits

pub returns-in-2-clause-rest : goal.returns-in-2-clause-rest
returns-in-2-clause-rest g c =
    c.drop_one-in-2-2.ensures
    ∙ ap (drop 1) c.drop_one-in-2.ensures
    ∙ drop_twice c.args.self.now
    ∙ ap (λ k. drop k c.args.self.now) (sym c.in-2.is)

pub returns-in-2-clause-bound : goal.returns-in-2-clause-bound
returns-in-2-clause-bound g c =
    rw (sym (length_reversed c.self.inside.values.items _ _ c.self.view_is c.len.ensures.value))
    c.len.ensures.fits

pub returns-in_default-clause-rest : goal.returns-in_default-clause-rest
returns-in_default-clause-rest g c = c.drop_each.ensures

pub returns-in_default-clause-bound : goal.returns-in_default-clause-bound
returns-in_default-clause-bound g c =
    rw (sym (length_reversed c.self.inside.values.items _ _ c.self.view_is c.len.ensures.value))
    c.len.ensures.fits
