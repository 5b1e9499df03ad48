use Rattle.std.proofs.Common.{◌<◌, ◌∙◌, ap, sym, rules, w64, List, length, Some, arith}
use mir.Val.{SFits}
use Rattle.std.proofs.lemmas.Int.{to_z-of_z}
use Rattle.sts_model.specs.Environment.{read}
use Rattle.sts_world.specs.Chains.{bindings_of, chain}
use Rattle.sts_world.specs.declared.chains.BindingLink.{BindingLink}
use Rattle.sts_world.proofs.Chaining.{read_link, read_past, read_none, read_here, read_next}
use Rattle.sts_world.proofs.chains.BindingChains.read.Goals as goal

pub returns-then-place-younger : goal.returns-then-place-younger
returns-then-place-younger c = rw (← c.self.view_is) (sym
    (read_past c.self.inside.links.items c.loop-at.younger c.in-Some.place c.args.k c.loop-at.at c.in-Some.is c.if-place-younger.true)
    ∙ c.loop-at.invariant.rest)

pub returns : goal.returns
returns c = rw (← c.self.view_is) (sym
    (read_none c.self.inside.links.items c.loop-at.younger c.args.k c.loop-at.at c.in_default.is) ∙ c.loop-at.invariant.rest)

pub returns-then-link-k : goal.returns-then-link-k
returns-then-link-k c =
    let bound : c.in-Some.place < length c.self.inside.links.items = omega (arith, c.loop-at.invariant.within) in
    let link = read_link c.self.inside.links.items c.in-Some.place _ bound c.index-link.ensures in
    let fits : SFits w64 c.index-link.result.now.bound.value = search rules in
    ap Some (to_z-of_z w64 _ fits ∙ ap (λ (l : BindingLink). l.bound.value) link)
    ∙ sym (read_here c.self.inside.links.items c.loop-at.younger c.in-Some.place c.args.k c.loop-at.at c.in-Some.is c.if-place-younger.false
    (sym (ap (λ (l : BindingLink). l.bound.key) link) ∙ c.if-link-k.true))
    ∙ c.loop-at.invariant.rest
    ∙ ap (λ (ls : List BindingLink). read (bindings_of ls c.args.front) c.args.k) c.self.view_is

pub loop-at-preserved : goal.loop-at-preserved
loop-at-preserved c =
    let bound : c.in-Some.place < length c.self.inside.links.items = omega (arith, c.loop-at.invariant.within) in
    let link = read_link c.self.inside.links.items c.in-Some.place _ bound c.index-link.ensures in
    record {
      within = omega arith;
      rest = ap (λ (l : BindingLink). read (chain c.self.inside.links.items c.in-Some.place l.behind) c.args.k) link
          ∙ sym (read_next c.self.inside.links.items c.loop-at.younger c.in-Some.place c.args.k c.loop-at.at c.in-Some.is
          c.if-place-younger.false (λ e. c.if-link-k.false (ap (λ (l : BindingLink). l.bound.key) link ∙ e)))
          ∙ c.loop-at.invariant.rest;
    }
