use Rattle.std.proofs.Common.{rules, ◌≡◌, ◌∙◌, ap}
use Rattle.sts_asm.specs.Kept.{IsKept}
use Rattle.sts_asm.specs.Outline.{Outline}
use Rattle.sts_asm.proofs.TakenLemmas.{taken_at}
use Rattle.sts_asm.proofs.kept.keep_next.Goals as goal

pub returns-clause-taken : goal.returns-clause-taken
returns-clause-taken c o t =
    let known : c.outline.inside.functions ≡ c.args.outline.now.functions =
    ap (λ (p : Outline). p.functions) (c.outline.view_is ∙ c.take-draft.ensures.left) in
    let keeps : IsKept c.args.outline.now.functions c.take-draft.result c.settled-function.result =
    rw known at (c.settled-function.ensures c.take-draft.result c.in_ok-kept.ensures) in
    taken_at c.len.result o c.args.outline.now c.take-draft.new.self c.args.all.now.items c.push_reserved.new.self.items c.take-draft.result
    c.settled-function.result (search rules) c.requires c.take-draft.ensures.taken keeps c.take-draft.ensures.left (search rules) t
