use Rattle.std.proofs.Common.{◌≡◌, ap, sym, ◌∙◌, get_or}
use Rattle.std.specs.Prelude.{Some, slice_set}
use Rattle.std.proofs.lemmas.Option.{slice_get-get_or}
use Rattle.sts_asm.specs.Kept.{no_draft}
use Rattle.sts_asm.specs.Outline.{Draft, Outline}
use Rattle.sts_asm.proofs.outline.Outline.take.Goals as goal

pub returns-clause-taken : goal.returns-clause-taken
returns-clause-taken c =
    let here = c.index_mut.result.now in
    let same : c.self.inside.done.items ≡ c.args.self.now.done = ap (λ (o : Outline). o.done) c.self.view_is in
    let is = c.replace.ensures.value ∙ c.index_mut.ensures.value ∙ ap (λ ds. get_or ds c.args.number here) same in
    slice_get-get_or c.args.self.now.done c.args.number here c.requires ∙ ap (λ (d : Draft). Some d) (sym is)

pub returns-clause-left : goal.returns-clause-left
returns-clause-left c =
    rw (c.replace.ensures.after, c.new-empty.ensures) (ap (λ (o : Outline). record o { done = slice_set o.done c.args.number no_draft }) c.self.view_is)
