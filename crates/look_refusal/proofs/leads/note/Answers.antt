use Rattle.std.proofs.Common.{List, ℕ, ◌++◌, ◌∙◌, ap, sym, subst}
use Rattle.std.proofs.lemmas.Result.{on_ok_weaker}
use Rattle.std.proofs.lemmas.List.{get_or_default}
use Rattle.sts_code.specs.declared.instr.Instr.{Instr}
use Rattle.sts_code.specs.declared.instr.Instr.TheVariants.{Ret}
use Rattle.sts_code.specs.Facts.{targets}
use Rattle.sts_rules.specs.Around.{next_place}
use Rattle.sts_rules.specs.ControlPaths.{Among}
use Rattle.look_refusal.proofs.Noting.{noted_all}
use Rattle.look_refusal.proofs.leads.note.Goals as goal

pub returns : goal.returns
returns c =
    let same = get_or_default c.args.search.now.code.now c.args.from _ Ret c.requires.in_code in
    let is = c.as_slice.ensures.value ∙ c.next_places.ensures ∙ ap (λ (i : Instr). targets i ++ next_place c.args.from i) same in
    on_ok_weaker c.note_at_each.result
    (noted_all c.args.search.now c.args.from c.as_slice.result.now c.note_at_each.new.lists.items
    (λ to leads. subst (λ (xs : List ℕ). Among xs to) (sym is) leads.1))
    c.note_at_each.ensures
