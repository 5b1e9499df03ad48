use Rattle.std.proofs.Common.{◌∙◌, ap, List, Bool, false, length, take_all, replicate, get_or}
use Rattle.std.specs.List.{flat_map}
use Rattle.std.specs.Prelude.{pos}
use Rattle.sts_code.specs.declared.instr.Instr.{Instr}
use Rattle.sts_code.specs.declared.instr.Instr.TheVariants.{Push}
use Rattle.sts_list.specs.Listing.{with_marks}
use Rattle.sts_code.specs.Facts.{targets}
use Rattle.sts_list.proofs.TargetLemmas.{marked_all, marks_step}
use Rattle.sts_list.proofs.targets.target_marks.Goals as goal

abbrev first : Instr
first = Push (pos 0)

pub loop-instr-preserved : goal.loop-instr-preserved
loop-instr-preserved c =
    let l = c.loop-instr in
    c.mark_targets.ensures
    ∙ ap (λ (marks : List Bool). with_marks marks (targets (get_or c.args.code.now l.instr-index first))) l.invariant
    ∙ marks_step c.args.code.now (replicate (length c.args.code.now) false) l.instr-index first c.loop-instr-test.true

pub returns-clause-named : goal.returns-clause-named
returns-clause-named c = λ pc small.
    let l = c.loop-instr in
    let code = c.args.code.now in
    ap (λ (marks : List Bool). get_or marks pc false) (l.invariant ∙ ap
    (λ is. with_marks (replicate (length code) false) (flat_map targets is)) (take_all l.instr-index code c.loop-instr-test.false))
    ∙ marked_all (flat_map targets code) (length code) pc small
