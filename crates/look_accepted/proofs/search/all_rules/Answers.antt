use Rattle.std.proofs.Common.{◌≡◌, ◌∙◌, ◌<◌, ◌≤◌, List, None, length, replicate, ap, sym, subst, arith}
use Rattle.sts_code.specs.Program.{routine, instr_at}
use Rattle.sts_code.specs.declared.instr.Instr.{Instr}
use Rattle.sts_code.specs.declared.limits.TheConstants.{MAX_INSTRUCTIONS}
use Rattle.sts_rules.specs.Refusal.{size}
use Rattle.look_accepted.specs.Nodes.{Comes}
use Rattle.look_accepted.specs.Points.{state_at, node_at, Follows, IsInside, Adds, noted}
use Rattle.look_accepted.specs.Relying.{relied_on}
use Rattle.look_accepted.proofs.Following.{within, inside}
use Rattle.look_accepted.proofs.Searching.{searched_first, searched_more, comes_here, all_found}
use Rattle.look_accepted.proofs.search.all_rules.Goals.{After-index-point, After-instr_here-instr, else-loop-at-test, then-loop-at-test+then-at-len}
use Rattle.look_accepted.proofs.search.all_rules.Goals as goal

pub loop-at-init : goal.loop-at-init
loop-at-init c = searched_first c.requires c.in_ok-points.points.found.items c.add.new.self.found.items c.first.result c.in_ok-rules.rules.items
    c.in_ok-points.ensures c.first.ensures c.in_ok-add.ensures
    (c.in_ok-rules.ensures {u = tt} ∙ ap (λ (code : List Instr). replicate (length code) None) c.code_of-code.ensures.value)

comes : (c : After-index-point) → Comes c.args.program.now c.args.function (node_at c.args.typing.now c.index-point.result.now)
comes c = comes_here c.requires c.loop-at.at c.loop-at.points.found.items c.loop-at.rules.items c.loop-at.invariant c.index-point.result.now
    (omega arith) c.index-point.ensures

here : (c : After-index-point) → c.index-point.result.now.pc < size c.args.program.now c.args.function
here c = within c.requires c.index-point.result.now (comes c)

pub instr_here-instr-requires : goal.instr_here-instr-requires
instr_here-instr-requires c = omega (arith, here (goal.at.instr_here-instr-requires c).After-index-point, ap (length {A = Instr}) c.code_of-code.ensures.value)

pub relied_on-requires : goal.relied_on-requires
relied_on-requires c = omega (arith, here (goal.at.relied_on-requires c).After-index-point)

pub note-requires : goal.note-requires
note-requires c = omega (arith, here (goal.at.note-requires c).After-index-point, c.loop-at.invariant.long)

instr : (c : After-instr_here-instr) → c.instr_here-instr.result ≡ instr_at (routine c.args.program.now c.args.function).code c.index-point.result.now.pc
instr c = c.instr_here-instr.ensures ∙ ap (λ (code : List Instr). instr_at code c.index-point.result.now.pc) c.code_of-code.ensures.value

pub add_next-requires : goal.add_next-requires
add_next-requires c =
    let k = goal.at.add_next-requires c in
    let short : size c.args.program.now c.args.function ≤ MAX_INSTRUCTIONS =
    subst (λ (code : List Instr). length code ≤ MAX_INSTRUCTIONS) c.code_of-code.ensures.value c.code_of-code.ensures.short in
    subst (λ (i : Instr). IsInside c.args.typing.now i c.index-point.result.now) (sym (instr k.After-instr_here-instr))
    (inside c.requires c.index-point.result.now (comes k.After-index-point) short)

pub loop-at-preserved : goal.loop-at-preserved
loop-at-preserved c =
    let l = c.loop-at in
    let t = c.args.typing.now in
    let x = c.index-point.result.now in
    let same = instr (goal.at.loop-at-preserved c).After-instr_here-instr in
    searched_more c.requires l.at l.points.found.items l.rules.items l.invariant x c.add_next.new.self.found.items c.note.new.rules.items
    (omega arith) c.index-point.ensures
    (subst (λ (i : Instr). Adds l.points.found.items (Follows t i x) c.add_next.new.self.found.items) same c.in_ok-add_next.ensures)
    (c.note.ensures ∙ ap (noted l.rules.items x.pc) (c.relied_on.ensures ∙ ap (λ (i : Instr). relied_on i (state_at t x.pc) x.mark) same))

pub returns : goal.returns
returns c = all_found c.requires c.loop-at.at c.loop-at.points.found.items c.loop-at.rules.items c.loop-at.invariant (elim c.loop-at-test.branch [
  | else-loop-at-test w ↦ omega arith
  | then-loop-at-test+then-at-len w ↦ omega arith
])
