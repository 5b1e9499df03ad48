use Rattle.std.proofs.Common.{List, false, ap, ◌∙◌}
use Rattle.std.specs.List.{filter}
use Rattle.laws_calls.specs.declared.table.Way.{Way}
use Rattle.laws_calls.specs.Steps.{split}
use Rattle.ends_table.specs.Led.{of_kind}
use Rattle.ends_table.proofs.parts.kept.Goals as goal

pub returns : goal.returns
returns c =
    let keep = λ (ws : List Way). filter (λ (way : Way). split c.args.joiner c.args.kind.counting (of_kind c.args.kind.succeeds) way.end) ws in
    ap (λ (ws : List Way). record c.args.part.now { ways = ws; is_open = false }) (c.in_ok-new.ensures ∙ c.in_ok-ways.ensures ∙ ap keep c.as_slice.ensures)
