use Rattle.std.proofs.Common.{sym, ◌∙◌}
use Rattle.ends_plain.specs.declared.config.Found.{Found}
use Rattle.ends_plain.proofs.ListedLemmas.{end_of_way}
use Rattle.ends_calls.proofs.ends.played.Goals as goal

pub returns-then-is_end_at : goal.returns-then-is_end_at
returns-then-is_end_at c =
    let f : Found = record { end = c.state-end.result; trace = c.in_ok-last.last.trace } in
    end_of_way c.args.setting.now c.in_ok-last.last.config f c.in_ok-last.ensures (sym c.state-end.ensures) (sym c.is_end_at.ensures ∙ c.if-is_end_at.true)
