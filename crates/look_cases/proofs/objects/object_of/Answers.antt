use Rattle.std.proofs.Common.{sym, ap, ◌∙◌, drop, ◌+◌}
use Rattle.std.proofs.lemmas.List.{at_drop_more}
use Rattle.serde_json.specs.Data.{Members}
use Rattle.serde_json.specs.View.{members_view}
use Rattle.look_cases.specs.Objects.{all_put}
use Rattle.look_cases.proofs.objects.object_of.Goals as goal

pub loop-member-preserved : goal.loop-member-preserved
loop-member-preserved c =
    let members = c.args.members.now in
    let at = c.loop-member.member-index in
    ap (λ (ms : Members). all_put (drop (at + 1) members) ms) c.in_ok-put_scalar.ensures
    ∙ sym (at_drop_more (λ xs. all_put xs (members_view c.loop-member.object.entries)) members at _ c.loop-member-test.true)
    ∙ c.loop-member.invariant
