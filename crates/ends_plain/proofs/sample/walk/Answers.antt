use Rattle.std.proofs.Common.{refl}
use Rattle.std.proofs.lemmas.Option.{IfSome_then}
use Rattle.ends_search.specs.Search.{IsWay}
use Rattle.ends_plain.specs.Configs.{next, can, start}
use Rattle.ends_plain.proofs.ListedLemmas.{end_of_trace}
use Rattle.ends_plain.proofs.sample.walk.Goals as goal

pub returns : goal.returns
returns c =
    let g = c.args.setting.now in
    let begins : IsWay (next g) (can g) (start g) c.new-trace.result c.in_ok-config.config =
    rw (c.new-trace.ensures, c.in_ok-config.ensures) (record { can_all = tt; leads = refl }) in
    IfSome_then c.end.result (c.end.ensures g (start g) (c.in_ok-reach.ensures (start g) begins))
    (λ f shown. end_of_trace g (start g) f refl shown)
