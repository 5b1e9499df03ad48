use Rattle.std.proofs.Common.{rules, ◌≡◌, string_bytes, sym, subst}
use Rattle.std.specs.Prelude.{Ok}
use Rattle.sts_asm.specs.Kept.{Kept, routine_of}
use Rattle.sts_asm.proofs.SettledLemmas.{routine_filled}
use Rattle.sts_asm.proofs.resolving.routine_of.Goals as goal

pub returns : goal.returns
returns c =
    let named : string_bytes c.in_ok-name.name ≡ c.kept.inside.name.now = search rules in
    let filled = routine_filled c.args.functions.now c.args.kept c.look_up.new.self c.in_ok-look_up.ensures.steps c.look_up.ensures.others in
    rw named (subst (λ (x : Kept). routine_of c.args.functions.now c.args.kept ≡ Ok (record { name = x.name; args = x.args; needs = x.needs; code = x.code }))
    (sym c.kept.view_is) filled)
