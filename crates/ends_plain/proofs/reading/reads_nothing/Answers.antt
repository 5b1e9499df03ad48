use Rattle.std.proofs.Common.{◌≡◌, length, ap, arith, subst}
use Rattle.ends_plain.proofs.NamedLemmas.{QuietBelow, reads_nothing}
use Rattle.ends_plain.proofs.reading.reads_nothing.Goals as goal

pub returns : goal.returns
returns c _ =
    let p = c.args.program.now in
    let as_many = ap length c.functions-k-end.ensures.value in
    let all : c.loop-k.k ≡ length p.routines = omega (arith, as_many) in
    reads_nothing p (subst (λ n. QuietBelow p n) all c.loop-k.invariant)
