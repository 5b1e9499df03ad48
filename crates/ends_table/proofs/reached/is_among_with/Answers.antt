use Rattle.std.proofs.Common.{◌≡◌, ℕ, subst, arith}
use Rattle.std.proofs.lemmas.Bool.Decides.{nat_tests}
use Rattle.laws_calls.specs.Tasks.{Among}
use Rattle.ends_table.proofs.reached.is_among_with.Goals as goal

pub returns-in-Some : goal.returns-in-Some
returns-in-Some c = λ yes.
    let same : c.in-Some.there ≡ c.args.left = grind (arith, nat_tests, yes) in
    subst (λ (n : ℕ). Among c.args.states.now (record c.args.own.now { left = n })) same c.in-Some.ensures
