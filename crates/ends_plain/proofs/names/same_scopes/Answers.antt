use Rattle.std.proofs.Common.{◌≡◌, ◌∙◌, sym, map, rules}
use Rattle.sts_model.specs.declared.record.Scope.{Scope}
use Rattle.sts_model.specs.World.{scope_at}
use Rattle.laws_names.specs.Names.{Names, named_completion}
use Rattle.ends_plain.specs.Named.{name_in, names_of}
use Rattle.ends_plain.proofs.NamedLemmas.{same_scope}
use Rattle.ends_plain.proofs.names.same_scopes.Goals as goal

pub returns : goal.returns
returns c e =
    let n : Names = names_of c.args.names.now in
    let x : Scope = scope_at c.args.ours.now c.args.s in
    let y : Scope = scope_at c.args.theirs.now c.name-r.result in
    let at : c.name-r.result ≡ name_in c.args.names.now.scopes.items c.args.s = rw c.as_slice.ensures.value at c.name-r.ensures in
    let owner : n.tasks x.owner ≡ y.owner =
    rw (c.as_slice-2.ensures.value, c.owner.ensures) at (sym c.name.ensures) ∙ c.if-name-owner.false ∙ c.owner-2.ensures in
    let completions : y.completions ≡ map (named_completion n) x.completions =
    rw (c.completions.ensures, c.completions-2.ensures) at (c.same_completions.ensures e) in
    rw (← at) (same_scope n x y owner (search rules) (search rules) (search rules) (search rules) (search rules) completions)
