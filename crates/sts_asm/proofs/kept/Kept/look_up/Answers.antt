use Rattle.std.proofs.Common.{rules, ◌≡◌, refl}
use Rattle.sts_asm.proofs.kept.Kept.look_up.Goals as goal

pub returns : goal.returns
returns c =
    let lines : c.as_slice.result.now ≡ c.self.inside.again.items = search rules in
    rw (← c.self.view_is) (record {
      others = refl;
      steps = rw (c.new.ensures, lines) at c.fill.ensures.steps;
      same = rw lines at c.fill.ensures.same;
    })
