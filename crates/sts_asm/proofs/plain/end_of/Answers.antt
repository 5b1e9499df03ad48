use Rattle.std.proofs.Common.{◌≡◌, ◌+◌, true, take, arith}
use Rattle.std.specs.List.{list_all}
use Rattle.sts_asm.specs.Plain.{is_in}
use Rattle.sts_asm.proofs.PlainLemmas.{class_allowed, front_all, front_more}
use Rattle.sts_asm.proofs.plain.end_of.Goals as goal

pub returns-then-run-lt-LANES : goal.returns-then-run-lt-LANES
returns-then-run-lt-LANES c =
    let l = c.loop-at in
    let text = c.args.text.now in
    let class = c.args.class in
    let at = l.at + c.run_of-run.result in
    let inside : list_all (is_in class) (take at text) ≡ true = front_all (is_in class) text at
    (front_more (is_in class) text l.at c.run_of-run.result l.invariant.inside c.run_of-run.ensures.inside) in
    record {
      within = omega (arith, c.run_of-run.ensures.few);
      inside = inside;
      allowed = class_allowed class (take at text) inside;
    }

pub loop-at-preserved : goal.loop-at-preserved
loop-at-preserved c =
    let l = c.loop-at in
    record {
      within = omega (arith, c.run_of-run.ensures.few);
      inside = front_more (is_in c.args.class) c.args.text.now l.at c.run_of-run.result l.invariant.inside c.run_of-run.ensures.inside;
    }

pub returns : goal.returns
returns c =
    let l = c.loop-at in
    let text = c.args.text.now in
    let class = c.args.class in
    let inside : list_all (is_in class) (take l.at text) ≡ true = front_all (is_in class) text l.at l.invariant.inside in
    record { within = l.invariant.within; inside = inside; allowed = class_allowed class (take l.at text) inside }
