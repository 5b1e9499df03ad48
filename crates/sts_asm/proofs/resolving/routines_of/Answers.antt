use Rattle.std.proofs.Common.{◌≡◌, ◌∷◌, sym, ◌∙◌, ap}
use Rattle.std.specs.Vec.Iter.{into_iter_items}
use Rattle.sts_asm.specs.Kept.{routine_of}
use Rattle.sts_asm.specs.Text.{each}
use Rattle.sts_asm.proofs.EachLemmas.{with_front}
use Rattle.sts_asm.proofs.InPlaceLemmas.{next_read}
use Rattle.sts_asm.proofs.resolving.routines_of.Goals as goal

pub loop-kept-preserved : goal.loop-kept-preserved
loop-kept-preserved c =
    let read = routine_of c.args.functions.now in
    let front = c.loop-kept.routines.items in
    let rest = into_iter_items c.next.new.self in
    let all = each read c.args.all.items in
    let here : with_front front (each read (c.in-Some.kept ∷ rest)) ≡ all =
    sym (ap (λ ds. with_front front (each read ds)) c.in-Some.ensures.steps.0) ∙ c.loop-kept.invariant in
    ap (λ rs. with_front rs (each read rest)) c.in_ok-push.ensures.items
    ∙ next_read read front c.in-Some.kept c.in_ok-routine.routine rest all here c.in_ok-routine.ensures
