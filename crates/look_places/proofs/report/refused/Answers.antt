use Rattle.std.proofs.Common.{ℕ, List, inl, subst}
use Rattle.look_refusal.specs.Output.{IsVerdict, refused}
use Rattle.look_refusal.proofs.FaultLemmas.{verdict_explains, verdict_whole}
use Rattle.look_places.specs.Reports.{AddsWays}
use Rattle.look_places.proofs.ReportLemmas.{refused_as}
use Rattle.look_places.proofs.report.refused.Goals as goal

pub returns : goal.returns
returns c =
    let s = c.args.source.now in
    let r = c.args.refusal.now in
    let o = c.outline.result.now in
    let told = c.in_ok-told.told in
    let after : List ℕ = c.say_ways.new.out.items in
    let verdict : IsVerdict r.program o told = refused c.in_ok-told.ensures in
    let ways = subst (λ (b : List ℕ). AddsWays s r.program r.function r.pc r.cause b after) c.in_ok-bytes.ensures c.in_ok-say_ways.ensures in
    refused_as s r.program r.function r.pc r.cause told after c.requires.refusal
    (inl (verdict_explains s.text r.program o told c.requires.program c.outline.ensures verdict)) (verdict_whole r.program o told verdict) ways
