use Rattle.std.proofs.Common.{refl, inl}
use Rattle.std.proofs.lemmas.Result.{IfOk-weaker}
use Rattle.sts_output.specs.Output.{memory_output}
use Rattle.sts_output.specs.Streams.{same_file}
use Rattle.sts_output.specs.declared.taking.TakeError.TheVariants.{Memory}
use Rattle.look.specs.Ending as def
use Rattle.look.proofs.Printing.{printed_of}
use Rattle.look.proofs.program.on_ends_text.Goals as goal

pub returns-in-None : goal.returns-in-None
returns-in-None g c =
    let sinks = same_file (g.S.Sinks.same c.args.sinks.now) (g.S.Sinks.said_yes c.args.sinks.now) (g.S.Sinks.said_yes c.args.sinks.now) in
    let spares : def.Spares sinks c.args.path.now c.args.ends.kept = rw c.in-None.is tt in
    IfOk-weaker c.write_ends_by.result _ _
    (λ s h. (h.0.output, def.listed spares h.0 (rw c.in-None.is h.1) refl, h.2))
    c.write_ends_by.ensures

pub returns-in-Ok : goal.returns-in-Ok
returns-in-Ok g c =
    let sinks = same_file (g.S.Sinks.same c.args.sinks.now) (g.S.Sinks.said_yes c.args.sinks.now) (g.S.Sinks.said_yes c.on_listing.new.sinks) in
    let spares = def.Spares sinks c.args.path.now c.args.ends.kept in
    IfOk-weaker c.on_listing.result _ _
    (λ s h. (h.0, printed_of c.args.ends spares c.args.text.now c.in-Ok.listing h.0 (rw c.in-Some.is (inl c.in-Ok.ensures)) (rw c.in-Some.is h.1), h.2))
    c.on_listing.ensures

pub returns-in-Err : goal.returns-in-Err
returns-in-Err g c =
    IfOk-weaker c.failed.result _ _ (λ s h. (memory_output, def.without_file Memory refl, h)) c.failed.ensures
