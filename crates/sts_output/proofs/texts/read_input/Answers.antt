use Rattle.sts_output.specs.Streams as streams
use Rattle.sts_output.proofs.Takes.{gives_taken}
use Rattle.sts_output.proofs.texts.read_input.Goals as goal

pub returns-in-Ok : goal.returns-in-Ok
returns-in-Ok g c =
    gives_taken (g.S.Sources.offered c.args.sources.now) _ streams.most_of_a_stream c.in-Ok.taken.items c.input.ensures.bytes c.in-Ok.ensures.known
