use Rattle.sts_cli.proofs.program.on_line.Goals as goal

pub returns-in-Joined : goal.returns-in-Joined
returns-in-Joined g c = rw c.in-Joined.is c.on_input.ensures

pub returns-in-Verify : goal.returns-in-Verify
returns-in-Verify g c = rw c.in-Verify.is c.on_text.ensures

pub returns-in-List : goal.returns-in-List
returns-in-List g c = rw c.in-List.is c.on_text-in-List.ensures

pub returns-in-Plain : goal.returns-in-Plain
returns-in-Plain g c = rw c.in-Plain.is c.on_text_and_trace.ensures

pub returns-in-Replay : goal.returns-in-Replay
returns-in-Replay g c = rw c.in-Replay.is c.on_text_and_trace-in-Replay.ensures

pub returns-in-Run : goal.returns-in-Run
returns-in-Run g c = rw c.in-Run.is c.on_run.ensures
