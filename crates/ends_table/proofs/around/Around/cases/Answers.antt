use Rattle.ends_table.proofs.around.Around.cases.Goals as goal

pub returns : goal.returns
returns c = record { success = c.in_ok-case_of.ensures; failure = c.in_ok-case_of-2.ensures; unended = c.in_ok-case_missed.ensures }
