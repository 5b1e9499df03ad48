use Rattle.look.proofs.program.on_line.Goals as goal

pub returns-in-View : goal.returns-in-View
returns-in-View g c = rw c.in-View.is c.on_texts.ensures

pub returns-in-Explain : goal.returns-in-Explain
returns-in-Explain g c = rw c.in-Explain.is c.on_explain.ensures

pub returns-in-Draw : goal.returns-in-Draw
returns-in-Draw g c = rw c.in-Draw.is c.on_texts-in-Draw.ensures

pub returns-in-Tell : goal.returns-in-Tell
returns-in-Tell g c = rw c.in-Tell.is c.on_texts-in-Tell.ensures

pub returns-in-Cases : goal.returns-in-Cases
returns-in-Cases g c = rw c.in-Cases.is c.on_cases.ensures

pub returns-in-Ends : goal.returns-in-Ends
returns-in-Ends g c = rw c.in-Ends.is c.on_ends.ensures
