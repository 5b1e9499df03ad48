use Rattle.look.proofs.Passing.{passed, unread}
use Rattle.look.proofs.program.on_text.Goals as goal

pub returns-in-Ok : goal.returns-in-Ok
returns-in-Ok g c = passed _ _ _ _ _ _ c.explain_in.result c.in-Ok.ensures c.as_slice.ensures.value c.explain_in.ensures

pub returns-in-Err : goal.returns-in-Err
returns-in-Err g c = unread _ _ _ _ c.file_failed.result c.file_failed.ensures
