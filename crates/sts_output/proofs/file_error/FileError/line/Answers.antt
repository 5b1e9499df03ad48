use Rattle.std.proofs.Common.{◌≡◌, IfOk, subst, sym}
use Rattle.sts_output.specs.Reasons as def
use Rattle.sts_output.proofs.file_error.FileError.line.Goals as goal

pub returns-in-Unread : goal.returns-in-Unread
returns-in-Unread c =
    rw c.in-Unread.is (rw (sym c.kind_words.ensures) (rw (sym c.input_words.ensures) c.unread_line.ensures))

pub returns-in-Unwritten : goal.returns-in-Unwritten
returns-in-Unwritten c =
    let program = c.args.program.now in
    let path = c.in-Unwritten.path.now in
    rw c.in-Unwritten.is
    (subst (λ w. IfOk c.unwritten_line.result (λ line. line.items ≡ def.unwritten_line program path w)) c.kind_words-in-Unwritten.ensures
    c.unwritten_line.ensures)

pub returns-in-Overwrites : goal.returns-in-Overwrites
returns-in-Overwrites c = rw c.in-Overwrites.is c.unwritten_line-in-Overwrites.ensures
