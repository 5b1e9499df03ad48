use Rattle.sts_machine.proofs.Putting.{of_no_task, of_no_frame, of_code}
use Rattle.sts_machine.proofs.machine.Machine.fits.Goals as goal

pub returns-then-not-lives : goal.returns-then-not-lives
returns-then-not-lives c = of_no_task c.self.view_is c.task-task.ensures c.lives.ensures c.if-not-lives.true

pub returns-then-not-same_frame : goal.returns-then-not-same_frame
returns-then-not-same_frame c =
    of_no_frame c.self.view_is c.task-task.ensures c.start.ensures c.frame.ensures c.same_frame.ensures c.if-not-same_frame.true

pub returns : goal.returns
returns c =
    of_code c.self.view_is c.task-task.ensures c.start.ensures c.frame.ensures c.same_frame.ensures
    c.lives.ensures c.if-not-lives.false c.if-not-same_frame.false
    c.code.ensures.value c.start-2.ensures c.program.ensures.value c.code-2.ensures.value c.same_code.ensures
