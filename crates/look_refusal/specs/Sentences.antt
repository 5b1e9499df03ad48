-- What to do about a refusal or a fault of a run, in a sentence (this project's own).
use Rattle.std.specs.Prelude.{ℕ, List, codes}
use Rattle.look_refusal.specs.declared.remedy.Remedy.{Remedy}
use Rattle.look_refusal.specs.declared.remedy.Remedy.TheVariants as r

-- what is missing or too much, and what to do about it
abbrev pub remedy_sentence : Remedy → List ℕ
remedy_sentence r.TooFewOperands =
    codes "this needs more operands than the stack has here: push them first"
remedy_sentence r.TooManyOperands =
    codes "more than 32 operands would be on the stack afterwards: pop or store some first"
remedy_sentence r.RunsPastEnd = codes "this runs past the end of the function: add ret or fail"
remedy_sentence r.GoesBack =
    codes "a label here must come later: repeat by times and next"
remedy_sentence r.TimesWithoutNext =
    codes "this times has no next: add the next that ends its turns"
remedy_sentence r.NextWithoutTimes =
    codes "this next has no times: add the times that begins its turns"
remedy_sentence r.LoopCrossed =
    codes "this enters or leaves a loop in the middle: leave it by its end, by ret or by fail"
remedy_sentence r.TooManyLoops =
    codes "8 loops are open here, and this would open a ninth: let a subtask do the inner turns"
remedy_sentence r.WaysDiffer =
    codes "two ways meet here, or a loop turns, and differ: make alike what is listed, or end one way by ret"
remedy_sentence r.NeverReached =
    codes "this can never be reached: leave it out, or let a jump lead here"
remedy_sentence r.NoScope = codes "this slot holds no scope here: open one first, or use it before its close"
remedy_sentence r.HoldsSubtask = codes "this slot holds a subtask: name the slot of a scope"
remedy_sentence r.NoSubtask =
    codes "this slot holds no subtask here: fork one first, or use it before the close of its scope"
remedy_sentence r.HoldsScope = codes "this slot holds a scope: name the slot of a subtask"
remedy_sentence r.FillsScope =
    codes "this slot holds an open scope: close it first, or take another slot"
remedy_sentence r.FillsParentScope =
    codes "slot 0 of a subtask holds the scope that it belongs to: take another slot"
remedy_sentence r.FillsSubtask =
    codes "this slot holds a subtask: forget it first, or take another slot"
remedy_sentence r.ParentScope =
    codes "this slot holds the scope of the task that forked this one: open a scope of your own"
remedy_sentence r.ForkAfterJoin =
    codes "a join of this scope was tried already: fork before the first join"
remedy_sentence r.JoinedAlready = codes "this scope was joined already: leave this join out"
remedy_sentence r.CloseBeforeJoin = codes "join this scope before you close it"
remedy_sentence r.ReadBeforeJoin = codes "join this scope before you read its subtasks"
remedy_sentence r.ReadAfterInterrupt =
    codes "the join of this scope was interrupted: close it, or join it again first (JDK 25 can't)"
remedy_sentence r.ReadAfterTimeout =
    codes "in profile 1 nothing is read after a timeout: close the scope, or use profile 2"
remedy_sentence r.NotKnownSuccess =
    codes "not known to have succeeded: read it at the success label of case, or where a join of all or awaitok goes on"
remedy_sentence r.NotKnownFailed = codes "not known to have failed: use the failed label of case"
remedy_sentence r.StillOpen = codes "close every scope and end every binding before this"
remedy_sentence r.OpenedLater =
    codes "a scope that was opened after this one is open: close it first"
remedy_sentence r.BoundLater =
    codes "a binding that was made after this scope was opened is in force: end it first"
remedy_sentence r.OpenedBeforeLoop =
    codes "this scope was opened before the loop: close it after the loop"
remedy_sentence r.NothingBound = codes "no binding of this task is in force: bind first"
remedy_sentence r.OpenedInBinding =
    codes "a scope that was opened in the binding is open: close it first"
remedy_sentence r.BoundBeforeLoop =
    codes "this binding was made before the loop: end it after the loop"
remedy_sentence r.ForkAfterBind =
    codes "a binding that was made after this scope was opened is in force: fork before bind, or after unbind"
remedy_sentence r.TooManyOpen =
    codes "16 scopes and bindings are open here, and this would open one more: close or unbind one first"
remedy_sentence r.KeyUnbound = codes "this key may be unbound here: bind it, or list it after needs"
remedy_sentence r.SubtaskKeyUnbound =
    codes "the subtask needs a key that may be unbound here: bind it before open, or list it after needs"
remedy_sentence r.FailedLabelMissing =
    codes "under all, any and awaitok a join can fail: name a label for failed"
remedy_sentence r.NoFailureHere = codes "under awaitall and until no join fails: write - for failed"
remedy_sentence r.TimeoutLabelMissing =
    codes "this scope was opened with timed: name a label for timeout"
remedy_sentence r.NoTimeoutHere = codes "this scope was opened without timed: write - for timeout"
remedy_sentence r.TooManySteps =
    codes "some path takes more than 1000000 steps: lower a bound of times, or fork fewer subtasks"
remedy_sentence r.TooManyTasks =
    codes "some path has more than 65536 tasks at once: fork fewer, or close scopes earlier, since ended tasks count until then"
remedy_sentence r.TooManyScopes =
    codes "some path has more than 65536 scopes open at once: close them earlier, or fork fewer subtasks"
remedy_sentence r.TooManyBindings =
    codes "some path has more than 65536 bindings open at once: unbind earlier, or fork fewer subtasks"
remedy_sentence r.NotSuccess =
    codes "this subtask is no success: ask for its state by case before you get its value"
remedy_sentence r.NotFailed =
    codes "this subtask didn't fail: ask for its state by case before you read its code"
remedy_sentence r.KeyUnboundNow =
    codes "no binding of this key is in force here: bind it first, or read it by orelse"
remedy_sentence r.NoRoomForTask =
    codes "65536 tasks count here until their scopes close, or 1000000 were forked: close scopes earlier, or fork fewer"
remedy_sentence r.NoRoomForScope =
    codes "65536 scopes are open here, or 1000000 were opened: close scopes earlier, or open fewer"
