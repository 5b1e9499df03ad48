-- The marks of a picture: how each one is drawn, and what it means (this project's own).
use Rattle.std.specs.Prelude.{ℕ, List, codes}
use Rattle.look_drawing.specs.declared.marks.Mark.{Mark}
use Rattle.look_drawing.specs.declared.marks.Mark.TheVariants as mark

-- how its element begins, with the class that the style knows it by; its shape from its point, as an
-- SVG path; and its meaning, in everyday words
pub record Appearance : Type 0 where
  pub begun_by : List ℕ
  pub drawn_as : List ℕ
  pub means : List ℕ

abbrev pub appearance : Mark → Appearance
appearance mark.Ready = record {
  begun_by = codes "<path class='ready'";
  drawn_as = codes "h24";
  means = codes "can take a step";
}
appearance mark.Waits = record {
  begun_by = codes "<path class='waits'";
  drawn_as = codes "h24";
  means = codes "waits in join or close";
}
appearance mark.Step = record {
  begun_by = codes "<path class='step'";
  drawn_as = codes "m-4 0a4 4 0 1 0 8 0a4 4 0 1 0-8 0";
  means = codes "a step";
}
appearance mark.Fork = record {
  begun_by = codes "<path class='fork'";
  drawn_as = codes "m12-8v16";
  means = codes "starts a subtask";
}
appearance mark.Success = record {
  begun_by = codes "<path class='success'";
  drawn_as = codes "m7 0l4 5l8-10";
  means = codes "succeeded";
}
appearance mark.Failed = record {
  begun_by = codes "<path class='failed'";
  drawn_as = codes "m8-5l10 10m0-10l-10 10";
  means = codes "failed";
}
appearance mark.Unheard = record {
  begun_by = codes "<path class='unheard'";
  drawn_as = codes "m8 0a5 5 0 1 0 10 0a5 5 0 1 0-10 0";
  means = codes "ended after the cancel, not told";
}
appearance mark.NeverStarted = record {
  begun_by = codes "<path class='never-started'";
  drawn_as = codes "m8-5h10v10h-10z";
  means = codes "forked after the cancel, never runs";
}
appearance mark.Interrupted = record {
  begun_by = codes "<path class='interrupted'";
  drawn_as = codes "m2-8l-6 8h5l-3 7l8-9h-5l4-6z";
  means = codes "interrupted";
}
appearance mark.Bracket = record {
  begun_by = codes "<path class='bracket'";
  drawn_as = codes "h24";
  means = codes "an open scope";
}
appearance mark.Closing = record {
  begun_by = codes "<path class='closing'";
  drawn_as = codes "h24";
  means = codes "its close waits for subtasks";
}
appearance mark.Edge = record {
  begun_by = codes "<path class='edge'";
  drawn_as = codes "m0-4v8";
  means = codes "opened, joined or closed";
}
appearance mark.Expired = record {
  begun_by = codes "<path class='expired'";
  drawn_as = codes "m4-4h7l-7 8h7z";
  means = codes "time is up";
}
appearance mark.Cancelled = record {
  begun_by = codes "<path class='cancelled'";
  drawn_as = codes "m13 0a4 4 0 1 0 8 0a4 4 0 1 0-8 0m1.2 2.8l5.6-5.6";
  means = codes "cancelled";
}
appearance mark.QuietCancel = record {
  begun_by = codes "<path class='quiet'";
  drawn_as = codes "m13 0a3 3 0 1 0 6 0a3 3 0 1 0-6 0";
  means = codes "closed, with nothing to cancel";
}
appearance mark.Fault = record {
  begun_by = codes "<path class='fault'";
  drawn_as = codes "m14-9v10m0 4v3";
  means = codes "a forbidden step: the run stops";
}
appearance mark.Idle = record {
  begun_by = codes "<path class='idle'";
  drawn_as = codes "m-7 0h14";
  means = codes "the event changed nothing";
}

abbrev pub begins : Mark → List ℕ
begins m = (appearance m).begun_by

abbrev pub shape : Mark → List ℕ
shape m = (appearance m).drawn_as

abbrev pub meaning : Mark → List ℕ
meaning m = (appearance m).means
