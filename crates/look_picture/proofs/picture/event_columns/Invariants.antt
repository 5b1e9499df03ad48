use Rattle.std.proofs.Common.{◌≡◌, ◌≤◌, ◌++◌, take, drop}
use Rattle.std.specs.String.{string_bytes}
use Rattle.look_picture.specs.Picture as def
use Rattle.look_drawing.specs.Present as numbers
use Rattle.look_lines.specs.Watched.{watched}
use Rattle.look_tell.specs.Story.{after_events}
use Rattle.look_picture.proofs.picture.event_columns.Given as goal

-- The machine and the story are in the state after the first events. The list has what the next
-- column can show. What is drawn and counted, with the columns of the rest, is the whole picture.
abbrev pub invariant-loop-i : goal.invariant-loop-i
invariant-loop-i l = record {
  behind : l.before ≡ watched l.fn.before.program (take l.i l.events);
  told : l.story ≡ after_events l.fn.before.program (take l.i l.events);
  listed : l.present ≡ numbers.present l.before.last;
  few : l.columns ≤ l.i;
  counted : def.count_from l.manner.names.now l.manner.brief l.fn.before.program l.columns (take l.i l.events) (drop l.i l.events) ≡ def.count_from l.manner.names.now l.manner.brief l.fn.before.program 0 (take l.skipped l.events) (drop l.skipped l.events);
  drawn : string_bytes l.out ++ def.columns_from l.manner.names.now l.manner.brief l.fn.before.program l.columns (take l.i l.events) (drop l.i l.events) ≡ string_bytes l.fn.out ++ def.columns_from l.manner.names.now l.manner.brief l.fn.before.program 0 (take l.skipped l.events) (drop l.skipped l.events);
}
