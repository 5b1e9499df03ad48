use Rattle.std.proofs.Common.{◌≡◌, ◌++◌, [], take, drop}
use Rattle.std.specs.String.{string_bytes}
use Rattle.look_lines.specs.Views as def
use Rattle.look_lines.specs.Watched.{watched}
use Rattle.look_lines.proofs.views.say_events.Given as goal

-- the machine is in the state after the first events; what is written, and the rest of it
abbrev pub invariant-loop-i : goal.invariant-loop-i
invariant-loop-i g l =
    let v = g.V.View.writes l.view in
    let p = l.fn.watch.program in
    record {
      stands : l.watch ≡ watched p (take l.i l.events);
      written : string_bytes l.out ++ def.views_from v p (take l.i l.events) (drop l.i l.events) ≡ string_bytes l.fn.out ++ def.views_from v p [] l.events;
    }
