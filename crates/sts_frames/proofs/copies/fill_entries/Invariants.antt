use Rattle.std.proofs.Common.{◌≡◌, ◌-◌, drop}
use Rattle.sts_frames.proofs.copies.fill_entries.Given as goal

-- the outermost entries so far
abbrev pub invariant-loop-i : goal.invariant-loop-i
invariant-loop-i l = l.entries ≡ drop (l.len - l.i) l.from
