use Rattle.std.proofs.Common.{◌≡◌, length, ◌+◌, ◌-◌, ◌<◌, find, slice_range, count_by}
use Rattle.std.specs.List.{range_with_len}
use Rattle.sts_code.specs.Loops as def
use Rattle.sts_code.proofs.loops.match_of.Given as goal

-- the match is the first among the rest, and `times` and `next` count the instructions passed
abbrev pub invariant-loop-q : goal.invariant-loop-q
invariant-loop-q l = record {
  rest : find (λ q. def.is_balanced (slice_range l.code l.at (q + 1))) (range_with_len l.q (length l.code - l.q)) ≡ def.match_of l.code l.at;
  times : l.times ≡ count_by def.is_times (slice_range l.code l.at l.q);
  nexts : l.nexts ≡ count_by def.is_next (slice_range l.code l.at l.q);
  past : l.at < l.q;
}
