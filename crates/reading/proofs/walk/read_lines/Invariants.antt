-- `reading::walk::read_lines`: what is left to absorb from `at` on, in the state so far, ends as all of it does from the start; and each line gives one
-- record at most. The measure is the bytes after `at`.
-- Assumes nothing.
use Rattle.std.proofs.Common.{◌≡◌, ◌+◌, ◌-◌, ◌≤◌, ◌<◌, length}
use Rattle.text.specs.LineNumbers.{line_number}
use Rattle.reading.specs.Walk.{state, absorbed, entries_from, lines_to}
use Rattle.reading.proofs.walk.read_lines.Given as goal

abbrev pub invariant-loop-at : goal.invariant-loop-at
invariant-loop-at l = record {
  order : l.at ≤ l.to;
  count : l.out.count + l.from ≤ l.initial.out.count + l.at;
  size : length l.table ≡ length l.initial.table;
  same : absorbed (state l.table l.out) (entries_from l.text (lines_to l.rows l.to) l.parent l.depth l.at l.out.count)
      ≡ absorbed (state l.initial.table l.initial.out) (entries_from l.text (lines_to l.rows l.to) l.parent l.depth l.from l.initial.out.count);
  line : l.at < l.to → l.n ≡ line_number l.text l.at;
}

abbrev pub decreases-loop-at : goal.decreases-loop-at
decreases-loop-at l = l.to - l.at
