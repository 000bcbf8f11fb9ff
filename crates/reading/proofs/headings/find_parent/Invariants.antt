-- `at` is at most `from`, and what is found from it on is what was asked. The measure is `at`: each step is to an earlier row.
use Rattle.std.proofs.Common.{◌≡◌, ◌≤◌}
use Rattle.reading.specs.Tracked.{parent_in}
use Rattle.reading.proofs.headings.find_parent.Given as goal

abbrev pub invariant-loop-at : goal.invariant-loop-at
invariant-loop-at l = record {
  order : l.at ≤ l.from;
  same : parent_in l.table l.at l.stars ≡ parent_in l.table l.from l.stars;
}

abbrev pub decreases-loop-at : goal.decreases-loop-at
decreases-loop-at l = l.at
