-- `rules::known::closing_names`: a name that is none of those found closes a line from `from` on only where it closes one from `at` on.
-- The measure is the bytes from `at` on.
-- Assumes nothing.
use Rattle.std.proofs.Common.{◌-◌, ◌≤◌, length}
use Rattle.rules.proofs.Laws.Known.{NamesTo}
use Rattle.rules.proofs.known.closing_names.Given as goal

abbrev pub invariant-loop-at : goal.invariant-loop-at
invariant-loop-at l = (l.at ≤ l.to) × (l.to ≤ length l.text) × NamesTo l.text l.from l.at l.to l.names

abbrev pub decreases-loop-at : goal.decreases-loop-at
decreases-loop-at l = l.to - l.at
