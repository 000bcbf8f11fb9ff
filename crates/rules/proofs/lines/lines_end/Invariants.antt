-- `rules::lines::lines_end`: n of the lines of the class stand before `at`, each a byte at least. The measure is the bytes after `at`.
-- Assumes nothing.
use Prim.Native.Nat.{◌-◌, ◌≤◌}
use lib.ListN.{length}
use Rattle.rules.specs.LineTests.{line_test}
use Rattle.rules.proofs.Laws.LineRuns.{Counted}
use Rattle.rules.proofs.lines.lines_end.Given as goal

abbrev pub invariant-loop-at : goal.invariant-loop-at
invariant-loop-at l = (l.at ≤ l.to) × (l.to ≤ length l.text) × (l.n ≤ l.at) × Counted (line_test l.class) l.text l.from l.to l.at l.n

abbrev pub decreases-loop-at : goal.decreases-loop-at
decreases-loop-at l = l.to - l.at
