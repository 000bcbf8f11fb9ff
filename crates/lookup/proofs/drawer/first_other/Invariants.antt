-- `lookup::drawer::first_other`: the first such line from `at` on is the one asked for. The measure is the bytes from `at` on.
-- Assumes nothing.
use mathlib.Core.Path.{◌≡◌}
use Prim.Native.Nat.{◌-◌, ◌≤◌}
use Rattle.text.specs.Parts.{lines_in}
use Rattle.text.proofs.Laws.LinesIn.{past}
use Rattle.rules.specs.LineTests.{is_node_property}
use Rattle.lookup.specs.Drawers.{first_other}
use Rattle.lookup.proofs.drawer.first_other.Given as goal

abbrev pub invariant-loop-at : goal.invariant-loop-at
invariant-loop-at l = (l.at ≤ l.to) × (past is_node_property l.text l.at l.to ≡ first_other l.from (lines_in l.text l.from l.to))

abbrev pub decreases-loop-at : goal.decreases-loop-at
decreases-loop-at l = l.to - l.at
