-- `lookup::stages::find_value`: the value from `at` on is the value asked for. The measure is the bytes from `at` on.
-- Assumes nothing.
use mathlib.Core.Path.{◌≡◌}
use Prim.Native.Nat.{◌-◌, ◌≤◌}
use Rattle.lookup.proofs.Laws.Finding.{value_from}
use Rattle.lookup.proofs.stages.find_value.Given as goal

abbrev pub invariant-loop-at : goal.invariant-loop-at
invariant-loop-at l = (l.at ≤ l.to) × (value_from l.key l.text l.at l.to ≡ value_from l.key l.text l.from l.to)

abbrev pub decreases-loop-at : goal.decreases-loop-at
decreases-loop-at l = l.to - l.at
