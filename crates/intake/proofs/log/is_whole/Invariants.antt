-- `intake::log::is_whole`: the invariant and the measure of its loop.
-- The invariant: the log is whole where what is left of it is. The measure is the bytes left.
use mathlib.Core.Path.{◌≡◌}
use Prim.Native.Nat.{◌-◌, ◌≤◌}
use lib.ListN.{length, drop}
use Rattle.rules.specs.Items.{is_some}
use Rattle.intake.specs.Log.{orders_in}
use Rattle.intake.proofs.log.is_whole.Given as goal

abbrev pub invariant-loop-at : goal.invariant-loop-at
invariant-loop-at l = (l.at ≤ length l.log) × (is_some (orders_in (drop l.at l.log)) ≡ is_some (orders_in l.log))

abbrev pub decreases-loop-at : goal.decreases-loop-at
decreases-loop-at l = length l.log - l.at
