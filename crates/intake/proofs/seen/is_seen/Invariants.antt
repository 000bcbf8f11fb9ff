-- `intake::seen::is_seen`: the invariant and the measure of its loop.
-- The invariant: a line starts where it stands, or the text ends, and no byte before it looks the value up. The measure is the bytes left.
use mathlib.Core.Path.{◌≡◌}
use Prim.Native.Nat.{◌-◌, ◌≤◌}
use lib.ListN.{length}
use Rattle.text.specs.Limits.{text_limit}
use Rattle.intake.proofs.Laws.Search.{Searched}
use Rattle.intake.proofs.seen.is_seen.Given as goal

abbrev pub invariant-loop-at : goal.invariant-loop-at
invariant-loop-at l = (length l.text ≤ text_limit) × (l.end ≡ length l.text) × Searched l.text l.value l.at

abbrev pub decreases-loop-at : goal.decreases-loop-at
decreases-loop-at l = length l.text - l.at
