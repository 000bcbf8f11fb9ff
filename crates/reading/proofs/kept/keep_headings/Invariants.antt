-- The store keeps the records up to `kept.at`. The measure is the bytes after it.
use Rattle.std.proofs.Common.{length, ◌-◌}
use Rattle.reading.specs.Kept.{Keeps}
use Rattle.reading.proofs.kept.keep_headings.Given as goal

abbrev pub invariant-loop-kept : goal.invariant-loop-kept
invariant-loop-kept l = Keeps l.text l.store l.kept.at l.kept.line l.kept.last l.kept.count

abbrev pub decreases-loop-kept : goal.decreases-loop-kept
decreases-loop-kept l = length l.text - l.kept.at
