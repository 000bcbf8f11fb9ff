-- `text::bytes::find_byte` meets its contract.
-- The invariant: the run of other bytes ends where what is left of it at i does, or at the end where i is past that. The measure is the bytes after i.
-- Assumes nothing.
use Rattle.std.proofs.Common.{◌≡◌, ◌+◌, ◌-◌, ◌≤◌, min, length}
use Rattle.text.specs.Bytes.{is_not}
use Rattle.text.specs.Runs.{run}
use Rattle.text.specs.Parts.{part}
use Rattle.text.proofs.bytes.find_byte.Given as goal

abbrev pub invariant-loop-i : goal.invariant-loop-i
invariant-loop-i l =
    (l.i ≤ length l.text)
    × (min l.i l.to + length (run (is_not l.b) (part l.text l.i l.to)) ≡ l.from + length (run (is_not l.b) (part l.text l.from l.to)))

abbrev pub decreases-loop-i : goal.decreases-loop-i
decreases-loop-i l = l.to - l.i
