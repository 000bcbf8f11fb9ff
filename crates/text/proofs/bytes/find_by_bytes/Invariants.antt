-- `text::bytes::find_by_bytes` meets its contract. The invariant: the run of other bytes ends where what is left of it at i does.
-- Assumes nothing.
use Rattle.std.proofs.Common.{◌≡◌, ◌+◌, length}
use Rattle.text.specs.Bytes.{is_not}
use Rattle.text.specs.Runs.{run}
use Rattle.text.specs.Parts.{part}
use Rattle.text.proofs.bytes.find_by_bytes.Given as goal

abbrev pub invariant-loop-i : goal.invariant-loop-i
invariant-loop-i l =
    l.i + length (run (is_not l.b) (part l.text l.i l.to)) ≡ l.from + length (run (is_not l.b) (part l.text l.from l.to))
