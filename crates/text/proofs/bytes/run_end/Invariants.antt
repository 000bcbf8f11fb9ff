-- `text::bytes::run_end` meets its contract. The invariant: the run ends where what is left of it at i does.
-- Assumes nothing.
use Rattle.std.proofs.Common.{◌≡◌, ◌+◌, length}
use Rattle.text.specs.Runs.{run}
use Rattle.text.specs.Parts.{part}
use Rattle.text.specs.Spans.{passes}
use Rattle.text.proofs.bytes.run_end.Given as goal

abbrev pub invariant-loop-i : goal.invariant-loop-i
invariant-loop-i l =
    l.i + length (run (passes l.class) (part l.text l.i l.to)) ≡ l.from + length (run (passes l.class) (part l.text l.from l.to))
