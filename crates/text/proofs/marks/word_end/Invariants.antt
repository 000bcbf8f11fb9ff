-- `text::marks::word_end` meets its contract. The invariant: the run ends where what is left of it at i does.
-- Assumes nothing.
use Rattle.std.proofs.Common.{◌≡◌, ◌+◌, length}
use Rattle.text.specs.Bytes.{is_non_blank}
use Rattle.text.specs.Runs.{run}
use Rattle.text.specs.Parts.{part}
use Rattle.text.proofs.marks.word_end.Given as goal

abbrev pub invariant-loop-i : goal.invariant-loop-i
invariant-loop-i l =
    l.i + length (run is_non_blank (part l.text l.i l.to)) ≡ l.from + length (run is_non_blank (part l.text l.from l.to))
