-- `text::bytes::trim_end` meets its contract. The invariant: up to i the part, trimmed, is as long as the whole part trimmed.
-- Assumes nothing.
use Rattle.std.proofs.Common.{◌≡◌, ◌≤◌, length}
use Rattle.text.specs.Runs.{trim_end}
use Rattle.text.specs.Parts.{part}
use Rattle.text.proofs.bytes.trim_end.Given as goal

abbrev pub invariant-loop-i : goal.invariant-loop-i
invariant-loop-i l = (l.from ≤ l.i) × (length (trim_end (part l.text l.from l.i)) ≡ length (trim_end (part l.text l.from l.to)))
