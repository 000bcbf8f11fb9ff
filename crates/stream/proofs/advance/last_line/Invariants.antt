-- `stream::advance::last_line`: no byte 10 stands from where the loop is.
use Rattle.std.proofs.Common.{◌≡◌, true, ◌≤◌}
use Rattle.text.specs.Bytes.{is_not}
use Rattle.text.specs.Runs.{all}
use Rattle.text.specs.Parts.{part}
use Rattle.stream.proofs.advance.last_line.Given as goal

abbrev pub invariant-loop-i : goal.invariant-loop-i
invariant-loop-i l = (l.from ≤ l.i) × (all (is_not 10) (part l.bytes l.i l.to) ≡ true)
