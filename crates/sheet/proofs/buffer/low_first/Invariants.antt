-- `sheet::buffer::low_first`: n is the number in the bytes from place i on. The measure is i.
use mathlib.Core.Path.{◌≡◌}
use Prim.Native.Nat.{◌+◌, ◌-◌, ◌≤◌, ◌<◌}
use Rattle.text.specs.Parts.{part}
use Rattle.sheet.specs.Buffer.{low_first}
use Rattle.sheet.specs.Spans.{reach}
use Rattle.sheet.proofs.buffer.low_first.Given as goal

abbrev pub invariant-loop-i : goal.invariant-loop-i
invariant-loop-i l =
    (l.i ≤ l.width) × (l.n ≡ low_first (part l.buffer (l.at + l.i) (l.at + l.width))) × (l.n < reach (l.width - l.i))

abbrev pub decreases-loop-i : goal.decreases-loop-i
decreases-loop-i l = l.i
