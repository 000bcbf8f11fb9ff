-- `reading::kept::copy`: the first `i` numbers are copied.
use mathlib.Core.Path.{◌≡◌}
use lib.Seq.{paste}
use Rattle.reading.proofs.kept.copy.Given as goal

abbrev pub invariant-loop-i : goal.invariant-loop-i
invariant-loop-i l = l.table ≡ paste l.fn.table 0 l.store l.i
