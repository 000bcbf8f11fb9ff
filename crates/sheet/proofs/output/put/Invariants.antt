-- `sheet::output::put`: the first i bytes are laid.
use mathlib.Core.Path.{◌≡◌}
use lib.ListN.{take}
use Rattle.sheet.specs.Output.{laid}
use Rattle.sheet.proofs.output.put.Given as goal

abbrev pub invariant-loop-i : goal.invariant-loop-i
invariant-loop-i l = l.out ≡ laid l.fn.out l.at (take l.i l.bytes)
