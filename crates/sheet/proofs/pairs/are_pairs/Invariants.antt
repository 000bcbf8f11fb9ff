-- `sheet::pairs::are_pairs`: what is left are pairs where all are.
use mathlib.Core.Path.{◌≡◌}
use Prim.Native.Nat.{◌-◌, ◌≤◌}
use lib.ListN.{length}
use Rattle.sheet.specs.Spans.{are_pairs}
use Rattle.sheet.proofs.pairs.are_pairs.Given as goal

abbrev pub invariant-loop : goal.invariant-loop
invariant-loop l = (l.at ≤ length l.buffer) × (are_pairs l.buffer l.at (l.count - l.counter) ≡ are_pairs l.buffer l.from l.count)
