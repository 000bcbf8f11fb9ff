-- `sheet::faults::some_pair`: one of the pairs passes where one of those left does.
use mathlib.Core.Path.{◌≡◌}
use mathlib.Core.Bool.{Bool}
use Prim.Native.Nat.{◌-◌}
use Rattle.sheet.specs.Order.{Pair, some_pair}
use Rattle.sheet.specs.Spans.{HasPairs, Tests, pairs_at}
use Rattle.sheet.proofs.faults.some_pair.Given as goal

abbrev pub invariant-loop : goal.invariant-loop
invariant-loop g l =
    HasPairs l.buffer l.at (l.count - l.counter)
    × ((f : Pair → Bool) → Tests l.buffer f (goal.F-post g l.test)
    → some_pair f (pairs_at l.buffer l.at (l.count - l.counter)) ≡ some_pair f (pairs_at l.buffer l.from l.count))
