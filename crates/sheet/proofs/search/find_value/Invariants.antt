-- `sheet::search::find_value`: what is sought among all pairs is what is sought among those left.
use mathlib.Core.Path.{◌≡◌}
use Prim.Native.Nat.{◌-◌}
use Rattle.sheet.specs.Order.{value_for}
use Rattle.sheet.specs.Spans.{HasPairs, pairs_at}
use Rattle.sheet.proofs.search.find_value.Given as goal

abbrev pub invariant-loop : goal.invariant-loop
invariant-loop l =
    HasPairs l.buffer l.at (l.count - l.counter)
    × (value_for l.key (pairs_at l.buffer l.from l.count) ≡ value_for l.key (pairs_at l.buffer l.at (l.count - l.counter)))
