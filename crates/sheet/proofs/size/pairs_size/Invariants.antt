-- `sheet::size::pairs_size`: what is counted and the lines of the pairs left are all the lines.
use mathlib.Core.Path.{◌≡◌}
use Prim.Native.Nat.{◌+◌, ◌-◌, ◌*◌, ◌≤◌}
use lib.ListN.{length}
use Rattle.sheet.specs.Buffer.{pair_limit}
use Rattle.sheet.specs.Sheet.{pair_lines, join}
use Rattle.sheet.specs.Spans.{HasPairs, pairs_at, longest}
use Rattle.sheet.proofs.size.pairs_size.Given as goal

abbrev pub invariant-loop : goal.invariant-loop
invariant-loop l =
    let n = l.count - l.counter in
    HasPairs l.buffer l.at n × (l.count ≤ pair_limit) × (l.size ≤ longest * l.counter)
    × (l.size + length (join (pair_lines (pairs_at l.buffer l.at n))) ≡ length (join (pair_lines (pairs_at l.buffer l.from l.count))))
