-- `sheet::sheet::put_pairs`: whoever lays the lines of the pairs left from here on has laid all of them.
use mathlib.Core.Path.{◌≡◌}
use mathlib.Core.List.{List}
use Prim.Native.Nat.{ℕ, ◌+◌, ◌-◌, ◌≤◌}
use lib.ListN.{length}
use Rattle.sheet.specs.Sheet.{pair_lines, join}
use Rattle.sheet.specs.Output.{Puts}
use Rattle.sheet.specs.Spans.{HasPairs, pairs_at}
use Rattle.sheet.proofs.sheet.put_pairs.Given as goal

abbrev pub invariant-loop : goal.invariant-loop
invariant-loop l =
    let n = l.count - l.counter in
    HasPairs l.buffer l.here n × (length l.out ≡ length l.fn.out) × (l.to + length (join (pair_lines (pairs_at l.buffer l.here n))) ≤ length l.out)
    × ((d : List ℕ) (e : ℕ) → Puts l.out l.to (join (pair_lines (pairs_at l.buffer l.here n))) d e
    → Puts l.fn.out l.at (join (pair_lines (pairs_at l.buffer l.from l.count))) d e)
