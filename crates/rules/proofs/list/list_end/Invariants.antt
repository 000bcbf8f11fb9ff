-- `rules::list::list_end`: the list's lines from `at` on, where an item's further lines start, counted on from n, are those after its first line, and
-- what is known is true of the lines from `at` on. The measure is the bytes from `at` on.
use Rattle.std.proofs.Common.{◌≡◌, ◌-◌, ◌≤◌, length}
use Rattle.text.specs.Limits.{text_limit}
use Rattle.rules.specs.Known.{Knows}
use Rattle.rules.specs.Scans.{run_by}
use Rattle.rules.proofs.Laws.Scans.{list_rest}
use Rattle.rules.proofs.list.list_end.Given as goal

abbrev pub invariant-loop-next : goal.invariant-loop-next
invariant-loop-next l =
    (l.at ≤ l.to) × (l.to ≤ length l.text) × (l.to ≤ text_limit) × Knows l.text l.at l.to l.ends l.names
    × (run_by (list_rest l.width) l.text l.at l.to l.n ≡ run_by (list_rest l.width) l.text l.initial.at l.to l.initial.n)

abbrev pub decreases-loop-next : goal.decreases-loop-next
decreases-loop-next l = l.to - l.at
