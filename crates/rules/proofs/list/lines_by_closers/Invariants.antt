-- `rules::list::lines_by_closers`: the item's further lines from `at` on, counted on from n, are those asked for, and what is known is true of the
-- lines from `at` on. The measure is the bytes from `at` on.
use Rattle.std.proofs.Common.{◌≡◌, ◌-◌, ◌≤◌, length}
use Rattle.text.specs.Limits.{text_limit}
use Rattle.rules.specs.Known.{Knows}
use Rattle.rules.specs.Lists.{item_lines}
use Rattle.rules.specs.Scans.{run_by, item_run}
use Rattle.rules.proofs.list.lines_by_closers.Given as goal

abbrev pub invariant-loop-next : goal.invariant-loop-next
invariant-loop-next l =
    (l.at ≤ l.to) × (l.to ≤ length l.text) × (l.to ≤ text_limit) × Knows l.text l.at l.to l.ends l.names
    × (run_by (item_lines l.width 0) l.text l.at l.to l.n ≡ item_run l.text l.from l.to l.width)

abbrev pub decreases-loop-next : goal.decreases-loop-next
decreases-loop-next l = l.to - l.at
