-- `rules::list::lines_alone`: `at` comes after n of the lines, and the item's lines from `at` on, counted on from n, are those asked for.
-- The measure is the bytes from `at` on.
use Rattle.std.proofs.Common.{◌≡◌, ◌-◌}
use Rattle.rules.specs.Lists.{item_lines}
use Rattle.rules.specs.Scans.{run_by, item_run}
use Rattle.rules.proofs.Laws.Stretches.{After}
use Rattle.rules.proofs.list.lines_alone.Given as goal

abbrev pub invariant-loop-line : goal.invariant-loop-line
invariant-loop-line l =
    After l.text l.from l.to l.at l.n × (run_by (item_lines l.width 0) l.text l.at l.to l.n ≡ item_run l.text l.from l.to l.width)

abbrev pub decreases-loop-line : goal.decreases-loop-line
decreases-loop-line l = l.to - l.at
