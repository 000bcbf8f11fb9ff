-- `rules::list::lines_to_end`: `at` comes after n of the lines, and these are indented more than the item. The measure is the bytes from `at` on.
use Rattle.std.proofs.Common.{◌-◌}
use Rattle.rules.proofs.Laws.Stretches.{After, DeepTo}
use Rattle.rules.proofs.list.lines_to_end.Given as goal

abbrev pub invariant-loop-first : goal.invariant-loop-first
invariant-loop-first l = After l.text l.from l.to l.at l.n × DeepTo l.width l.text l.from l.to l.at l.n

abbrev pub decreases-loop-first : goal.decreases-loop-first
decreases-loop-first l = l.to - l.at
