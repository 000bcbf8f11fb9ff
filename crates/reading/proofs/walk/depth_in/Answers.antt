-- `reading::walk::depth_in` meets its contract: the three tests of the code are the one of `counts_depth`.
-- Assumes nothing.
use Rattle.std.proofs.Common.{rules, arith}
use Rattle.rules.proofs.Laws.Kind.{counts_depth-is}
use Rattle.table.specs.Nesting.{depth_in}
use Rattle.reading.proofs.walk.depth_in.Goals as goal

pub returns-then-kind-eq-LIST : goal.returns-then-kind-eq-LIST
unfolding depth_in
returns-then-kind-eq-LIST c = rw (counts_depth-is c.args.kind, depth_in) (grind arith)

pub returns-else-kind-eq-LIST : goal.returns-else-kind-eq-LIST
unfolding depth_in
returns-else-kind-eq-LIST c = rw (counts_depth-is c.args.kind, depth_in) (search rules)
