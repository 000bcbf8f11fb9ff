-- `reading::walk::inner_line` meets its contract: its tests are those of `starts_inside`.
-- Assumes nothing.
use Rattle.std.proofs.Common.{rules, arith}
use Rattle.reading.specs.Walk.{starts_inside, inner_line}
use Rattle.reading.proofs.walk.inner_line.Goals as goal

pub returns-then-kind-eq-TABLE : goal.returns-then-kind-eq-TABLE
unfolding inner_line starts_inside
returns-then-kind-eq-TABLE c = grind arith

pub returns : goal.returns
unfolding inner_line starts_inside
returns c = search rules
