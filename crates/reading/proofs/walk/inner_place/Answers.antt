-- `reading::walk::inner_place` meets its contract: a way for each case.
-- Assumes nothing.
use Rattle.std.proofs.Common.{rules}
use Rattle.reading.specs.Walk.{inner_place}
use Rattle.reading.proofs.walk.inner_place.Goals as goal

pub returns-then-tight : goal.returns-then-tight
unfolding inner_place
returns-then-tight c = search rules

pub returns-else-kind-eq-ITEM : goal.returns-else-kind-eq-ITEM
unfolding inner_place
returns-else-kind-eq-ITEM c = search rules
