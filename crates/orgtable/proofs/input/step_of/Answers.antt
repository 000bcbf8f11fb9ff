-- `orgtable::input::step_of` meets its contract, by the answer's case.
-- Assumes nothing.
use Rattle.orgtable.specs.Input.{step_of}
use Rattle.orgtable.proofs.Laws.Input.{no_bytes, some_bytes}
use Rattle.orgtable.proofs.input.step_of.Goals as goal

pub returns-then-count-eq0 : goal.returns-then-count-eq0
returns-then-count-eq0 c = rw c.in-Ok.is (no_bytes _ c.if-count-eq0.true)

pub returns-else-count-eq0 : goal.returns-else-count-eq0
returns-else-count-eq0 c = rw c.in-Ok.is (some_bytes _ c.if-count-eq0.false)

pub returns-in-Err : goal.returns-in-Err
unfolding step_of
returns-in-Err c = rw c.in-Err.is
