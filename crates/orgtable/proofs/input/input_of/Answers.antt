-- `orgtable::input::input_of` meets its contract, by the step's case.
-- Assumes nothing.
use Rattle.orgtable.specs.Input.{input_of}
use Rattle.orgtable.proofs.input.input_of.Goals as goal

pub returns-in-Some : goal.returns-in-Some
unfolding input_of
returns-in-Some c = rw (c.in-Ok.is, c.in-Some.is)

pub returns-in-None : goal.returns-in-None
unfolding input_of
returns-in-None c = rw (c.in-Ok.is, c.in-None.is)

pub returns-in-Err : goal.returns-in-Err
unfolding input_of
returns-in-Err c = rw c.in-Err.is
