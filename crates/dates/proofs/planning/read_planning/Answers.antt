-- `dates::planning::read_planning` meets its contract.
-- Assumes nothing.
use Rattle.dates.specs.Planning.{planning_stamps}
use Rattle.dates.proofs.planning.read_planning.Goals as goal

pub returns-in_default : goal.returns-in_default
unfolding planning_stamps
returns-in_default c = rw c.in_default.ensures.is

pub returns : goal.returns
unfolding planning_stamps
returns c = rw (c.in-Some.ensures.is, c.stamp_at.ensures, c.stamp_at-2.ensures, c.stamp_at-3.ensures)
