-- The promise on day numbers holds. Assumes nothing.
use mathlib.Core.Path.{refl}
use Rattle.dates.specs.Promises.{Counted, OpenPromises}
use Rattle.dates.proofs.Laws.Days.{next_day-next, after-steps, after-days}

pub counted : Counted
unfolding OpenPromises
counted = record { first = refl; next = next_day-next; steps = after-steps; reached = after-days }
