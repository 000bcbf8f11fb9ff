-- `dates::days::day_number` meets its contract: a calendar day of years 1 to 9999 keeps every sum small. Assumes nothing.
use mathlib.Core.Path.{◌∙◌}
use native.Mathlib.Omega.{arith}
use mir.Syntax.{w32}
use mir.ValLaws.{to_z_pos}
use Rattle.dates.specs.Days.{day_number, years_days}
use Rattle.dates.proofs.Laws.Days.{calendar}
use Rattle.dates.proofs.days.day_number.Goals as goal

pub overflow_sub-years : goal.overflow_sub-years
overflow_sub-years c = let k = calendar _ c.requires in omega arith

pub overflow_mul-day : goal.overflow_mul-day
overflow_mul-day c = let k = calendar _ c.requires in omega arith

pub overflow_add-day : goal.overflow_add-day
overflow_add-day c = let k = calendar _ c.requires in omega arith

pub overflow_add-day-2 : goal.overflow_add-day-2
overflow_add-day-2 c = let k = calendar _ c.requires in omega arith

pub days_before-requires : goal.days_before-requires
days_before-requires c = let k = calendar _ c.requires in omega arith

pub overflow_add-day-3 : goal.overflow_add-day-3
overflow_add-day-3 c = let k = calendar _ c.requires in omega arith

pub overflow_add-day-4 : goal.overflow_add-day-4
overflow_add-day-4 c = let k = calendar _ c.requires in omega arith

pub overflow_cast-result : goal.overflow_cast-result
overflow_cast-result c = let k = calendar _ c.requires in record { sfits = omega arith }

pub returns : goal.returns
unfolding day_number years_days
returns c =
    let k = calendar _ c.requires in
    let e = c.days_before.ensures.0 in
    (to_z_pos w32 _ (overflow_cast-result c).sfits ∙ rw e, omega arith)
