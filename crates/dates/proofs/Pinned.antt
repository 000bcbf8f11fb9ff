-- The cases of specs/Pinned are right, by computation.
use mathlib.Core.Path.{refl}
use Rattle.text.specs.Cases.{Right}
use Rattle.dates.specs.Pinned.Stamps
use Rattle.dates.specs.Pinned.Stamps.{OpenStampCases}
use Rattle.dates.specs.Pinned.Planning
use Rattle.dates.specs.Pinned.Planning.{OpenPlanningCases}
use Rattle.dates.specs.Pinned.Days
use Rattle.dates.specs.Pinned.Days.{OpenDayCases}

pub readings-pinned : Right Stamps.small_cases × Right Stamps.shape_cases × Right Stamps.part_cases
unfolding OpenStampCases
readings-pinned = (refl, refl, refl)

pub wholes-pinned : Right Stamps.bracket_cases × Right Stamps.date_cases × Right Stamps.name_cases × Right Stamps.time_cases × Right Stamps.range_cases
unfolding OpenStampCases
wholes-pinned = (refl, refl, refl, refl, refl)

pub repeaters-pinned : Right Stamps.repeater_cases × Right Stamps.delay_cases × Right Stamps.both_cases × Right Stamps.second_cases × Right Stamps.byte_cases
unfolding OpenStampCases
repeaters-pinned = (refl, refl, refl, refl, refl)

pub stamps-pinned : Right Stamps.single_cases × Right Stamps.repeat_cases × Right Stamps.dates_cases × Right Stamps.rest_cases
unfolding OpenStampCases
stamps-pinned = (refl, refl, refl, refl)

pub planning-pinned : Right Planning.keyword_cases × Right Planning.one_cases × Right Planning.stamp_cases × Right Planning.several_cases × Right Planning.planning_cases
unfolding OpenPlanningCases
planning-pinned = (refl, refl, refl, refl, refl)

pub days-pinned : Right Days.year_cases × Right Days.calendar_cases × Right Days.between_cases × Right Days.refused_cases × Right Days.day_number_cases
unfolding OpenDayCases
days-pinned = (refl, refl, refl, refl, refl)

pub next-pinned : Right Days.next_cases × Right Days.after_cases
unfolding OpenDayCases
next-pinned = (refl, refl)
