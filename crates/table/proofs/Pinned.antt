-- The cases of specs/Pinned are right, by computation.
use mathlib.Core.Path.{refl}
use Rattle.text.specs.Cases.{Right}
use Rattle.table.specs.Pinned.Headings.{section_cases, heading_cases, open_cases, OpenHeadingCases}
use Rattle.table.specs.Pinned.Containers.{blank_cases, held_cases, closer_cases, planning_cases, drawer_cases, OpenContainerCases}
use Rattle.table.specs.Pinned.Lists.{bullet_cases, detail_cases, left_cases, first_line_cases, indentation_cases, end_cases, blank_item_cases}
use Rattle.table.specs.Pinned.Lists.{item_held_cases, sought_cases, usual_cases, OpenListCases}
use Rattle.table.specs.Pinned.Closers.{seek_cases, whole_cases, run_cases, scan_cases, OpenCloserCases}
use Rattle.table.specs.Pinned.Nesting.{nesting_cases, deeper_cases, list_nesting_cases, OpenNestingCases}

pub headings-pinned : Right section_cases × Right heading_cases × Right open_cases
unfolding OpenHeadingCases
headings-pinned = (refl, refl, refl)

pub containers-pinned : Right blank_cases × Right held_cases × Right closer_cases × Right planning_cases × Right drawer_cases
unfolding OpenContainerCases
containers-pinned = (refl, refl, refl, refl, refl)

pub items-pinned : Right bullet_cases × Right detail_cases × Right left_cases × Right first_line_cases × Right indentation_cases
unfolding OpenListCases
items-pinned = (refl, refl, refl, refl, refl)

pub lists-pinned : Right end_cases × Right blank_item_cases × Right item_held_cases × Right sought_cases × Right usual_cases
unfolding OpenListCases
lists-pinned = (refl, refl, refl, refl, refl)

pub nesting-pinned : Right nesting_cases × Right deeper_cases × Right list_nesting_cases
unfolding OpenNestingCases
nesting-pinned = (refl, refl, refl)

pub closers-pinned : Right seek_cases × Right whole_cases × Right run_cases × Right scan_cases
unfolding OpenCloserCases
closers-pinned = (refl, refl, refl, refl)
