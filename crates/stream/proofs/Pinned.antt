-- The cases of specs/Pinned are right, by computation.
use mathlib.Core.Path.{refl}
use Rattle.text.specs.Cases.{Right}
use Rattle.stream.specs.Pinned.Headings.{title_cases, at_cases, from_cases, heads_cases, numbers_cases, OpenHeadingCases}
use Rattle.stream.specs.Pinned.State.{last_cases, finished_cases, so_far_cases, state_cases, OpenStateCases}
use Rattle.stream.specs.Pinned.Steps.{line_cases, stars_then_cases, title_then_cases, step_cases, bytes_cases, OpenStepCases}
use Rattle.stream.specs.Pinned.Calls.{open_cases, room_cases, written_cases, handed_cases, refuse_cases, piece_cases, end_cases, OpenCallCases}
use Rattle.stream.specs.Pinned.Runs.{joined_cases, taken_cases, after_cases, run_cases, refused_cases, table_cases, read_cases, OpenRunCases}

pub headings-pinned : Right title_cases × Right at_cases × Right from_cases × Right heads_cases × Right numbers_cases
unfolding OpenHeadingCases
headings-pinned = (refl, refl, refl, refl, refl)

pub state-pinned : Right last_cases × Right finished_cases × Right so_far_cases × Right state_cases
unfolding OpenStateCases
state-pinned = (refl, refl, refl, refl)

pub steps-pinned : Right line_cases × Right stars_then_cases × Right title_then_cases × Right step_cases × Right bytes_cases
unfolding OpenStepCases
steps-pinned = (refl, refl, refl, refl, refl)

pub calls-pinned : Right open_cases × Right room_cases × Right written_cases × Right handed_cases × Right refuse_cases × Right piece_cases × Right end_cases
unfolding OpenCallCases
calls-pinned = (refl, refl, refl, refl, refl, refl, refl)

pub runs-pinned : Right joined_cases × Right taken_cases × Right after_cases × Right run_cases × Right refused_cases
unfolding OpenRunCases
runs-pinned = (refl, refl, refl, refl, refl)

pub records-pinned : Right table_cases × Right read_cases
unfolding OpenRunCases
records-pinned = (refl, refl)
