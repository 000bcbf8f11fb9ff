-- The cases of specs/Pinned are right, by computation.
use mathlib.Core.Path.{refl}
use Rattle.text.specs.Cases.{Right}
use Rattle.intake.specs.Pinned.Required.{value_cases, required_cases, OpenRequiredCases}
use Rattle.intake.specs.Pinned.Seen.{looks_up_cases, below_cases, seen_cases, value_seen_cases, OpenSeenCases}
use Rattle.intake.specs.Pinned.Book.{text_cases, over_cases, added_cases, extended_cases, OpenBookCases}
use Rattle.intake.specs.Pinned.Appended.{room_cases, limit_cases, OpenAppendedCases}
use Rattle.intake.specs.Pinned.Turns.{turn_cases, long_cases, judged_cases, OpenTurnCases}
use Rattle.intake.specs.Pinned.Calls.{accepted_cases, refused_cases, several_cases, OpenCallCases}
use Rattle.intake.specs.Pinned.Orders.{orders_cases, form_cases, OpenOrderCases}
use Rattle.intake.specs.Pinned.Logs.{run_cases, log_cases, OpenLogCases}

pub required-pinned : Right value_cases × Right required_cases
unfolding OpenRequiredCases
required-pinned = (refl, refl)

pub seen-pinned : Right looks_up_cases × Right below_cases × Right seen_cases × Right value_seen_cases
unfolding OpenSeenCases
seen-pinned = (refl, refl, refl, refl)

pub book-pinned : Right text_cases × Right over_cases × Right added_cases × Right extended_cases
unfolding OpenBookCases
book-pinned = (refl, refl, refl, refl)

pub appended-pinned : Right room_cases × Right limit_cases
unfolding OpenAppendedCases
appended-pinned = (refl, refl)

pub turns-pinned : Right turn_cases × Right long_cases × Right judged_cases
unfolding OpenTurnCases
turns-pinned = (refl, refl, refl)

pub calls-pinned : Right accepted_cases × Right refused_cases × Right several_cases
unfolding OpenCallCases
calls-pinned = (refl, refl, refl)

pub orders-pinned : Right orders_cases × Right form_cases
unfolding OpenOrderCases
orders-pinned = (refl, refl)

pub logs-pinned : Right run_cases × Right log_cases
unfolding OpenLogCases
logs-pinned = (refl, refl)
