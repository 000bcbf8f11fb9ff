-- The cases of specs/Pinned, specs/PinnedDefaults and specs/PinnedJoined are right, by computation.
use mathlib.Core.Path.{refl}
use Rattle.text.specs.Cases.{Right}
use Rattle.lookup.specs.Pinned.{lookup_cases, reason_cases, outcome_cases, planning_cases, OpenLookupCases}
use Rattle.lookup.specs.PinnedDefaults.{reserved_cases, heading_cases, defaults_cases, part_cases, OpenDefaultsCases}
use Rattle.lookup.specs.PinnedJoined.{moved_cases, heads_cases, OpenJoinedCases}

pub lookups-pinned : Right lookup_cases
unfolding OpenLookupCases
lookups-pinned = refl

pub reasons-pinned : Right reason_cases
unfolding OpenLookupCases
reasons-pinned = refl

pub outcomes-pinned : Right outcome_cases
unfolding OpenLookupCases
outcomes-pinned = refl

pub planning-pinned : Right planning_cases
unfolding OpenLookupCases
planning-pinned = refl

pub reserved-pinned : Right reserved_cases
unfolding OpenDefaultsCases
reserved-pinned = refl

pub headings-pinned : Right heading_cases
unfolding OpenDefaultsCases
headings-pinned = refl

pub defaults-pinned : Right defaults_cases
unfolding OpenDefaultsCases
defaults-pinned = refl

pub parts-pinned : Right part_cases
unfolding OpenDefaultsCases
parts-pinned = refl

pub moved-pinned : Right moved_cases
unfolding OpenJoinedCases
moved-pinned = refl

pub heads-pinned : Right heads_cases
unfolding OpenJoinedCases
heads-pinned = refl
