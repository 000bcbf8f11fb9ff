-- `dates::planning::read_parts` meets its contract. The invariant: for some count of parts that is enough for the bytes left, what is left at `at`
-- makes of the stamps so far what the whole makes of none; the count stands in for a law that more of them changes nothing. The measure is
-- the bytes left.
-- Assumes nothing.
use Rattle.std.proofs.Common.{◌≡◌, ℕ, ◌≤◌, ◌-◌, length}
use Rattle.text.specs.Parts.{part}
use Rattle.dates.specs.Planning.{planning_parts, planning_in}
use Rattle.dates.specs.Found.{stamps_in, PlacesIn}
use Rattle.dates.proofs.planning.read_parts.Given as goal

abbrev pub invariant-loop-at : goal.invariant-loop-at
invariant-loop-at l =
    (l.from ≤ l.at) × (l.at ≤ l.to) × (l.to ≤ length l.text) × PlacesIn l.to l.places
    × ((n : ℕ) × ((l.to - l.at ≤ n) × (planning_parts n (stamps_in l.text l.to l.places) (part l.text l.at l.to) ≡ planning_in (part l.text l.from l.to))))

abbrev pub decreases-loop-at : goal.decreases-loop-at
decreases-loop-at l = l.to - l.at
