-- `rules::heading::star_line_in`: the least number so far is the place of a star right after byte 10, if it is a place at all, and no byte passed
-- before it is such a star.
-- Assumes nothing.
use Rattle.std.proofs.Common.{ℕ, ◌+◌, ◌≤◌, ◌<◌}
use Rattle.rules.specs.Headings.{StarLine}
use Rattle.rules.proofs.heading.star_line_in.Given as goal

abbrev pub invariant-loop-j : goal.invariant-loop-j
invariant-loop-j l =
    (l.first ≤ 255)
    × (l.first < 64 → (l.first < l.j) × StarLine l.text (l.at + l.first))
    × ((k : ℕ) → k < l.j → k < l.first → StarLine l.text (l.at + k) → ⊥)
