-- `rules::heading::next_heading`: the next heading line from `at` on is the one asked for. The measure is the bytes from `at` on.
-- Assumes nothing.
use Rattle.std.proofs.Common.{◌≡◌, ◌-◌, ◌≤◌, length}
use Rattle.text.specs.Parts.{next_line}
use Rattle.rules.specs.Headings.{is_heading_up_to}
use Rattle.rules.proofs.heading.next_heading.Given as goal

abbrev pub invariant-loop-at : goal.invariant-loop-at
invariant-loop-at l =
    (l.at ≤ length l.text) × (next_line (is_heading_up_to l.most) l.text l.at ≡ next_line (is_heading_up_to l.most) l.text l.from)

abbrev pub decreases-loop-at : goal.decreases-loop-at
decreases-loop-at l = l.end - l.at
