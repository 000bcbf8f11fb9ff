-- `rules::heading::star_line_by_bytes`: none of the bytes passed is a star right after byte 10.
-- Assumes nothing.
use Rattle.rules.specs.Headings.{NoStarLine}
use Rattle.rules.proofs.heading.star_line_by_bytes.Given as goal

abbrev pub invariant-loop-i : goal.invariant-loop-i
invariant-loop-i l = NoStarLine l.text l.from l.i
