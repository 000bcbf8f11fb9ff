-- `reading::headings::walk` meets its contract: the document with its section, and the headings from the first heading line on.
-- Assumes nothing.
use Rattle.std.proofs.Common.{refl, ◌∙◌, [], arith}
use Rattle.text.proofs.Laws.LineStarts.{line_start-zero}
use Rattle.reading.proofs.Laws.SectionPlaces.{next-heading}
use Rattle.reading.proofs.Laws.Tracked.{tracked-none}
use Rattle.reading.proofs.Laws.Turns.{reading-turn}
use Rattle.reading.proofs.headings.walk.Goals as goal

pub read_headings-requires : goal.read_headings-requires
read_headings-requires c =
    let (first, count, line) = c.read_opening-turn.ensures.next_value in
    (rw first (next-heading _ 0 (omega arith) (line_start-zero _)), omega arith, count, line)

pub returns : goal.returns
returns c =
    let (first, count, line) = c.read_opening-turn.ensures.next_value in
    (rw first at (c.read_headings.ensures [] refl (tracked-none _))) ∙ reading-turn _ _ _ c.requires.1 c.read_opening-turn.ensures.takes
