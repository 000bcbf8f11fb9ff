-- `lookup::planning::line_after` meets its contract: no line has more stars than the text has bytes, so the section ends at the next heading line.
-- Assumes nothing.
use Rattle.lookup.proofs.Laws.DrawersFound.{section-order}
use Rattle.lookup.proofs.Laws.Planning.{body_after-none, body_after-line}
use Rattle.lookup.proofs.planning.line_after.Goals as goal

pub returns-then-to-from : goal.returns-then-to-from
returns-then-to-from c = body_after-none _ _ c.requires _ c.next_heading-to.ensures c.if-to-from.true

pub line_at-line-requires : goal.line_at-line-requires
line_at-line-requires c = section-order _ _ c.requires _ c.next_heading-to.ensures

pub returns : goal.returns
returns c = body_after-line _ _ c.requires _ c.next_heading-to.ensures c.if-to-from.false _ c.line_at-line.ensures
