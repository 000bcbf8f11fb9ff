-- `lookup::stages::find_heading` meets its contract: a line starts at the byte, and it has stars.
-- Assumes nothing.
use mathlib.Core.Path.{sym, ◌∙◌}
use Rattle.lookup.proofs.Laws.Finding.{heading-end, heading-inside, heading-none, heading-here}
use Rattle.lookup.proofs.stages.find_heading.Goals as goal

pub returns-then-end-at : goal.returns-then-end-at
returns-then-end-at c = heading-end _ _ c.if-end-at.true

pub returns-then-not-starts_line : goal.returns-then-not-starts_line
returns-then-not-starts_line c = heading-inside _ _ (sym c.starts_line.ensures ∙ c.if-not-starts_line.true)

pub returns-then-heading_stars-eq0 : goal.returns-then-heading_stars-eq0
returns-then-heading_stars-eq0 c = heading-none _ _ _ c.heading_stars.ensures c.if-heading_stars-eq0.true

pub returns : goal.returns
returns c =
    heading-here _ _ _ c.heading_stars.ensures c.if-heading_stars-eq0.false (sym c.starts_line.ensures ∙ c.if-not-starts_line.false)
    _ c.line_end.ensures
