-- `lookup::drawer::find_drawer` meets its contract: no line has more stars than the text has bytes, so the section ends at the next heading line.
-- Assumes nothing.
use mathlib.Core.Path.{sym, ◌∙◌}
use Rattle.rules.proofs.Laws.LineOf.{line_of, line_span-next}
use Rattle.lookup.proofs.Laws.DrawersFound.{section-order, drawer_after-end, drawer_after-planning, drawer_after-heading}
use Rattle.lookup.proofs.drawer.find_drawer.Goals as goal

pub returns-then-to-from : goal.returns-then-to-from
returns-then-to-from c = drawer_after-end _ _ c.requires _ c.next_heading-to.ensures c.if-to-from.true

pub line_at-line-requires : goal.line_at-line-requires
line_at-line-requires c = section-order _ _ c.requires _ c.next_heading-to.ensures

pub is_planning-requires : goal.is_planning-requires
is_planning-requires c =
    line_of _ _ _ _ c.if-to-from.false (section-order _ _ c.requires _ c.next_heading-to.ensures).1 c.line_at-line.ensures

pub find_drawer_at-requires : goal.find_drawer_at-requires
find_drawer_at-requires c =
    let o = section-order _ _ c.requires _ c.next_heading-to.ensures in
    ((line_span-next _ _ _ _ c.line_at-line.ensures c.if-to-from.false o.1).1, o.1)

pub returns-then-is_planning : goal.returns-then-is_planning
returns-then-is_planning c =
    c.find_drawer_at.ensures
    ∙ drawer_after-planning _ _ c.requires _ c.next_heading-to.ensures _ c.line_at-line.ensures (sym c.is_planning.ensures ∙ c.if-is_planning.true)

pub find_drawer_at-requires-2 : goal.find_drawer_at-requires-2
find_drawer_at-requires-2 c = section-order _ _ c.requires _ c.next_heading-to.ensures

pub returns : goal.returns
returns c =
    c.find_drawer_at-2.ensures
    ∙ drawer_after-heading _ _ c.requires _ c.next_heading-to.ensures _ c.line_at-line.ensures (sym c.is_planning.ensures ∙ c.if-is_planning.false)
