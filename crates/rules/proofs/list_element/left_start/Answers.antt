-- `rules::list_element::left_start` meets its contract: after the bullet what `item_start` finds; without one nothing is left.
-- Assumes nothing.
use Rattle.std.proofs.Common.{sym, ◌∙◌, arith}
use Rattle.rules.proofs.Laws.LineOf.{line_of-order, line_of-from, line_of-end}
use Rattle.rules.proofs.Laws.Bullets.{bullet-order, start_is, item-nothing}
use Rattle.rules.proofs.Laws.ListElements.{item_start-nothing}
use Rattle.rules.proofs.list_element.left_start.Goals as goal

pub find_bullet-requires : goal.find_bullet-requires
find_bullet-requires c =
    let line = c.requires in
    let o = line_of-order _ _ _ line in
    (omega arith, o.5, line_of-from _ _ _ line)

pub item_start-requires : goal.item_start-requires
item_start-requires c =
    let line = c.requires in
    let o = line_of-order _ _ _ line in
    let b = bullet-order _ _ _ line.some line.end _ (line_of-end _ _ _ line) _ c.in-Some.ensures in
    (b.1, omega arith)

pub returns-in-Some : goal.returns-in-Some
returns-in-Some c =
    let line = c.requires in
    start_is _ _ _ line.some line.end _ (line_of-end _ _ _ line) _ c.in-Some.ensures _ c.item_start.ensures

pub returns-in-None : goal.returns-in-None
returns-in-None c = line_of-end _ _ _ c.requires ∙ sym (item_start-nothing _ _ (item-nothing _ _ c.in-None.ensures))
