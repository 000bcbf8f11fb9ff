-- `rules::item::is_item` meets its contract: an item line is one with a bullet, and most lines have none by their first bytes.
-- Assumes nothing.
use mathlib.Core.Path.{sym, ap, ◌∙◌}
use Rattle.std.specs.Option.{is_some}
use Rattle.rules.proofs.Laws.Bullets.{is_item-bullet}
use Rattle.rules.proofs.Laws.ItemFirst.{item-no-body}
use Rattle.rules.proofs.item.is_item.Goals as goal

pub returns-then-to-body : goal.returns-then-to-body
returns-then-to-body c = sym (item-no-body _ _ _ _ c.requires.2 c.if-to-body.true)

pub returns : goal.returns
returns c = c.is_some.ensures ∙ ap is_some c.find_bullet.ensures ∙ sym (is_item-bullet _ _)
