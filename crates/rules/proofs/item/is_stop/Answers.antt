-- `rules::item::is_stop` meets its contract.
-- Assumes nothing.
use mathlib.Core.Path.{sym}
use borrow.Author.Rules.{rules}
use Rattle.rules.proofs.Laws.Bullets.{is_mark-yes, is_mark-no}
use Rattle.rules.proofs.item.is_stop.Goals as goal

pub returns-in-46 : goal.returns-in-46
returns-in-46 c = sym (is_mark-yes _ c.in-46.is)

pub returns-in_default : goal.returns-in_default
returns-in_default c = sym (is_mark-no _ (search rules))
