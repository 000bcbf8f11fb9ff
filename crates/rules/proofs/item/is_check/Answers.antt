-- `rules::item::is_check` meets its contract.
-- Assumes nothing.
use mathlib.Core.Path.{sym}
use native.Mathlib.Omega.{arith}
use Rattle.rules.proofs.Laws.Bullets.{is_box_byte-yes, is_box_byte-no}
use Rattle.rules.proofs.item.is_check.Goals as goal

pub returns-in-9 : goal.returns-in-9
returns-in-9 c = sym (is_box_byte-yes _ c.in-9.is)

pub returns-in_default : goal.returns-in_default
returns-in_default c = sym (is_box_byte-no _ (λ h. omega arith))
