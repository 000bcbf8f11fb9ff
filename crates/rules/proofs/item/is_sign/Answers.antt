-- `rules::item::is_sign` meets its contract.
-- Assumes nothing.
use mathlib.Core.Path.{sym}
use borrow.Author.Rules.{rules}
use native.Mathlib.Omega.{arith}
use Rattle.rules.proofs.Laws.Bullets.{is_sign-yes, is_sign-star, is_sign-no}
use Rattle.rules.proofs.item.is_sign.Goals as goal

pub returns-in-45 : goal.returns-in-45
returns-in-45 c = sym (is_sign-yes _ _ c.in-45.is)

pub returns-in-42 : goal.returns-in-42
returns-in-42 c = sym (is_sign-star _ _ c.in-42.is)

pub returns-in_default : goal.returns-in_default
returns-in_default c = sym (is_sign-no _ _ (search rules) (λ h. omega arith))
