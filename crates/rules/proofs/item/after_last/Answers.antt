-- `rules::item::after_last` meets its contract: what each call leaves, one after the other.
-- Assumes nothing.
use mathlib.Core.List.{[], ◌∷◌}
use Rattle.rules.specs.Items.{after_byte, ended}
use Rattle.rules.proofs.Laws.Bullets.{leaves_none, leaves-then, leaves_last}
use Rattle.rules.proofs.item.after_last.Goals as goal

pub returns-in_err-a : goal.returns-in_err-a
returns-in_err-a g c t h = rw c.from_residual.ensures (leaves_none _ _ _ (after_byte t) (ended ∷ []) (c.in_err-a.ensures.leaves t h))

pub returns : goal.returns
returns g c t h =
    leaves-then _ _ _ (after_byte t) (ended ∷ []) _ _ (c.in_ok-a.ensures.leaves t h) (leaves_last _ _ _ ended _ c.if_ended.ensures)
