-- `rules::item::after_number` meets its contract: what each call leaves, one after the other.
-- Assumes nothing.
use mathlib.Core.Path.{refl}
use mathlib.Core.List.{[], ◌∷◌}
use Rattle.rules.specs.Items.{after_byte, after_counter, ended, is_mark, after_number}
use Rattle.rules.proofs.Laws.Bullets.{leaves_none, leaves-then}
use Rattle.rules.proofs.item.after_number.Goals as goal

pub returns-in_err-a : goal.returns-in_err-a
unfolding after_number
returns-in_err-a c =
    rw c.from_residual.ensures (leaves_none _ _ _ after_counter (after_byte is_mark ∷ ended ∷ []) c.in_err-a.ensures)

pub returns : goal.returns
unfolding after_number
returns c =
    leaves-then _ _ _ after_counter (after_byte is_mark ∷ ended ∷ []) _ _ c.in_ok-a.ensures
    (c.after_last.ensures is_mark (record { newline = refl; is = λ b l r h. h }))
