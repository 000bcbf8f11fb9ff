-- `rules::item::after_box` meets its contract: what each call leaves, one after the other.
-- Assumes nothing.
use mathlib.Core.Path.{refl}
use mathlib.Core.List.{List, [], ◌∷◌}
use Rattle.std.proofs.Common.{Some, of_calls}
use Rattle.rules.specs.Items.{Part, after_byte, ended, is_byte, is_box_byte, after_box}
use Rattle.rules.specs.Bullets.{Leaves}
use Rattle.rules.proofs.Laws.Bullets.{is_box_byte-newline, leaves_none, leaves-then}
use Rattle.rules.proofs.item.after_box.Goals as goal
use Rattle.rules.proofs.item.after_box.Goals.{In_ok-a}

-- what follows the first two bytes, and the first
abbrev second : List Part
second = after_byte (is_byte 93) ∷ ended ∷ []

abbrev first : List Part
first = after_byte is_box_byte ∷ second

-- past the first byte
opened : (c : In_ok-a) → Leaves c.args.text.now c.args.at c.args.to (after_byte (is_byte 91)) (Some c.in_ok-a.a)
unfolding is_byte
opened c = c.in_ok-a.ensures.leaves (is_byte 91) (record { newline = refl; is = λ b l r h. search of_calls })

pub returns-in_err-a : goal.returns-in_err-a
unfolding after_box
returns-in_err-a c =
    rw c.from_residual.ensures
    (leaves_none _ _ _ (after_byte (is_byte 91)) first
    (c.in_err-a.ensures.leaves (is_byte 91) (record { newline = refl; is = λ b l r h. search of_calls })))

pub returns-in_err-b : goal.returns-in_err-b
unfolding after_box
returns-in_err-b c =
    rw c.from_residual-in_err-b.ensures
    (leaves-then _ _ _ (after_byte (is_byte 91)) first _ _ (opened (goal.at.returns-in_err-b c).In_ok-a)
    (leaves_none _ _ _ (after_byte is_box_byte) second
    (c.in_err-b.ensures.leaves is_box_byte (record { newline = is_box_byte-newline; is = λ b l r h. h }))))

pub returns : goal.returns
unfolding after_box
returns c =
    leaves-then _ _ _ (after_byte (is_byte 91)) first _ _ (opened (goal.at.returns c).In_ok-a)
    (leaves-then _ _ _ (after_byte is_box_byte) second _ _
    (c.in_ok-b.ensures.leaves is_box_byte (record { newline = is_box_byte-newline; is = λ b l r h. h }))
    (c.after_last.ensures (is_byte 93) (record { newline = refl; is = λ b l r h. search of_calls })))
