-- `rules::item::after_set` meets its contract: what each call leaves, one after the other.
-- Assumes nothing.
use mathlib.Core.Path.{refl}
use mathlib.Core.List.{List, [], ◌∷◌}
use Rattle.std.proofs.Common.{Some, of_calls}
use Rattle.rules.specs.Items.{Part, after_byte, after_counter, ended, is_byte, after_set}
use Rattle.rules.specs.Bullets.{Leaves}
use Rattle.rules.proofs.Laws.Bullets.{leaves_none, leaves-then}
use Rattle.rules.proofs.item.after_set.Goals as goal
use Rattle.rules.proofs.item.after_set.Goals.{In_ok-a, In_ok-b}

-- what follows the counter, the first two bytes, and the first
abbrev third : List Part
third = after_byte (is_byte 93) ∷ ended ∷ []

abbrev second : List Part
second = after_counter ∷ third

abbrev first : List Part
first = after_byte (is_byte 64) ∷ second

-- past the first byte, and the second
opened : (c : In_ok-a) → Leaves c.args.text.now c.args.at c.args.to (after_byte (is_byte 91)) (Some c.in_ok-a.a)
unfolding is_byte
opened c = c.in_ok-a.ensures.leaves (is_byte 91) (record { newline = refl; is = λ b l r h. search of_calls })

signed : (c : In_ok-b) → Leaves c.args.text.now c.in_ok-a.a c.args.to (after_byte (is_byte 64)) (Some c.in_ok-b.b)
unfolding is_byte
signed c = c.in_ok-b.ensures.leaves (is_byte 64) (record { newline = refl; is = λ b l r h. search of_calls })

pub returns-in_err-a : goal.returns-in_err-a
unfolding after_set
returns-in_err-a c =
    rw c.from_residual.ensures
    (leaves_none _ _ _ (after_byte (is_byte 91)) first
    (c.in_err-a.ensures.leaves (is_byte 91) (record { newline = refl; is = λ b l r h. search of_calls })))

pub returns-in_err-b : goal.returns-in_err-b
unfolding after_set
returns-in_err-b c =
    rw c.from_residual-in_err-b.ensures
    (leaves-then _ _ _ (after_byte (is_byte 91)) first _ _ (opened (goal.at.returns-in_err-b c).In_ok-a)
    (leaves_none _ _ _ (after_byte (is_byte 64)) second
    (c.in_err-b.ensures.leaves (is_byte 64) (record { newline = refl; is = λ b l r h. search of_calls }))))

pub returns-in_err-c : goal.returns-in_err-c
unfolding after_set
returns-in_err-c c =
    rw c.from_residual-in_err-c.ensures
    (leaves-then _ _ _ (after_byte (is_byte 91)) first _ _ (opened (goal.at.returns-in_err-c c).In_ok-a)
    (leaves-then _ _ _ (after_byte (is_byte 64)) second _ _ (signed (goal.at.returns-in_err-c c).In_ok-b)
    (leaves_none _ _ _ after_counter third c.in_err-c.ensures)))

pub returns : goal.returns
unfolding after_set
returns c =
    leaves-then _ _ _ (after_byte (is_byte 91)) first _ _ (opened (goal.at.returns c).In_ok-a)
    (leaves-then _ _ _ (after_byte (is_byte 64)) second _ _ (signed (goal.at.returns c).In_ok-b)
    (leaves-then _ _ _ after_counter third _ _ c.in_ok-c.ensures
    (c.after_last.ensures (is_byte 93) (record { newline = refl; is = λ b l r h. search of_calls }))))
