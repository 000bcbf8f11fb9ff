-- `rules::item::after_counter` meets its contract: a law for each way out.
-- Assumes nothing.
use Rattle.std.proofs.Common.{sym, ◌∙◌}
use Rattle.rules.proofs.Laws.Bullets.{counter-none, counter-letter, counter-digits, counter-other}
use Rattle.rules.proofs.item.after_counter.Goals as goal

pub returns-then-to-at : goal.returns-then-to-at
returns-then-to-at c = counter-none _ _ _ c.if-to-at.true

pub returns-then-is_letter : goal.returns-then-is_letter
returns-then-is_letter c = counter-letter _ _ _ c.if-to-at.false c.requires.1 (sym c.is_letter.ensures ∙ c.if-is_letter.true)

pub returns-then-is_digit : goal.returns-then-is_digit
returns-then-is_digit c =
    counter-digits _ _ _ c.if-to-at.false c.requires.1 (sym c.is_letter.ensures ∙ c.if-is_letter.false)
    (sym c.is_digit.ensures ∙ c.if-is_digit.true) _ c.run_end.ensures

pub returns : goal.returns
returns c =
    counter-other _ _ _ c.if-to-at.false c.requires.1 (sym c.is_letter.ensures ∙ c.if-is_letter.false)
    (sym c.is_digit.ensures ∙ c.if-is_digit.false)
