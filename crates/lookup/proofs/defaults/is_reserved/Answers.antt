-- `lookup::defaults::is_reserved` meets its contract: a word in turn.
-- Assumes nothing.
use mathlib.Core.Path.{sym, ◌∙◌}
use Rattle.text.specs.Runs.{word}
use Rattle.lookup.proofs.Laws.Keys.{is_reserved-vin, is_reserved-other}
use Rattle.lookup.proofs.defaults.is_reserved.Goals as goal

pub returns-then-is_word : goal.returns-then-is_word
unfolding word
returns-then-is_word c = c.if-is_word.true ∙ sym (is_reserved-vin _ (sym c.is_word.ensures ∙ c.if-is_word.true))

pub returns-else-is_word : goal.returns-else-is_word
unfolding word
returns-else-is_word c = c.is_word-else-is_word.ensures ∙ sym (is_reserved-other _ (sym c.is_word.ensures ∙ c.if-is_word.false))
