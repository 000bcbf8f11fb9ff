-- `rules::block::greater_detail` meets its contract: the two names in the order of the definition.
-- Assumes nothing.
use Rattle.std.proofs.Common.{sym, ◌∙◌}
use Rattle.text.specs.Runs.{word}
use Rattle.rules.specs.Elements.{greater_detail}
use Rattle.rules.proofs.block.greater_detail.Goals as goal

pub returns-then-is_word : goal.returns-then-is_word
unfolding greater_detail word
returns-then-is_word c = rw (sym c.is_word.ensures ∙ c.if-is_word.true, greater_detail)

pub returns-then-is_word-2 : goal.returns-then-is_word-2
unfolding greater_detail word
returns-then-is_word-2 c = rw (sym c.is_word.ensures ∙ c.if-is_word.false, sym c.is_word-2.ensures ∙ c.if-is_word-2.true, greater_detail)

pub returns : goal.returns
unfolding greater_detail word
returns c = rw (sym c.is_word.ensures ∙ c.if-is_word.false, sym c.is_word-2.ensures ∙ c.if-is_word-2.false, greater_detail)
