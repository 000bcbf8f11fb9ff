-- `rules::block::verbatim_detail` meets its contract: name by name, the tests on the way say which is the first that fits.
-- Assumes nothing.
use Rattle.std.proofs.Common.{sym, ap, ◌∙◌}
use Rattle.text.specs.Runs.{word}
use Rattle.rules.specs.Names.{number_in}
use Rattle.rules.specs.Elements.{verbatim_names}
use Rattle.rules.specs.Findings.{number_found}
use Rattle.rules.proofs.Laws.NumberIn.{number_in-here, number_in-skip}
use Rattle.rules.proofs.block.verbatim_detail.Goals as goal

pub returns-then-is_word : goal.returns-then-is_word
unfolding verbatim_names word
returns-then-is_word c = ap number_found (sym (number_in-here _ _ _ _ (sym c.is_word.ensures ∙ c.if-is_word.true)))

pub returns-then-is_word-2 : goal.returns-then-is_word-2
unfolding verbatim_names word
returns-then-is_word-2 c = ap number_found (sym (number_in-skip _ _ _ _ (sym c.is_word.ensures ∙ c.if-is_word.false) ∙ number_in-here _ _ _ _ (sym c.is_word-2.ensures ∙ c.if-is_word-2.true)))

pub returns-then-is_word-3 : goal.returns-then-is_word-3
unfolding verbatim_names word
returns-then-is_word-3 c = ap number_found (sym (number_in-skip _ _ _ _ (sym c.is_word.ensures ∙ c.if-is_word.false) ∙ number_in-skip _ _ _ _ (sym c.is_word-2.ensures ∙ c.if-is_word-2.false) ∙ number_in-here _ _ _ _ (sym c.is_word-3.ensures ∙ c.if-is_word-3.true)))

pub returns-then-is_word-4 : goal.returns-then-is_word-4
unfolding verbatim_names word
returns-then-is_word-4 c = ap number_found (sym (number_in-skip _ _ _ _ (sym c.is_word.ensures ∙ c.if-is_word.false) ∙ number_in-skip _ _ _ _ (sym c.is_word-2.ensures ∙ c.if-is_word-2.false) ∙ number_in-skip _ _ _ _ (sym c.is_word-3.ensures ∙ c.if-is_word-3.false) ∙ number_in-here _ _ _ _ (sym c.is_word-4.ensures ∙ c.if-is_word-4.true)))

pub returns-then-is_word-5 : goal.returns-then-is_word-5
unfolding verbatim_names word
returns-then-is_word-5 c = ap number_found (sym (number_in-skip _ _ _ _ (sym c.is_word.ensures ∙ c.if-is_word.false) ∙ number_in-skip _ _ _ _ (sym c.is_word-2.ensures ∙ c.if-is_word-2.false) ∙ number_in-skip _ _ _ _ (sym c.is_word-3.ensures ∙ c.if-is_word-3.false) ∙ number_in-skip _ _ _ _ (sym c.is_word-4.ensures ∙ c.if-is_word-4.false) ∙ number_in-here _ _ _ _ (sym c.is_word-5.ensures ∙ c.if-is_word-5.true)))

pub returns : goal.returns
unfolding verbatim_names word number_in
returns c = rw (sym c.is_word.ensures ∙ c.if-is_word.false, sym c.is_word-2.ensures ∙ c.if-is_word-2.false, sym c.is_word-3.ensures ∙ c.if-is_word-3.false, sym c.is_word-4.ensures ∙ c.if-is_word-4.false, sym c.is_word-5.ensures ∙ c.if-is_word-5.false, number_in)
