-- `sheet::faults::is_bad_name` meets its contract: a key that is bad, or `END`.
use mathlib.Core.Path.{sym, ◌∙◌}
use Rattle.text.specs.Runs.{word}
use Rattle.sheet.proofs.Laws.Faults.{bad_name-key, bad_name-end}
use Rattle.sheet.proofs.faults.is_bad_name.Goals as goal

pub returns-then-is_bad_key : goal.returns-then-is_bad_key
returns-then-is_bad_key c = c.if-is_bad_key.true ∙ sym (bad_name-key _ (sym c.is_bad_key.ensures ∙ c.if-is_bad_key.true))

pub returns-else-is_bad_key : goal.returns-else-is_bad_key
unfolding word
returns-else-is_bad_key c = c.is_word.ensures ∙ sym (bad_name-end _ (sym c.is_bad_key.ensures ∙ c.if-is_bad_key.false))
