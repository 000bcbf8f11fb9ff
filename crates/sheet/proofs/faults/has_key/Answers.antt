-- `sheet::faults::has_key` meets its contract: a pair has the key where one is found by it.
use mathlib.Core.Path.{sym, ◌∙◌}
use Rattle.sheet.proofs.Laws.Pairs.{has_key-value_for, is_some-value}
use Rattle.sheet.proofs.faults.has_key.Goals as goal

pub returns : goal.returns
returns c = c.is_some.ensures ∙ is_some-value _ _ _ c.find_value.ensures ∙ sym (has_key-value_for _ _)
