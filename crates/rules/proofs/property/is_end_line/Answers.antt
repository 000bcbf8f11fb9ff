-- `rules::property::is_end_line` meets its contract: the body is the part from `line.from` to `line.to`.
-- Assumes nothing.
use Rattle.std.proofs.Common.{sym, ◌∙◌, arith}
use Rattle.text.specs.Runs.{word}
use Rattle.rules.proofs.Laws.LineOf.{line_of-order}
use Rattle.rules.proofs.Laws.LineTests.{is_end_line-part}
use Rattle.rules.proofs.property.is_end_line.Goals as goal

pub is_word-requires : goal.is_word-requires
is_word-requires c = let o = line_of-order _ _ _ c.requires in (o.1, omega arith)

pub returns : goal.returns
unfolding word
returns c = c.is_word.ensures ∙ sym (is_end_line-part _ _ _ c.requires)
