-- `text::line::starts_line` meets its contract: the byte is the text's first, or the one before it is byte 10.
-- Assumes nothing.
use Rattle.std.proofs.Common.{sym, ◌∙◌}
use borrow.Author.Tests.{eq-eqb}
use Rattle.text.proofs.Laws.LineStarts.{line_starts-first, line_starts-test}
use Rattle.text.proofs.line.starts_line.Goals as goal

pub returns-then-at-eq0 : goal.returns-then-at-eq0
returns-then-at-eq0 c = eq-eqb _ _ c.if-at-eq0.true ∙ sym (line_starts-first c.args.text.now c.args.at c.if-at-eq0.true)

pub returns-else-at-eq0 : goal.returns-else-at-eq0
returns-else-at-eq0 c = sym (line_starts-test _ _ c.if-at-eq0.false)
