-- `lookup::drawer::opens_after_blanks` meets its contract: the line where the first non-blank one starts.
-- Assumes nothing.
use mathlib.Core.Path.{◌∙◌}
use native.Mathlib.Omega.{arith}
use Rattle.text.specs.Runs.{word}
use Rattle.rules.proofs.Laws.LineOf.{line_of, line_of-order}
use Rattle.lookup.proofs.Laws.DrawersFound.{after_none, after-opener}
use Rattle.lookup.proofs.drawer.opens_after_blanks.Goals as goal

pub returns-then-to-first : goal.returns-then-to-first
returns-then-to-first c = after_none _ _ _ _ c.first_line-first.ensures.0 c.if-to-first.true

pub is_word-requires : goal.is_word-requires
is_word-requires c =
    let o = line_of-order _ _ _ (line_of _ _ _ _ c.if-to-first.false c.requires.1 c.line_at-line.ensures) in
    (o.1, omega arith)

pub returns : goal.returns
unfolding word
returns c =
    c.is_word.ensures
    ∙ after-opener _ _ _ _ c.first_line-first.ensures.0 _ c.line_at-line.ensures c.if-to-first.false c.requires.1
