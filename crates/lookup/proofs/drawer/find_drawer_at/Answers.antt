-- `lookup::drawer::find_drawer_at` meets its contract: the drawer is what rule 2 finds at the line, and without one its lines say why.
-- Assumes nothing.
use mathlib.Core.Path.{sym, ◌∙◌}
use native.Mathlib.Omega.{arith}
use Rattle.text.specs.Runs.{word}
use Rattle.rules.proofs.Laws.LineOf.{line_of, line_of-order}
use Rattle.lookup.proofs.Laws.DrawersFound.{drawer-end, drawer-blank_first, drawer-missing, drawer-open, drawer-closer}
use Rattle.lookup.proofs.drawer.find_drawer_at.Goals as goal

pub returns-then-to-at : goal.returns-then-to-at
returns-then-to-at c = drawer-end _ _ _ c.if-to-at.true

pub is_word-requires : goal.is_word-requires
is_word-requires c =
    let o = line_of-order _ _ _ (line_of _ _ _ _ c.if-to-at.false c.requires.1 c.line_at-opener.ensures) in
    (o.1, omega arith)

pub returns-then-opens_after_blanks : goal.returns-then-opens_after_blanks
unfolding word
returns-then-opens_after_blanks c =
    drawer-blank_first _ _ _ _ c.line_at-opener.ensures c.if-to-at.false c.requires.1
    (sym c.is_word.ensures ∙ c.if-not-is_word.true)
    (sym c.opens_after_blanks.ensures ∙ c.if-opens_after_blanks.true)

pub returns-then-not-is_word : goal.returns-then-not-is_word
unfolding word
returns-then-not-is_word c =
    drawer-missing _ _ _ _ c.line_at-opener.ensures c.if-to-at.false c.requires.1
    (sym c.is_word.ensures ∙ c.if-not-is_word.true)
    (sym c.opens_after_blanks.ensures ∙ c.if-opens_after_blanks.false)

pub find_properties_end-requires : goal.find_properties_end-requires
find_properties_end-requires c =
    let o = line_of-order _ _ _ (line_of _ _ _ _ c.if-to-at.false c.requires.1 c.line_at-opener.ensures) in
    (o.4, o.5)

pub why_none-requires : goal.why_none-requires
why_none-requires c = omega (arith, line_of-order _ _ _ (line_of _ _ _ _ c.if-to-at.false c.requires.1 c.line_at-opener.ensures))

pub returns-in_default : goal.returns-in_default
unfolding word
returns-in_default c =
    drawer-open _ _ _ _ c.line_at-opener.ensures c.if-to-at.false c.requires.1
    (sym c.is_word.ensures ∙ c.if-not-is_word.false)
    c.in_default.ensures
    _ c.why_none.ensures

pub returns : goal.returns
unfolding word
returns c =
    drawer-closer _ _ _ _ c.line_at-opener.ensures c.if-to-at.false c.requires.1
    (sym c.is_word.ensures ∙ c.if-not-is_word.false)
    _ c.in-Some.ensures
