-- `lookup::stages::find_value` meets its contract: a line with the key has the value, and any other line passes the search on.
-- Assumes nothing.
use mathlib.Core.Path.{sym, ◌∙◌}
use native.Mathlib.Omega.{arith}
use Rattle.rules.proofs.Laws.LineOf.{line_of, line_span-next}
use Rattle.lookup.proofs.Laws.Finding.{name-order, value_none, value-unnamed, value-other, value-here}
use Rattle.lookup.proofs.stages.find_value.Goals as goal

pub property_at-requires : goal.property_at-requires
property_at-requires c = line_of _ _ _ _ c.loop-at-test.true c.requires.1 c.line_at-line.ensures

pub overflow_add-line : goal.overflow_add-line
overflow_add-line c =
    omega (arith, name-order _ _ _ _ _ (line_of _ _ _ _ c.loop-at-test.true c.requires.1 c.line_at-line.ensures) c.in-Some.ensures)

pub is_word-requires : goal.is_word-requires
is_word-requires c =
    omega (arith, name-order _ _ _ _ _ (line_of _ _ _ _ c.loop-at-test.true c.requires.1 c.line_at-line.ensures) c.in-Some.ensures)

pub run_end-requires : goal.run_end-requires
run_end-requires c =
    omega (arith, name-order _ _ _ _ _ (line_of _ _ _ _ c.loop-at-test.true c.requires.1 c.line_at-line.ensures) c.in-Some.ensures)

pub returns-then-is_word : goal.returns-then-is_word
returns-then-is_word c =
    value-here _ _ _ _ _ c.line_at-line.ensures c.loop-at-test.true c.requires.1 _ _ c.in-Some.ensures
    (sym c.is_word.ensures ∙ c.if-is_word.true) _ c.run_end.ensures
    ∙ c.loop-at.invariant.1

pub loop-at-smaller-else-is_word : goal.loop-at-smaller-else-is_word
loop-at-smaller-else-is_word c = omega (arith, line_span-next _ _ _ _ c.line_at-line.ensures c.loop-at-test.true c.requires.1)

pub loop-at-preserved-else-is_word : goal.loop-at-preserved-else-is_word
loop-at-preserved-else-is_word c = (
  (line_span-next _ _ _ _ c.line_at-line.ensures c.loop-at-test.true c.requires.1).1,
  value-other _ _ _ _ _ c.line_at-line.ensures c.loop-at-test.true c.requires.1 _ _ c.in-Some.ensures
      (sym c.is_word.ensures ∙ c.if-is_word.false)
      ∙ c.loop-at.invariant.1,
)

pub loop-at-smaller : goal.loop-at-smaller
loop-at-smaller c = omega (arith, line_span-next _ _ _ _ c.line_at-line.ensures c.loop-at-test.true c.requires.1)

pub loop-at-preserved : goal.loop-at-preserved
loop-at-preserved c = (
  (line_span-next _ _ _ _ c.line_at-line.ensures c.loop-at-test.true c.requires.1).1,
  value-unnamed _ _ _ _ _ c.line_at-line.ensures c.loop-at-test.true c.requires.1 c.requires.2 c.in_default.ensures ∙ c.loop-at.invariant.1,
)

pub returns : goal.returns
returns c = value_none _ _ _ _ c.loop-at-test.false ∙ c.loop-at.invariant.1
