-- `lookup::drawer::first_other` meets its contract: a line that is no node property is the first such line, and one that is passes the search on.
-- Assumes nothing.
use mathlib.Core.Path.{refl, sym, ap, ◌∙◌}
use native.Mathlib.Omega.{arith}
use Rattle.text.proofs.Laws.LinesIn.{past-none}
use Rattle.rules.specs.LineTests.{is_node_property}
use Rattle.rules.proofs.Laws.LineOf.{line_of, line_span-next}
use Rattle.std.specs.Option.{is_some}
use Rattle.rules.proofs.Laws.Findings.{property_of-named}
use Rattle.lookup.specs.Drawers.{first_other}
use Rattle.lookup.proofs.Laws.DrawersFound.{other-here, other-next}
use Rattle.lookup.proofs.drawer.first_other.Goals as goal

pub loop-at-init : goal.loop-at-init
unfolding first_other
loop-at-init c = (omega arith, refl)

pub property_at-requires : goal.property_at-requires
property_at-requires c = line_of _ _ _ _ c.loop-at-test.true c.requires.1 c.line_at-line.ensures

pub returns-then-is_none : goal.returns-then-is_none
returns-then-is_none c =
    other-here _ _ _ _ c.line_at-line.ensures (sym (property_of-named _ _) ∙ ap is_some (sym c.property_at.ensures) ∙ rw c.if-is_none.true at c.is_none.ensures)
    ∙ c.loop-at.invariant.1

pub loop-at-smaller : goal.loop-at-smaller
loop-at-smaller c = omega (arith, line_span-next _ _ _ _ c.line_at-line.ensures c.loop-at-test.true c.requires.1)

pub loop-at-preserved : goal.loop-at-preserved
loop-at-preserved c = (
  (line_span-next _ _ _ _ c.line_at-line.ensures c.loop-at-test.true c.requires.1).1,
  other-next _ _ _ _ c.line_at-line.ensures (sym (property_of-named _ _) ∙ ap is_some (sym c.property_at.ensures) ∙ rw c.if-is_none.false at c.is_none.ensures) ∙ c.loop-at.invariant.1,
)

pub returns : goal.returns
returns c = sym (past-none is_node_property _ _ _ c.loop-at-test.false) ∙ c.loop-at.invariant.1
