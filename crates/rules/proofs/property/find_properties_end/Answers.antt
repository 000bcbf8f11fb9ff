-- `rules::property::find_properties_end` meets its contract: a law for each kind of line at `at`, and one for the end.
-- Assumes nothing.
use Rattle.std.proofs.Common.{sym, ap, ◌∙◌, ◌≤◌, ◌<◌, arith}
use Rattle.rules.specs.Findings.{LineOf}
use Rattle.rules.proofs.Laws.LineOf.{line_of, line_span-next}
use Rattle.std.specs.Option.{is_some}
use Rattle.rules.proofs.Laws.Findings.{further-nothing, further-zero, further-one, further-here, further, property_of-named}
use Rattle.rules.proofs.Laws.Properties.{properties-none, properties-here, properties-pass, properties-stop}
use Rattle.rules.proofs.property.find_properties_end.Goals as goal
use Rattle.rules.proofs.property.find_properties_end.Goals.{After-line_at-line}

line : (c : After-line_at-line) → LineOf c.args.text.now c.line_at-line.result c.args.to
line c = line_of _ _ _ _ c.loop-at-test.true c.loop-at.invariant.1 c.line_at-line.ensures

-- the next line starts further on, and not past the end
next : (c : After-line_at-line) → (c.loop-at.at < c.line_at-line.result.end) × (c.line_at-line.result.end ≤ c.args.to)
next c = line_span-next _ _ _ _ c.line_at-line.ensures c.loop-at-test.true c.loop-at.invariant.1

pub loop-at-init : goal.loop-at-init
loop-at-init c = (omega arith, omega arith, omega arith, further-zero _)

pub is_end_line-requires : goal.is_end_line-requires
is_end_line-requires c = line (goal.at.is_end_line-requires c).After-line_at-line

pub returns-then-is_end_line : goal.returns-then-is_end_line
returns-then-is_end_line c =
    let inv = c.loop-at.invariant in
    further-here _ _ _
    ∙ ap (further _) (properties-here _ _ _ _ c.line_at-line.ensures c.loop-at-test.true inv.1 (sym c.is_end_line.ensures ∙ c.if-is_end_line.true))
    ∙ inv.3

pub property_at-requires : goal.property_at-requires
property_at-requires c = line (goal.at.property_at-requires c).After-line_at-line

pub returns-then-is_none : goal.returns-then-is_none
returns-then-is_none c =
    let inv = c.loop-at.invariant in
    sym (further-nothing _)
    ∙ ap (further _) (properties-stop _ _ _ _ c.line_at-line.ensures c.loop-at-test.true inv.1
    (sym c.is_end_line.ensures ∙ c.if-is_end_line.false)
    (sym (property_of-named _ _) ∙ ap is_some (sym c.property_at.ensures) ∙ rw c.if-is_none.true at c.is_none.ensures))
    ∙ inv.3

pub loop-at-smaller : goal.loop-at-smaller
loop-at-smaller c = omega (arith, next (goal.at.loop-at-smaller c).After-line_at-line)

pub loop-at-preserved : goal.loop-at-preserved
loop-at-preserved c =
    let inv = c.loop-at.invariant in
    let n = next (goal.at.loop-at-preserved c).After-line_at-line in (
      n.1,
      inv.1,
      omega arith,
      further-one _ _
          ∙ ap (further _) (properties-pass _ _ _ _ c.line_at-line.ensures c.loop-at-test.true inv.1
          (sym c.is_end_line.ensures ∙ c.if-is_end_line.false)
          (sym (property_of-named _ _) ∙ ap is_some (sym c.property_at.ensures) ∙ rw c.if-is_none.false at c.is_none.ensures))
          ∙ inv.3,
    )

pub returns : goal.returns
returns c = sym (further-nothing _) ∙ ap (further _) (properties-none _ _ _ c.loop-at-test.false) ∙ c.loop-at.invariant.3
