-- `reading::headings::find_parent` meets its contract: a law for each way from a row on.
-- Assumes nothing.
use Rattle.std.proofs.Common.{◌≡◌, sym, ◌∙◌, arith}
use Rattle.reading.proofs.Laws.Parents.{parent-zero, parent_short, parent-here, parent-stuck, parent-step}
use Rattle.reading.proofs.headings.find_parent.Goals as goal

pub returns-then-table-row-clause-value : goal.returns-then-table-row-clause-value
returns-then-table-row-clause-value c = sym (parent_short _ _ _ c.if-table-row.true) ∙ c.loop-at.invariant.same

pub returns-then-table-row-2-clause-value : goal.returns-then-table-row-2-clause-value
returns-then-table-row-2-clause-value c = sym (parent-here _ _ _ c.loop-at-test.true c.if-table-row.false c.if-table-row-2.true) ∙ c.loop-at.invariant.same

pub returns-then-at-parent-clause-value : goal.returns-then-at-parent-clause-value
returns-then-at-parent-clause-value c = sym (parent-stuck _ _ _ c.if-table-row.false c.if-table-row-2.false c.if-at-parent.true) ∙ c.loop-at.invariant.same

pub loop-at-preserved : goal.loop-at-preserved
loop-at-preserved c = record {
  order = omega arith;
  same = sym (parent-step _ _ _ c.if-table-row.false c.if-table-row-2.false c.if-at-parent.false) ∙ c.loop-at.invariant.same;
}

pub returns-clause-value : goal.returns-clause-value
returns-clause-value c =
    let none : c.loop-at.at ≡ 0 = omega arith in
    none ∙ sym (parent-zero _ _) ∙ (rw none at c.loop-at.invariant.same)
