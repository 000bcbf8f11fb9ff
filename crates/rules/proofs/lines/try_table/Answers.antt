-- `rules::lines::try_table` meets its contract: the law of a table, at the ends that the two runs of lines have.
-- Assumes nothing.
use Rattle.std.proofs.Common.{sym, ◌∙◌, ◌+◌, ◌≤◌, length, arith}
use Rattle.text.specs.Parts.{lines_in}
use Rattle.text.proofs.Laws.Lines.{leading_le}
use Rattle.text.proofs.Laws.LinesIn.{lines_in-length}
use Rattle.rules.specs.LineTests.{is_row, is_formula}
use Rattle.rules.proofs.Laws.LineOf.{line_of-from, line_of-order}
use Rattle.rules.proofs.Laws.LineRuns.{past_to}
use Rattle.rules.proofs.Laws.Rules.{table-no, table-yes}
use Rattle.rules.proofs.lines.try_table.Goals as goal
use Rattle.rules.proofs.lines.try_table.Goals.{After-lines_end-formulas}

pub starts_line-requires : goal.starts_line-requires
starts_line-requires c = let o = line_of-order _ _ _ c.requires.line in omega arith

pub returns-then-not-starts_line : goal.returns-then-not-starts_line
returns-then-not-starts_line c =
    let pre = c.requires.line in
    table-no _ _ _ pre (sym (c.starts_line.ensures _ (line_of-from _ _ _ pre)) ∙ c.if-not-starts_line.true)

pub lines_end-rows-requires : goal.lines_end-rows-requires
lines_end-rows-requires c = let o = line_of-order _ _ _ c.requires.line in omega arith

pub lines_end-formulas-requires : goal.lines_end-formulas-requires
lines_end-formulas-requires c =
    let o = line_of-order _ _ _ c.requires.line in
    (past_to _ _ _ _ o.4 o.5 _ c.lines_end-rows.ensures.end_value, o.5)

-- the lines of both runs are among those after the first
both : (c : After-lines_end-formulas) →
    c.lines_end-rows.result.lines + c.lines_end-formulas.result.lines ≤ length c.args.text.now + length c.args.text.now
both c =
    let s = c.args.text.now in
    let l = c.args.line in
    let e = c.args.scope.end in
    let q = c.lines_end-rows.result.end in
    let o = line_of-order _ _ _ c.requires.line in
    let to = past_to _ _ _ _ o.4 o.5 _ c.lines_end-rows.ensures.end_value in
    omega (
      arith,
      c.lines_end-rows.ensures.lines_value,
      c.lines_end-formulas.ensures.lines_value,
      leading_le is_row (lines_in s l.end e),
      leading_le is_formula (lines_in s q e),
      lines_in-length s l.end e o.4 o.5,
      lines_in-length s q e to o.5,
    )

pub overflow_add-result : goal.overflow_add-result
overflow_add-result c = omega (arith, both (goal.at.overflow_add-result c).After-lines_end-formulas)

pub overflow_add-result-2 : goal.overflow_add-result-2
overflow_add-result-2 c = omega (arith, both (goal.at.overflow_add-result-2 c).After-lines_end-formulas)

pub overflow_add-result-3 : goal.overflow_add-result-3
overflow_add-result-3 c = omega (arith, both (goal.at.overflow_add-result-3 c).After-lines_end-formulas)

pub returns : goal.returns
returns c =
    let pre = c.requires.line in
    table-yes _ _ _ pre (sym (c.starts_line.ensures _ (line_of-from _ _ _ pre)) ∙ c.if-not-starts_line.false)
    _ _ _ _ c.lines_end-rows.ensures.end_value c.lines_end-formulas.ensures.end_value c.lines_end-rows.ensures.lines_value c.lines_end-formulas.ensures.lines_value
