-- `rules::lines::try_run` meets its contract: the law of a run of lines, at the end that the run has.
-- Assumes nothing.
use Rattle.std.proofs.Common.{sym, ◌∙◌, arith}
use Rattle.text.specs.Parts.{lines_in}
use Rattle.text.proofs.Laws.Lines.{leading_le}
use Rattle.text.proofs.Laws.LinesIn.{lines_in-length}
use Rattle.rules.specs.LineTests.{line_test}
use Rattle.rules.proofs.Laws.LineOf.{line_of-from, line_of-order}
use Rattle.rules.proofs.Laws.Rules.{run_of-no, run_of-yes}
use Rattle.rules.proofs.lines.try_run.Goals as goal

pub starts_line-requires : goal.starts_line-requires
starts_line-requires c = let o = line_of-order _ _ _ c.requires.0.line in omega arith

pub returns-then-not-starts_line : goal.returns-then-not-starts_line
returns-then-not-starts_line c =
    let pre = c.requires.0.line in
    run_of-no _ _ _ pre _ _ (sym (c.starts_line.ensures _ (line_of-from _ _ _ pre)) ∙ c.if-not-starts_line.true)

pub lines_end-run-requires : goal.lines_end-run-requires
lines_end-run-requires c = let o = line_of-order _ _ _ c.requires.0.line in omega arith

pub of_run-requires : goal.of_run-requires
of_run-requires c =
    let s = c.args.text.now in
    let l = c.args.line in
    let e = c.args.scope.end in
    let o = line_of-order _ _ _ c.requires.0.line in
    omega (arith, c.lines_end-run.ensures.lines_value, leading_le (line_test c.args.class) (lines_in s l.end e), lines_in-length s l.end e o.4 o.5)

pub returns : goal.returns
returns c =
    let pre = c.requires.0.line in
    rw c.of_run.ensures
    (run_of-yes _ _ _ pre _ _ c.requires.1 (sym (c.starts_line.ensures _ (line_of-from _ _ _ pre)) ∙ c.if-not-starts_line.false)
    _ _ c.lines_end-run.ensures.end_value c.lines_end-run.ensures.lines_value)
