-- `rules::list::find_next` meets its contract: the first line that is not blank, unless two blank lines stand before it.
-- Assumes nothing.
use Rattle.std.proofs.Common.{arith}
use Rattle.text.specs.Bytes.{is_indent}
use Rattle.text.proofs.Laws.Runs.{run-part-to}
use Rattle.rules.proofs.Laws.ScanRuns.{next-end, next-two, next-line}
use Rattle.rules.proofs.list.find_next.Goals as goal

pub returns-then-to-start : goal.returns-then-to-start
returns-then-to-start c = let first = c.first_from-first.ensures in next-end _ _ _ _ _ first.0 first.1 c.if-to-start.true

pub returns-then-first-gt1 : goal.returns-then-first-gt1
returns-then-first-gt1 c =
    let first = c.first_from-first.ensures in next-two _ _ _ _ _ first.0 first.1 c.if-to-start.false c.if-first-gt1.true

pub indent_width-requires : goal.indent_width-requires
indent_width-requires c =
    let to = run-part-to _ _ _ is_indent (let h = c.if-to-start.false in omega arith) c.requires.1 _ c.run_end-body.ensures in
    omega (arith, c.run_end-body.ensures)

pub returns : goal.returns
returns c =
    let first = c.first_from-first.ensures in
    next-line _ _ _ _ _ first.0 first.1 c.if-to-start.false c.if-first-gt1.false _ _ c.run_end-body.ensures c.indent_width.ensures
