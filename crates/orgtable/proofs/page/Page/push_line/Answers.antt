-- Each number of a record's line is put after those before it. From Lines.
-- Assumes nothing.
use Rattle.std.proofs.Common.{◌≡◌, arith, length-take-le}
use Rattle.std.proofs.Math.Seq.{get_or-take}
use Rattle.table.specs.Records.{record_size}
use Rattle.orgtable.proofs.Laws.Lines.{line-turn, line-end}
use Rattle.orgtable.proofs.page.Page.push_line.Goals as goal

pub loop-n-preserved : goal.loop-n-preserved
loop-n-preserved c =
    let at = c.loop-n in
    let few = length-take-le 7 c.args.numbers.now (omega arith) in
    let number = get_or-take 7 c.args.numbers.now at.n-index 0 (omega arith) in
    let put = c.push_cell.ensures in
    (omega arith, line-turn c.args.numbers.now at.n-index record_size at.self _ _ at.invariant.1 (omega arith) (omega arith) (rw number at put.page))

pub returns-clause-page : goal.returns-clause-page
returns-clause-page c =
    let at = c.loop-n in
    let few = length-take-le 7 c.args.numbers.now (omega arith) in
    let last : at.n-index ≡ 7 = omega arith in
    line-end c.args.numbers.now 7 record_size at.self _ _ (rw last at at.invariant.1) (omega arith) (omega arith) c.push_cell-2.ensures.page
