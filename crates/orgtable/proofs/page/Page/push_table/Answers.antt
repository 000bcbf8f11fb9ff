-- Each record's line is put after those before it. From Lines.
-- Assumes nothing.
use Rattle.std.proofs.Common.{◌≡◌, ◌+◌, ◌-◌, ◌*◌, arith}
use Rattle.orgtable.proofs.Laws.Lines.{lines-turn, lines_end}
use Rattle.orgtable.proofs.page.Page.push_table.Goals as goal

pub loop-i-preserved : goal.loop-i-preserved
loop-i-preserved c =
    let at = c.loop-i in
    let put = c.push_line.ensures in
    let size : at.i * 8 + 8 - at.i * 8 ≡ 8 = omega arith in
    (omega arith, lines-turn c.args.table.now at.i c.args.count at.self _ at.invariant.1 _ (omega arith) (rw size at put.page))

pub returns : goal.returns
returns c = let at = c.loop-i in lines_end c.args.table.now at.i c.args.count _ _ at.invariant.1 (omega arith)
