-- `text::line::first_line` meets its contract, by the laws of what the loop keeps.
-- Assumes nothing.
use Rattle.std.proofs.Common.{sym, ◌∙◌}
use Rattle.text.proofs.Laws.FirstLine.{end, end_line, end_none, found, turn, next}
use Rattle.text.proofs.line.first_line.Goals as goal
use Rattle.text.proofs.line.first_line.Goals.{then-b-eq10, else-b-eq10}

pub returns-then-is_nonblank : goal.returns-then-is_nonblank
returns-then-is_nonblank c =
    found _ _ _ _ _ _ c.loop-i.invariant c.loop-i-test.true (sym c.is_nonblank.ensures ∙ c.if-is_nonblank.true)

pub loop-i-preserved : goal.loop-i-preserved
loop-i-preserved c =
    let v = c.loop-i.invariant in
    elim c.if-b-eq10.branch [
      | then-b-eq10 w ↦ rw (w.start-is, w.lines-is) (turn _ _ _ _ _ _ v c.loop-i-test.true w.if-b-eq10.true)
      | else-b-eq10 w ↦ rw (w.start-is, w.lines-is) (next _ _ _ _ _ _ v c.loop-i-test.true (sym c.is_nonblank.ensures ∙ c.if-is_nonblank.false) w.if-b-eq10.false)
    ]

pub returns-then-start-to : goal.returns-then-start-to
returns-then-start-to c =
    let v = c.loop-i.invariant in
    (end _ _ _ _ _ _ v c.loop-i-test.false, end_line _ _ _ _ _ _ v c.loop-i-test.false c.if-start-to.true)

pub returns-else-start-to : goal.returns-else-start-to
returns-else-start-to c =
    let v = c.loop-i.invariant in
    (end _ _ _ _ _ _ v c.loop-i-test.false, end_none _ _ _ _ _ _ v c.if-start-to.false)
