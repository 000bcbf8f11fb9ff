-- `text::line::first_line` meets its contract. The loop's invariant: the line at start is the first that may be asked for, so many lines stand
-- before it, and it is blank up to i.
-- Assumes nothing.
use Rattle.text.proofs.Laws.FirstLine.{Passed}
use Rattle.text.proofs.line.first_line.Given as goal

abbrev pub invariant-loop-i : goal.invariant-loop-i
invariant-loop-i l = Passed l.text l.at l.to l.start l.i l.lines
