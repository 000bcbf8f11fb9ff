-- `stream::advance::pass_lines` meets its contract: the laws of lines that are none of a heading.
use Rattle.std.proofs.Common.{refl}
use Rattle.stream.proofs.Laws.PassLines.{advance-plain, advance-lines}
use Rattle.stream.proofs.advance.pass_lines.Goals as goal
use Rattle.stream.proofs.advance.pass_lines.Goals.{then-start-at, else-start-at}

pub returns : goal.returns
returns c =
    let pre = c.requires in
    let end = c.next_star_line-end.ensures in
    let start = c.last_line-start.ensures in
    elim c.if-start-at.branch [
      | then-start-at w ↦ rw w.line-is (advance-plain _ _ _ pre.0 pre.1 pre.2 _ end _ start w.if-start-at.true refl)
      | else-start-at w ↦ rw w.line-is (advance-lines _ _ _ pre.0 pre.1 pre.2 _ end _ start w.if-start-at.false refl)
    ]
