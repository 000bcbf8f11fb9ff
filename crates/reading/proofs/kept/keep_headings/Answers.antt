-- `reading::kept::keep_headings` meets its contract: a heading with its section that has room is kept too, and one that has none changes no kept row.
use Rattle.reading.proofs.Laws.Kept.{keeps-turn, keeps-still}
use Rattle.reading.proofs.kept.keep_headings.Goals as goal

pub loop-kept-preserved : goal.loop-kept-preserved
loop-kept-preserved c =
    let K = c.loop-kept.invariant in
    let (less, next, count, line) = c.read_heading-turn.ensures.at_lt_next in
    let made = rw c.after-sink.ensures at c.read_heading-turn.ensures.takes in
    keeps-turn K _ _ c.loop-kept-test.true next count line (made K.earlier K.index K.tracked) c.if-turn.false

pub returns-then-turn : goal.returns-then-turn
returns-then-turn c =
    let K = c.loop-kept.invariant in
    let made = rw c.after-sink.ensures at c.read_heading-turn.ensures.takes in
    keeps-still K _ (made K.earlier K.index K.tracked)
