-- `reading::kept::keep` meets its contract: the document and its section that have room are kept, and what `keep_headings` keeps after them.
use Rattle.reading.proofs.Laws.Kept.{keeps-opening}
use Rattle.reading.proofs.kept.keep.Goals as goal

pub keep_headings-requires : goal.keep_headings-requires
keep_headings-requires c =
    let (first, count, line) = c.read_opening-turn.ensures.next_value in
    let made = rw c.after.ensures at c.read_opening-turn.ensures.takes in
    keeps-opening _ _ _ _ c.requires first count line made c.if-turn.false
