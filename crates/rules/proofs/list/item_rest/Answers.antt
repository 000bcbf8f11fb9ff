-- `rules::list::item_rest` meets its contract: lines that go on to the end are all that the item has.
-- Assumes nothing.
use Rattle.std.proofs.Common.{refl}
use Rattle.rules.proofs.Laws.ScanRuns.{item-knows}
use Rattle.rules.proofs.list.item_rest.Goals as goal

pub returns-in-Some : goal.returns-in-Some
returns-in-Some c =
    let run = c.in-Some.ensures _ refl in
    record { run = run; known = item-knows _ _ _ _ _ run _ _ c.requires.known }
