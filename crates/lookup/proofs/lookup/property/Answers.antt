-- `lookup::lookup::property` meets its contract: the part that a lookup finds lies in the text.
-- Assumes nothing.
use Rattle.lookup.proofs.Laws.Lookup.{lookup-inside}
use Rattle.lookup.proofs.lookup.property.Goals as goal

pub part_of-requires : goal.part_of-requires
part_of-requires c = rw c.lookup.ensures.value (lookup-inside _ _ _)
