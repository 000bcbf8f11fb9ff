-- `lookup::defaults::property_or_default` meets its contract: the part of an answer lies in the text whose answer it is.
-- Assumes nothing.
use mathlib.Core.Path.{sym}
use Rattle.lookup.proofs.Laws.Defaults.{order-inside, defaults-inside}
use Rattle.lookup.proofs.defaults.property_or_default.Goals as goal

pub part_of-requires : goal.part_of-requires
part_of-requires c = order-inside _ _ _ _ _ (sym c.in-Order.ensures.value)

pub part_of-requires-in-Defaults : goal.part_of-requires-in-Defaults
part_of-requires-in-Defaults c = defaults-inside _ _ _ _ _ (sym c.in-Defaults.ensures.value)
