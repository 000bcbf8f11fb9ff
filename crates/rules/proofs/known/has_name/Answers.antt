-- `rules::known::has_name` meets its contract: the digit that it reads is that of the name's number.
-- Assumes nothing.
use Rattle.rules.specs.Known.{has_name}
use Rattle.rules.proofs.known.has_name.Goals as goal

pub returns : goal.returns
unfolding has_name
returns c = rw c.name_number.ensures.0
