-- `rules::known::with_name` meets its contract: the digit of the number is 1, and no digit that was 1 is lost.
-- Assumes nothing.
use Rattle.rules.proofs.Laws.Known.{has_name-more}
use Rattle.rules.proofs.known.with_name.Goals as goal

pub returns : goal.returns
returns c = has_name-more _ _ c.requires
