-- `text::word::is_equal` meets its contract: slices are compared byte by byte.
-- Assumes nothing.
use Rattle.text.proofs.Laws.Runs.{equal-pointwise}
use Rattle.text.proofs.word.is_equal.Goals as goal

pub returns : goal.returns
returns c = cc (equal-pointwise c.args.first.now c.args.second.now)
