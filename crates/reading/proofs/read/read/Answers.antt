-- `reading::read::read` meets its contract: a text over the limit is refused, any other read with a store.
use Rattle.reading.proofs.Laws.Settled.{settled-long}
use Rattle.reading.proofs.read.read.Goals as goal

pub returns-then-text-gt-TEXT : goal.returns-then-text-gt-TEXT
returns-then-text-gt-TEXT c = settled-long _ _ c.if-text-gt-TEXT.true
