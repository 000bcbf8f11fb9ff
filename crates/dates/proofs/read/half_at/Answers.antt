-- `dates::read::half_at` meets its contract, part by part.
-- Assumes nothing.
use Rattle.text.proofs.Laws.Parts.{part-drop}
use Rattle.dates.proofs.read.half_at.Goals as goal

pub returns : goal.returns
returns c =
    rw (
      c.date_at.ensures,
      part-drop c.args.text.now 10 c.args.at c.args.to,
      c.skip_day_name-a.ensures.0,
      c.read_times-times.ensures.is,
      c.read_repeater-repeats.ensures.is,
    )
