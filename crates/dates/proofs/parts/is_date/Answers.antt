-- `dates::parts::is_date` meets its contract: a part of the shape has the ten bytes.
-- Assumes nothing.
use Rattle.std.proofs.Common.{◌-◌, ◌≤◌, sym, ◌∙◌, arith}
use Rattle.text.specs.Runs.{word}
use Rattle.dates.proofs.Laws.Reads.{shaped-room}
use Rattle.dates.proofs.parts.is_date.Goals as goal

pub returns : goal.returns
unfolding word
returns c = (
  c.has_shape.ensures,
  λ h.
      let p = sym c.has_shape.ensures ∙ h in
      let r : 10 ≤ c.args.to - c.args.at = shaped-room _ _ _ (word "0000-00-00") c.requires.1 p in
      omega arith,
)
