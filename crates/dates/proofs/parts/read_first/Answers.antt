-- `dates::parts::read_first` meets its contract, stage by stage.
-- Assumes nothing.
use Rattle.std.proofs.Common.{arith}
use Rattle.dates.specs.Stamps.{first_time}
use Rattle.dates.proofs.Laws.Reads.{ends-from}
use Rattle.dates.proofs.parts.read_first.Goals as goal

pub returns-in_err-a : goal.returns-in_err-a
unfolding first_time
returns-in_err-a c = rw c.from_residual.ensures (record { is = rw c.in_err-a.ensures.is; within = tt })

pub returns : goal.returns
unfolding first_time
returns c =
    let g = c.in_ok-a.ensures in
    let t = c.read_time.ensures in
    record { is = rw (g.is, t.is); within = ends-from _ _ _ _ (omega arith) t.within }
