-- `dates::parts::read_times` meets its contract, stage by stage.
-- Assumes nothing.
use Rattle.std.proofs.Common.{arith}
use Rattle.dates.specs.Stamps.{times}
use Rattle.dates.proofs.parts.read_times.Goals as goal

pub returns-in_default : goal.returns-in_default
unfolding times
returns-in_default c = record { is = rw c.in_default.ensures.is; from = omega arith; to = omega arith }

pub returns-in_default-read_second : goal.returns-in_default-read_second
unfolding times
returns-in_default-read_second c =
    let f = c.in-Some.ensures in
    record { is = rw (f.is, c.in_default-read_second.ensures.is); from = omega arith; to = omega arith }

pub returns : goal.returns
unfolding times
returns c =
    let f = c.in-Some.ensures in
    let u = c.in-Some-read_second.ensures in
    record { is = rw (f.is, u.is); from = omega arith; to = omega arith }
