-- `dates::planning::read_part` meets its contract, stage by stage.
-- Assumes nothing.
use Rattle.std.proofs.Common.{arith}
use Rattle.dates.specs.Planning.{planning_part}
use Rattle.dates.proofs.planning.read_part.Goals as goal

pub returns-in_err-keyword : goal.returns-in_err-keyword
unfolding planning_part
returns-in_err-keyword c = rw c.from_residual.ensures (record { is = rw c.in_err-keyword.ensures.0.is; within = tt }, tt)

pub returns-in_err-stamp : goal.returns-in_err-stamp
unfolding planning_part
returns-in_err-stamp c =
    let no = c.in_err-stamp.ensures in
    rw c.from_residual-in_err-stamp.ensures (
      record {
        is = rw (c.in_ok-keyword.ensures.0.is, no.is);
        within = tt;
      },
      tt,
    )

pub returns-in_err-end : goal.returns-in_err-end
unfolding planning_part
returns-in_err-end c =
    let no = c.in_err-end.ensures in
    rw c.from_residual-in_err-end.ensures (
      record {
        is = rw (c.in_ok-keyword.ensures.0.is, c.in_ok-stamp.ensures.is, no.is);
        within = tt;
      },
      tt,
    )

pub returns : goal.returns
unfolding planning_part
returns c =
    let k = c.in_ok-keyword.ensures in
    let g = c.in_ok-stamp.ensures in
    let s = c.in_ok-end.ensures in (
      record {
        is = rw (k.0.is, g.is, s.is);
        within = omega arith;
      },
      omega arith,
    )
