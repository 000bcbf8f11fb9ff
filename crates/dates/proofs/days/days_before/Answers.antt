-- `dates::days::days_before` meets its contract.
-- Assumes nothing.
use Rattle.std.proofs.Common.{refl, arith}
use Rattle.dates.specs.Days.{days_before}
use Rattle.dates.proofs.Laws.Days.{days_before-next}
use Rattle.dates.proofs.days.days_before.Goals as goal

pub loop-m-init : goal.loop-m-init
unfolding days_before
loop-m-init c = (omega arith, refl)

pub loop-m-preserved : goal.loop-m-preserved
loop-m-preserved c = let n = days_before-next c.args.year c.loop-m.m in (omega arith, omega (arith, n))
