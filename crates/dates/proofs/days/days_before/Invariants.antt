-- `dates::days::days_before` meets its contract. The invariant: the sum is that of the months before m, each at most 31.
-- Assumes nothing.
use Rattle.std.proofs.Common.{◌≡◌, ◌*◌, ◌≤◌}
use Rattle.dates.specs.Days.{days_before}
use Rattle.dates.proofs.days.days_before.Given as goal

abbrev pub invariant-loop-m : goal.invariant-loop-m
invariant-loop-m l = (l.sum ≤ l.m * 31) × (l.sum ≡ days_before l.year l.m)
