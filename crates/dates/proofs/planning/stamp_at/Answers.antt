-- `dates::planning::stamp_at` meets its contract.
-- Assumes nothing.
use mathlib.Core.Path.{sym, ap}
use Prim.Native.Nat.{ℕ}
use mathlib.Core.List.{List}
use Rattle.std.specs.declared.option.Option.{Option}
use Rattle.dates.specs.Found.{stamp_in}
use Rattle.dates.specs.declared.stamp.Timestamp.{Timestamp}
use Rattle.dates.proofs.planning.stamp_at.Goals as goal

pub returns : goal.returns
unfolding stamp_in
returns c = sym (ap (λ (x : Option Timestamp × List ℕ). x.0) c.read_timestamp.ensures.is)
