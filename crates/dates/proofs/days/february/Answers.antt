-- `dates::days::february` meets its contract.
-- Assumes nothing.
use mathlib.Core.Path.{sym, ◌∙◌}
use native.Mathlib.Omega.{arith}
use Rattle.dates.specs.Days.{february}
use Rattle.dates.proofs.days.february.Goals as goal

pub returns-then-is_leap : goal.returns-then-is_leap
unfolding february
returns-then-is_leap c = (rw (sym c.is_leap.ensures ∙ c.if-is_leap.true), omega arith, omega arith)

pub returns-else-is_leap : goal.returns-else-is_leap
unfolding february
returns-else-is_leap c = (rw (sym c.is_leap.ensures ∙ c.if-is_leap.false), omega arith, omega arith)
