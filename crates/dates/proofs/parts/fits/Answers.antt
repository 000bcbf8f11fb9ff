-- `dates::parts::fits` meets its contract.
-- Assumes nothing.
use borrow.Author.Tests.{eq-eqb, ne_eqb}
use Rattle.dates.specs.Reads.{fits}
use Rattle.dates.proofs.parts.fits.Goals as goal

pub returns-then-shape-eq48 : goal.returns-then-shape-eq48
unfolding fits
returns-then-shape-eq48 c = rw (eq-eqb _ 48 c.if-shape-eq48.true) c.is_digit.ensures

pub returns-else-shape-eq48 : goal.returns-else-shape-eq48
unfolding fits
returns-else-shape-eq48 c = rw (ne_eqb _ 48 c.if-shape-eq48.false)
