-- `intake::book::added_size` meets its contract: the sheet's size, and one more where the byte 10 comes first.
use native.Mathlib.Omega.{arith}
use Rattle.intake.specs.Book.{added_to}
use Rattle.intake.proofs.book.added_size.Goals as goal

pub returns-then-ended : goal.returns-then-ended
unfolding added_to
returns-then-ended c = let size = c.sheet_size-size.ensures in rw c.if-ended.true (size.0, omega (arith, size.1))

pub returns-else-ended : goal.returns-else-ended
unfolding added_to
returns-else-ended c = let size = c.sheet_size-size.ensures in rw c.if-ended.false (omega (arith, size.0), omega (arith, size.1))
