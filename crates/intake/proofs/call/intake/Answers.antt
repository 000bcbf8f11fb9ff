-- `intake::call::intake` meets its contract: the order is judged, and taken where it is good.
use Rattle.intake.specs.Book.{book_of}
use Rattle.intake.proofs.Laws.Turns.{answers-fault, call-good}
use Rattle.intake.proofs.Promises.{settled}
use Rattle.intake.proofs.call.intake.Goals as goal

pub returns-in_err-layout : goal.returns-in_err-layout
returns-in_err-layout c =
    settled _ _ _ _ (answers-fault (book_of c.args.book.now c.args.used) _ _ _ c.from_residual.ensures.1 c.in_err-layout.ensures)

pub returns : goal.returns
returns c = settled _ _ _ _ (rw (call-good _ _ _ c.in_ok-layout.ensures.1) c.take_good.ensures)
