-- `sheet::write::write_good` meets its contract: nothing is written before 1 and 16 are tried.
use mathlib.Core.Path.{refl}
use Rattle.sheet.proofs.Laws.Answers.{answers, put_out-long, put_out-short, put_out-done}
use Rattle.sheet.proofs.write.write_good.Goals as goal

pub returns-then-size-gt-TEXT : goal.returns-then-size-gt-TEXT
returns-then-size-gt-TEXT c =
    let size = c.sheet_size-size.ensures.0 in answers _ refl (put_out-long _ _ (rw size at c.if-size-gt-TEXT.true))

pub returns-then-out-size : goal.returns-then-out-size
returns-then-out-size c =
    let size = c.sheet_size-size.ensures.0 in
    answers _ refl (rw size (put_out-short _ _ (rw size at c.if-size-gt-TEXT.false) (rw size at c.if-out-size.true)))

pub returns : goal.returns
returns c =
    let size = c.sheet_size-size.ensures.0 in
    answers _ c.put_sheet.ensures.output (rw size (put_out-done _ _ (rw size at c.if-size-gt-TEXT.false) (rw size at c.if-out-size.false)))
