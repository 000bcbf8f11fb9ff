-- `sheet::write::write_sheet` meets its contract; what is promised of the sheet is that of every good order's.
use Rattle.sheet.proofs.Promises.{written-for}
use Rattle.sheet.proofs.Laws.Answers.{put_out-written, write-good, settled-fault}
use Rattle.sheet.proofs.write.write_sheet.Goals as goal

pub returns-in_err-layout : goal.returns-in_err-layout
returns-in_err-layout c = settled-fault _ _ _ _ c.from_residual.ensures.1 c.in_err-layout.ensures

pub returns : goal.returns
returns c =
    let a = c.write_good.ensures in
    let j = c.in_ok-layout.ensures.1 in
    record {
      answers = rw (write-good _ _ _ j) a;
      written = λ h. let w = put_out-written _ _ _ a h in written-for _ _ _ j w.0 w.1;
    }
