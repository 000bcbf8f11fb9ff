-- `text::bytes::find_by_bytes` meets its contract: another byte makes the run longer, a byte b ends it.
-- Assumes nothing.
use Rattle.std.proofs.Common.{arith}
use Rattle.text.specs.Bytes.{is_not}
use Rattle.text.proofs.Laws.Bytes.{is_not-yes, is_not-no}
use Rattle.text.proofs.Laws.Runs.{run-part-nil, run-part-cons, run-part-none}
use Rattle.text.proofs.bytes.find_by_bytes.Goals as goal

pub returns-then-text-i : goal.returns-then-text-i
returns-then-text-i c =
    let a = c.args in
    omega (
      arith,
      run-part-none a.text.now c.loop-i.i a.to c.loop-i-test.true c.requires.1
          (is_not a.b) (is_not-no _ _ c.if-text-i.true),
    )

pub loop-i-preserved : goal.loop-i-preserved
loop-i-preserved c =
    let a = c.args in
    omega (
      arith,
      run-part-cons a.text.now c.loop-i.i a.to c.loop-i-test.true c.requires.1
          (is_not a.b) (is_not-yes _ _ c.if-text-i.false),
    )

pub returns : goal.returns
returns c = omega (arith, run-part-nil c.args.text.now c.loop-i.i c.args.to (is_not c.args.b) c.loop-i-test.false)
