-- `text::bytes::run_end` meets its contract: a byte that passes makes the run longer, one that does not ends it.
-- Assumes nothing.
use Rattle.std.proofs.Common.{sym, ◌∙◌, arith}
use Rattle.text.specs.Spans.{passes}
use Rattle.text.proofs.Laws.Runs.{run-part-nil, run-part-cons, run-part-none}
use Rattle.text.proofs.bytes.run_end.Goals as goal

pub returns-then-not-is_of : goal.returns-then-not-is_of
returns-then-not-is_of c =
    let a = c.args in
    omega (
      arith,
      run-part-none a.text.now c.loop-i.i a.to c.loop-i-test.true c.requires.1
          (passes a.class) (sym c.is_of.ensures ∙ c.if-not-is_of.true),
    )

pub loop-i-preserved : goal.loop-i-preserved
loop-i-preserved c =
    let a = c.args in
    omega (
      arith,
      run-part-cons a.text.now c.loop-i.i a.to c.loop-i-test.true c.requires.1
          (passes a.class) (sym c.is_of.ensures ∙ c.if-not-is_of.false),
    )

pub returns : goal.returns
returns c = omega (arith, run-part-nil c.args.text.now c.loop-i.i c.args.to (passes c.args.class) c.loop-i-test.false)
