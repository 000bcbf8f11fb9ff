-- `text::marks::word_end` meets its contract: a byte that is not blank makes the run longer, a blank one ends it.
-- Assumes nothing.
use Rattle.std.proofs.Common.{sym, ◌∙◌, arith}
use Rattle.text.specs.Bytes.{is_non_blank}
use Rattle.text.proofs.Laws.Runs.{run-part-nil, run-part-cons, run-part-none}
use Rattle.text.proofs.marks.word_end.Goals as goal

pub returns-then-not-is_nonblank : goal.returns-then-not-is_nonblank
returns-then-not-is_nonblank c =
    let a = c.args in
    omega (
      arith,
      run-part-none a.text.now c.loop-i.i a.to c.loop-i-test.true c.requires.1
          is_non_blank (sym c.is_nonblank.ensures ∙ c.if-not-is_nonblank.true),
    )

pub loop-i-preserved : goal.loop-i-preserved
loop-i-preserved c =
    let a = c.args in
    omega (
      arith,
      run-part-cons a.text.now c.loop-i.i a.to c.loop-i-test.true c.requires.1
          is_non_blank (sym c.is_nonblank.ensures ∙ c.if-not-is_nonblank.false),
    )

pub returns : goal.returns
returns c = omega (arith, run-part-nil c.args.text.now c.loop-i.i c.args.to is_non_blank c.loop-i-test.false)
