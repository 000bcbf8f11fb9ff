-- `text::bytes::trim_end` meets its contract: a last byte that is not blank ends what is trimmed, a blank one is trimmed away.
-- Assumes nothing.
use Rattle.std.proofs.Common.{sym, ◌∙◌, arith}
use Rattle.text.proofs.Laws.Runs.{trim_end-part-nil, trim_end-part-here, trim_end-part-blank}
use Rattle.text.proofs.bytes.trim_end.Goals as goal

pub returns-then-is_nonblank : goal.returns-then-is_nonblank
returns-then-is_nonblank c =
    let a = c.args in
    omega (
      arith,
      trim_end-part-here a.text.now a.from c.loop-i.i c.loop-i-test.true (omega arith) (sym c.is_nonblank.ensures ∙ c.if-is_nonblank.true),
    )

pub loop-i-preserved : goal.loop-i-preserved
loop-i-preserved c =
    let a = c.args in (
      omega arith,
      omega (
        arith,
        trim_end-part-blank a.text.now a.from c.loop-i.i c.loop-i-test.true (omega arith) (sym c.is_nonblank.ensures ∙ c.if-is_nonblank.false),
      ),
    )

pub returns : goal.returns
returns c = omega (arith, trim_end-part-nil c.args.text.now c.args.from c.loop-i.i c.loop-i-test.false)
