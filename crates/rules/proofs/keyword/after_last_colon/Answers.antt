-- `rules::keyword::after_last_colon` meets its contract: a colon at the last byte is the last, any other byte there makes none.
-- Assumes nothing.
use Rattle.std.proofs.Common.{arith}
use Rattle.rules.proofs.Laws.Colons.{through_colon-part-nil, through_colon-part-here, through_colon-part-skip}
use Rattle.rules.proofs.keyword.after_last_colon.Goals as goal

pub returns-then-text-i-eq58 : goal.returns-then-text-i-eq58
returns-then-text-i-eq58 c =
    omega (
      arith,
      c.loop-i.invariant,
      through_colon-part-here c.args.text.now c.args.from c.loop-i.i c.loop-i-test.true (omega (arith, c.loop-i.auto.i)) c.if-text-i-eq58.true,
    )

pub loop-i-preserved : goal.loop-i-preserved
loop-i-preserved c =
    omega (
      arith,
      c.loop-i.invariant,
      through_colon-part-skip c.args.text.now c.args.from c.loop-i.i c.loop-i-test.true (omega (arith, c.loop-i.auto.i)) c.if-text-i-eq58.false,
    )

pub returns : goal.returns
returns c = omega (arith, c.loop-i.invariant, through_colon-part-nil c.args.text.now c.args.from c.loop-i.i c.loop-i-test.false)
