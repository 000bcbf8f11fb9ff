-- Each write of `orgtable::output::print` goes on where the one before ended. From Output.
-- Assumes nothing.
use Rattle.std.proofs.Common.{arith}
use Rattle.orgtable.proofs.Laws.Input.{length-rest}
use Rattle.orgtable.proofs.Laws.Output.{appends-more, stopped, keeps-nothing, whole}
use Rattle.orgtable.proofs.output.print.Goals as goal

pub loop-done-preserved : goal.loop-done-preserved
loop-done-preserved g c =
    let few = c.in-Ok.ensures.bound in
    let rest = length-rest c.args.bytes.now c.loop-done.done in
    (omega arith, appends-more _ _ _ _ _ _ few c.loop-done.invariant.1 c.in-Ok.ensures.bytes)

pub returns-in_default : goal.returns-in_default
returns-in_default g c = stopped _ _ _ _ _ c.loop-done-test.true c.loop-done.invariant.1 c.in_default.ensures.bytes

pub returns-then-count-eq0 : goal.returns-then-count-eq0
returns-then-count-eq0 g c =
    let none = rw c.if-count-eq0.true at c.in-Ok.ensures.bytes in
    stopped _ _ _ _ _ c.loop-done-test.true c.loop-done.invariant.1 (keeps-nothing _ _ none)

pub returns : goal.returns
returns g c = whole _ _ _ _ (omega arith) c.loop-done.invariant.1
