-- `intake::log::is_whole` meets its contract: the log is whole where what is left of it is, at each order and at its end.
use mathlib.Core.Path.{sym, ap, ◌∙◌}
use lib.ListN.{drop}
use Rattle.text.specs.Parts.{part}
use Rattle.rules.specs.Items.{is_some}
use Rattle.intake.specs.Log.{orders_in}
use Rattle.intake.proofs.Laws.Orders.{orders-end, orders-cut, orders-step, is_some-before}
use Rattle.intake.proofs.log.is_whole.Goals as goal

pub returns-in_default : goal.returns-in_default
unfolding is_some
returns-in_default c =
    let l = c.loop-at in
    sym (ap is_some (orders-cut _ l.at c.loop-at-test.true c.in_default.ensures)) ∙ l.invariant.1

pub loop-at-preserved : goal.loop-at-preserved
loop-at-preserved c =
    let l = c.loop-at in
    let o = c.in-Some.ensures in
    let log = c.args.log.now in
    let a = c.in-Some.order.from in
    let e = c.in-Some.order.to in
    let first = orders-step log l.at c.loop-at-test.true (part log a e) e o.4 in
    (o.3, sym (ap is_some first ∙ is_some-before (part log a e) (orders_in (drop e log))) ∙ l.invariant.1)

pub returns : goal.returns
unfolding is_some
returns c = let l = c.loop-at in sym (ap is_some (orders-end _ l.at c.loop-at-test.false)) ∙ l.invariant.1
