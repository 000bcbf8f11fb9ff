-- `intake::log::intake_log` meets its contract: a log that is cut short is refused, and each order of a whole one is a call.
use mathlib.Core.Path.{refl, sym, ap, ◌∙◌}
use Prim.Native.Nat.{◌+◌}
use native.Mathlib.Omega.{arith}
use lib.ListN.{drop}
use Rattle.text.specs.Parts.{part}
use Rattle.text.proofs.Laws.Parts.{part_slice}
use Rattle.rules.specs.Items.{is_some}
use Rattle.intake.specs.Book.{Book, book_of}
use Rattle.intake.specs.Log.{log_width, orders_in, played_for, played}
use Rattle.intake.specs.Promises.{Settled, told}
use Rattle.intake.proofs.Laws.Orders.{orders-end, orders-width, orders-to, orders-first, is_some-before}
use Rattle.intake.proofs.Laws.Turns.{answers}
use Rattle.intake.proofs.Laws.Logs.{played-none, played-step, played-end, answers-book}
use Rattle.intake.proofs.Promises.{log-settled}
use Rattle.intake.proofs.log.intake_log.Goals as goal

pub returns-then-not-is_whole : goal.returns-then-not-is_whole
returns-then-not-is_whole c =
    log-settled _ _ _ _ (answers _ refl refl (played-none _ _ (sym c.is_whole.ensures ∙ c.if-not-is_whole.true)))

pub low_first-requires : goal.low_first-requires
low_first-requires c = (orders-width _ c.loop-at.at c.loop-at-test.true c.loop-at.invariant.2, omega arith)

pub overflow_add-to : goal.overflow_add-to
overflow_add-to c =
    let l = c.loop-at in
    omega (arith, orders-to _ l.at c.loop-at-test.true l.invariant.2 _ c.low_first.ensures.0)

pub slice_bounds-intake-end : goal.slice_bounds-intake-end
slice_bounds-intake-end c =
    let l = c.loop-at in
    omega (arith, orders-to _ l.at c.loop-at-test.true l.invariant.2 _ c.low_first.ensures.0)

pub loop-at-preserved : goal.loop-at-preserved
loop-at-preserved c =
    let l = c.loop-at in
    let log = c.args.log.now in
    let from = l.at + log_width in
    let e = from + c.low_first.result in
    let b = book_of l.book l.reached in
    let y = part log from e in
    let rest = orders_in (drop e log) in
    let first = orders-first log l.at c.loop-at-test.true l.invariant.2 c.low_first.result c.low_first.ensures.0 in
    let whole = sym (is_some-before y rest) ∙ sym (ap is_some first) ∙ l.invariant.2 in
    let called : Settled b y (told l.reached c.intake.result) c.intake.new.book
    = rw (part_slice log from e (omega arith)) at c.intake.ensures in (
      orders-to _ l.at c.loop-at-test.true l.invariant.2 _ c.low_first.ensures.0,
      c.intake.ensures.untouched.size ∙ l.invariant.1,
      whole,
      rw c.unwrap_or-reached.ensures
          (l.invariant.3 ∙ ap (played_for b) first ∙ played-step b y rest whole ∙ ap (λ (a : Book). played_for a rest) (sym (answers-book called.answers))),
    )

pub returns : goal.returns
unfolding played
returns c =
    let l = c.loop-at in
    let end = orders-end _ l.at c.loop-at-test.false in
    log-settled _ _ _ _ (answers _ refl refl (l.invariant.3 ∙ ap (played_for (book_of l.book l.reached)) end ∙ played-end _))
