-- `rules::list::lines_alone` meets its contract: what a turn of the loop passes, and the three ways out of it.
-- Assumes nothing.
use mathlib.Core.Path.{refl, ◌∙◌}
use native.Mathlib.Omega.{arith}
use borrow.Author.Rules.{rules}
use Rattle.rules.specs.Scans.{item_run}
use Rattle.rules.proofs.Laws.LineOf.{after-end}
use Rattle.rules.proofs.Laws.ScanRuns.{run_by-none, line-alone, next-is, next-none, next-nonblank, next-body, item-stop, item-pass}
use Rattle.rules.proofs.Laws.Scans.{item-gapped}
use Rattle.rules.proofs.Laws.Stretches.{after-start, after-order, after_next, after-further}
use Rattle.rules.proofs.list.lines_alone.Goals as goal

pub loop-line-init : goal.loop-line-init
unfolding item_run
loop-line-init c = (after-start _ _ _, refl)

pub find_next-requires : goal.find_next-requires
find_next-requires c =
    let pre = c.requires in
    let order = after-order pre.0 pre.1 c.loop-line.invariant.0 in
    (order.1, pre.1, pre.2)

-- ---- the next line

pub bounds-text-line : goal.bounds-text-line
bounds-text-line c =
    let pre = c.requires in
    let order = after-order pre.0 pre.1 c.loop-line.invariant.0 in
    let within = next-body (next-is _ _ _ _ c.in-Some.ensures) order.1 pre.1 in
    omega arith

pub line_end-at-requires : goal.line_end-at-requires
line_end-at-requires c =
    let pre = c.requires in
    let order = after-order pre.0 pre.1 c.loop-line.invariant.0 in
    let within = next-body (next-is _ _ _ _ c.in-Some.ensures) order.1 pre.1 in
    omega arith

pub overflow_add-n : goal.overflow_add-n
overflow_add-n c =
    let pre = c.requires in
    let line = next-is _ _ _ _ c.in-Some.ensures in
    let end = c.line_end-at.ensures ∙ after-end _ _ _ _ line.body in
    omega (arith, pre.2, after-further pre.0 pre.1 c.loop-line.invariant.0 line _ end)

pub overflow_add-n-in-Some : goal.overflow_add-n-in-Some
overflow_add-n-in-Some c =
    let pre = c.requires in
    let line = next-is _ _ _ _ c.in-Some.ensures in
    let end = c.line_end-at.ensures ∙ after-end _ _ _ _ line.body in
    omega (arith, pre.2, after-further pre.0 pre.1 c.loop-line.invariant.0 line _ end)

pub loop-line-smaller : goal.loop-line-smaller
loop-line-smaller c =
    let pre = c.requires in
    let line = next-is _ _ _ _ c.in-Some.ensures in
    let end = c.line_end-at.ensures ∙ after-end _ _ _ _ line.body in
    omega (arith, after-further pre.0 pre.1 c.loop-line.invariant.0 line _ end)

pub loop-line-preserved : goal.loop-line-preserved
loop-line-preserved c =
    let pre = c.requires in
    let inv = c.loop-line.invariant in
    let order = after-order pre.0 pre.1 inv.0 in
    let line = next-is _ _ _ _ c.in-Some.ensures in
    let end = c.line_end-at.ensures ∙ after-end _ _ _ _ line.body in
    let alone = line-alone _ _ _ _ line.some pre.1 line.body (next-nonblank line order.1 pre.1) in
    let run = alone (search rules) (search rules) (search rules) _ end in
    (after_next pre.0 pre.1 inv.0 line _ end, item-pass line order.1 pre.1 _ c.if-line-width.false _ run _ ∙ inv.1)

-- ---- no line goes on with it

pub returns-in_default : goal.returns-in_default
returns-in_default c =
    let inv = c.loop-line.invariant in
    let none = next-none _ _ _ c.in_default.ensures (item-gapped _) in
    run_by-none _ _ _ _ _ none ∙ inv.1

pub returns-then-line-width : goal.returns-then-line-width
returns-then-line-width c =
    let pre = c.requires in
    let inv = c.loop-line.invariant in
    let order = after-order pre.0 pre.1 inv.0 in
    let stop = item-stop (next-is _ _ _ _ c.in-Some.ensures) order.1 pre.1 _ _ c.if-line-width.true in
    stop ∙ inv.1
