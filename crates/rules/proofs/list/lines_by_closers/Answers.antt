-- `rules::list::lines_by_closers` meets its contract: what a turn of the loop passes, and the three ways out of it.
-- Assumes nothing.
use mathlib.Core.Path.{◌≡◌, refl, ◌∙◌}
use mathlib.Core.List.{List}
use Prim.Native.Nat.{ℕ, ◌+◌, ◌≤◌, ◌<◌}
use native.Mathlib.Omega.{arith}
use lib.ListN.{length}
use Rattle.rules.specs.Lists.{item_lines}
use Rattle.rules.specs.Scans.{run_by, together_run, item_run}
use Rattle.rules.specs.declared.lines.LineRun.{LineRun}
use Rattle.rules.proofs.Laws.ScanRuns.{IsNext, next-is, next-none, next-nonblank, next-knows, next-from, run_by-none}
use Rattle.rules.proofs.Laws.ScanRuns.{item-stop, item-pass, item_count, item-total, together-order}
use Rattle.rules.proofs.Laws.Scans.{item-gapped}
use Rattle.rules.proofs.list.lines_by_closers.Goals as goal

pub loop-next-init : goal.loop-next-init
unfolding item_run
loop-next-init c = let pre = c.requires in (pre.order, pre.text, pre.limit, pre.known, refl)

-- ---- the next line

pub lines_together-further-requires : goal.lines_together-further-requires
lines_together-further-requires c =
    let inv = c.loop-next.invariant in
    let line = next-is _ _ _ _ c.in-Some.ensures in
    record {
      some = line.some;
      text = inv.1;
      body = line.body;
      nonblank = next-nonblank line inv.0 inv.1;
      known = next-knows line _ _ inv.3;
    }

-- the lines that stand or fall with it, of those from byte a on: no more are counted than there are bytes, and they end further on
passed : {s : List ℕ} {a e w p q b v k : ℕ} (n : ℕ) → a ≤ e → e ≤ length s → p ≤ e → run_by (item_lines w 0) s p e n ≡ item_run s a e w
    → IsNext s p e q b v k → w < v → (r : LineRun) → r ≡ together_run s q e
    → (n + (k + r.lines) ≤ e) × (p < r.end) × (r.end ≤ e)
passed n from text order left line deeper r run =
    let count = item_count line order text _ deeper _ run in
    let total = item-total _ _ _ _ _ _ from text left in
    let further = together-order _ _ _ _ line.some text run in
    omega (arith, next-from line)

pub overflow_add-n : goal.overflow_add-n
overflow_add-n c =
    let inv = c.loop-next.invariant in
    let line = next-is _ _ _ _ c.in-Some.ensures in
    omega (arith, inv.2, passed _ c.requires.order inv.1 inv.0 inv.4 line c.if-next-width.false _ c.lines_together-further.ensures.run)

pub overflow_add-n-in-Some : goal.overflow_add-n-in-Some
overflow_add-n-in-Some c =
    let inv = c.loop-next.invariant in
    let line = next-is _ _ _ _ c.in-Some.ensures in
    omega (arith, inv.2, passed _ c.requires.order inv.1 inv.0 inv.4 line c.if-next-width.false _ c.lines_together-further.ensures.run)

pub loop-next-smaller : goal.loop-next-smaller
loop-next-smaller c =
    let inv = c.loop-next.invariant in
    let line = next-is _ _ _ _ c.in-Some.ensures in
    omega (arith, passed _ c.requires.order inv.1 inv.0 inv.4 line c.if-next-width.false _ c.lines_together-further.ensures.run)

pub loop-next-preserved : goal.loop-next-preserved
loop-next-preserved c =
    let inv = c.loop-next.invariant in
    let line = next-is _ _ _ _ c.in-Some.ensures in
    let further = c.lines_together-further.ensures in (
      (passed _ c.requires.order inv.1 inv.0 inv.4 line c.if-next-width.false _ further.run).2,
      inv.1,
      inv.2,
      further.known,
      item-pass line inv.0 inv.1 _ c.if-next-width.false _ further.run _ ∙ inv.4,
    )

-- ---- no line goes on with it

pub returns-in_default : goal.returns-in_default
returns-in_default c =
    let inv = c.loop-next.invariant in
    let none = next-none _ _ _ c.in_default.ensures (item-gapped _) in
    record { run = run_by-none _ _ _ _ _ none ∙ inv.4; known = inv.3 }

pub returns-then-next-width : goal.returns-then-next-width
returns-then-next-width c =
    let inv = c.loop-next.invariant in
    let line = next-is _ _ _ _ c.in-Some.ensures in
    record { run = item-stop line inv.0 inv.1 _ _ c.if-next-width.true ∙ inv.4; known = inv.3 }
