-- `rules::list::lines_to_end` meets its contract: what a turn of the loop passes, and what is left at the end.
-- Assumes nothing.
use mathlib.Core.Path.{◌≡◌, ◌∙◌}
use mathlib.Core.List.{List}
use Prim.Native.Nat.{ℕ, ◌+◌, ◌≤◌, ◌<◌}
use native.Mathlib.Omega.{arith}
use native.Mathlib.Nat.{zero-add}
use lib.ListN.{length}
use Rattle.text.specs.Bytes.{is_indent}
use Rattle.text.specs.Runs.{run}
use Rattle.text.specs.Lines.{blanks}
use Rattle.text.specs.Parts.{part, lines_in, first_line}
use Rattle.text.proofs.Laws.Runs.{run-part-to}
use Rattle.rules.specs.Items.{width_of}
use Rattle.rules.proofs.Laws.LineOf.{after-end}
use Rattle.rules.proofs.Laws.Paragraphs.{line_run}
use Rattle.rules.proofs.Laws.ScanRuns.{IsNext, next-is, next-line}
use Rattle.rules.proofs.Laws.Stretches.{after-start, after-order, after_next, after-further, after-item, deep-line, deep-all}
use Rattle.rules.proofs.list.lines_to_end.Goals as goal

pub loop-first-init : goal.loop-first-init
loop-first-init c = (after-start _ _ _, λ j d. rw (zero-add j) d)

pub first_from-first-requires : goal.first_from-first-requires
first_from-first-requires c =
    let pre = c.requires in
    let order = after-order pre.0 pre.1 c.loop-first.invariant.0 in
    (order.1, pre.1)

-- ---- the next line

pub indent_width-requires : goal.indent_width-requires
indent_width-requires c =
    let within = run-part-to _ _ _ is_indent (let h = c.if-to-start.false in omega arith) c.requires.1 _ c.run_end-body.ensures in
    omega (arith, c.run_end-body.ensures)

pub line_end-at-requires : goal.line_end-at-requires
line_end-at-requires c =
    let within = run-part-to _ _ _ is_indent (let h = c.if-to-start.false in omega arith) c.requires.1 _ c.run_end-body.ensures in
    (within, c.requires.1)

-- as the code finds it
next : (s : List ℕ) (p e : ℕ) {q k b v : ℕ} → (q ≡ first_line s p e) × (k ≡ blanks (lines_in s p e)) → q < e → k ≤ 1
    → b ≡ q + length (run is_indent (part s q e)) → v ≡ width_of (part s q b) → IsNext s p e q b v k
next s p e first some few body wide = next-is _ _ _ _ (next-line _ _ _ _ _ first.0 first.1 some few _ _ body wide)

pub overflow_add-n-in-loop-first : goal.overflow_add-n-in-loop-first
overflow_add-n-in-loop-first c =
    let pre = c.requires in
    let line = next _ _ _ c.first_from-first.ensures c.if-to-start.false c.if-first-gt1.false c.run_end-body.ensures c.indent_width.ensures in
    let end = c.line_end-at.ensures ∙ after-end _ _ _ _ line.body in
    omega (arith, pre.2, after-further pre.0 pre.1 c.loop-first.invariant.0 line _ end)

pub loop-first-smaller : goal.loop-first-smaller
loop-first-smaller c =
    let pre = c.requires in
    let line = next _ _ _ c.first_from-first.ensures c.if-to-start.false c.if-first-gt1.false c.run_end-body.ensures c.indent_width.ensures in
    let end = c.line_end-at.ensures ∙ after-end _ _ _ _ line.body in
    omega (arith, after-further pre.0 pre.1 c.loop-first.invariant.0 line _ end)

pub loop-first-preserved : goal.loop-first-preserved
loop-first-preserved c =
    let pre = c.requires in
    let inv = c.loop-first.invariant in
    let order = after-order pre.0 pre.1 inv.0 in
    let line = next _ _ _ c.first_from-first.ensures c.if-to-start.false c.if-first-gt1.false c.run_end-body.ensures c.indent_width.ensures in
    let end = c.line_end-at.ensures ∙ after-end _ _ _ _ line.body in
    (after_next pre.0 pre.1 inv.0 line _ end, deep-line _ _ _ _ _ _ order.1 pre.1 inv.1 line c.if-indent_width-width.false _ end)

-- ---- nothing is left

pub returns-then-to-start : goal.returns-then-to-start
returns-then-to-start c run is =
    let pre = c.requires in
    let inv = c.loop-first.invariant in
    let order = after-order pre.0 pre.1 inv.0 in
    let all = deep-all _ _ _ _ _ _ order.1 pre.1 inv.1 (rw c.first_from-first.ensures.0 at c.if-to-start.true) in
    let same : run ≡ line_run c.loop-first.at c.loop-first.n = cc in
    same ∙ after-item pre.0 pre.1 inv.0 _ all
