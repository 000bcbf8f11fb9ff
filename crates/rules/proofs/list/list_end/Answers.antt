-- `rules::list::list_end` meets its contract: what is left after an item's further lines, what a turn of the loop passes, and the three ways out of it.
-- Assumes nothing.
use mathlib.Core.Path.{◌≡◌, refl, sym, ◌∙◌}
use mathlib.Core.Bool.{true, false, ◌&&◌, and-false}
use mathlib.Core.List.{List}
use Prim.Native.Nat.{ℕ, ◌+◌, ◌≤◌, ◌<◌}
use native.Mathlib.Omega.{arith}
use borrow.Author.Tests.{eq-eqb, ne_eqb}
use lib.Dec.{eqb}
use lib.ListN.{length}
use Rattle.text.specs.Parts.{lines_in, line_in}
use Rattle.text.specs.declared.line.LineSpan.{LineSpan}
use Rattle.rules.specs.Items.{width, is_item}
use Rattle.rules.specs.Findings.{LineOf}
use Rattle.rules.specs.Lists.{list_lines}
use Rattle.rules.specs.Scans.{run_by, item_run, list_run}
use Rattle.rules.specs.declared.lines.LineRun.{LineRun}
use Rattle.rules.proofs.Laws.LineOf.{line_of-order, after-to, after-end, line-next}
use Rattle.rules.proofs.Laws.NoLines.{knows_line, knows-next}
use Rattle.rules.proofs.Laws.Paragraphs.{line_run}
use Rattle.rules.proofs.Laws.Scans.{list_rest, list-gapped}
use Rattle.rules.proofs.Laws.ScanRuns.{run_by-none, IsNext, next-is, next-none, next-knows, next-from}
use Rattle.rules.proofs.Laws.ScanRuns.{item-order, list-first, list-total, list-item, list-stop, list-pass, list_count}
use Rattle.rules.proofs.list.list_end.Goals as goal
use Rattle.rules.proofs.list.list_end.Goals.{After-line_end-at}

pub loop-next-init : goal.loop-next-init
loop-next-init c =
    let pre = c.requires in
    let o = line_of-order _ _ _ pre.first.line in
    (o.4, o.5, pre.limit, knows-next _ _ _ _ _ pre.first.line pre.first.known, refl)

-- ---- after the further lines of an item, from byte p on

module _ (s : List ℕ) (l : LineSpan) (e w : ℕ) (first : LineOf s l e) (wide : w ≡ width (line_in s l.start e))
    (p n : ℕ) (r : LineRun) (item : r ≡ item_run s p e w) (left : run_by (list_rest w) s p e n ≡ run_by (list_rest w) s l.end e 1) where
  -- the list's lines from there on
  rest : run_by (list_lines w 0) s r.end e (n + r.lines) ≡ list_run s l.start e
  rest = list-item _ _ _ _ _ item _ ∙ left ∙ list-first _ _ _ _ first wide

  -- no more are counted than there are bytes
  total : n + r.lines + list_lines w 0 (lines_in s r.end e) ≤ e
  total = list-total _ _ _ _ first wide (list_lines w 0) _ _ rest

  -- the next line
  module _ (text : e ≤ length s) (end : r.end ≤ e) (q b v k : ℕ) (next : IsNext s r.end e q b v k) where
    stop : (is_item (line_in s q e) && eqb (width (line_in s q e)) w) ≡ false → line_run r.end (n + r.lines) ≡ list_run s l.start e
    stop h = list-stop next end text _ _ h ∙ rest

    passed : (is_item (line_in s q e) && eqb (width (line_in s q e)) w) ≡ true → (x : ℕ) → x ≡ q + length (line_in s q e)
        → (n + r.lines + (k + 1) ≤ e) × (r.end < x) × (x ≤ e)
    passed same x i =
        let count = list_count next end text _ same in
        let further = line-next _ _ _ _ i next.some text in
        omega (arith, total, next-from next)

pub overflow_add-n : goal.overflow_add-n
overflow_add-n c =
    let pre = c.requires in
    let inv = c.loop-next.invariant in
    omega (arith, inv.2, total _ _ _ _ pre.first.line pre.wide _ _ _ c.item_end-further.ensures.run inv.4)

pub find_next-requires : goal.find_next-requires
find_next-requires c =
    let inv = c.loop-next.invariant in
    let order = item-order _ _ _ _ _ c.item_end-further.ensures.run inv.0 inv.1 in
    (order.1, inv.1, inv.2)

pub returns-in_default : goal.returns-in_default
returns-in_default c =
    let pre = c.requires in
    let further = c.item_end-further.ensures in
    let none = next-none _ _ _ c.in_default.ensures (list-gapped _) in
    record {
      run = run_by-none _ _ _ _ _ none ∙ rest _ _ _ _ pre.first.line pre.wide _ _ _ further.run c.loop-next.invariant.4;
      known = further.known;
    }

pub returns-then-next-width : goal.returns-then-next-width
returns-then-next-width c =
    let pre = c.requires in
    let inv = c.loop-next.invariant in
    let further = c.item_end-further.ensures in
    let order = item-order _ _ _ _ _ further.run inv.0 inv.1 in
    let line = next-is _ _ _ _ c.in-Some.ensures in
    let other = ne_eqb _ _ (rw line.wide at c.if-next-width.true) in
    record {
      run = stop _ _ _ _ pre.first.line pre.wide _ _ _ further.run inv.4 inv.1 order.1 _ _ _ _ line (rw (other, and-false));
      known = further.known;
    }

pub is_item-requires : goal.is_item-requires
is_item-requires c =
    let line = next-is _ _ _ _ c.in-Some.ensures in
    (let h = line.some in omega arith, c.loop-next.invariant.1, line.body)

pub returns-then-not-is_item : goal.returns-then-not-is_item
returns-then-not-is_item c =
    let pre = c.requires in
    let inv = c.loop-next.invariant in
    let further = c.item_end-further.ensures in
    let order = item-order _ _ _ _ _ further.run inv.0 inv.1 in
    let line = next-is _ _ _ _ c.in-Some.ensures in
    let plain = sym c.is_item.ensures ∙ c.if-not-is_item.true in
    record {
      run = stop _ _ _ _ pre.first.line pre.wide _ _ _ further.run inv.4 inv.1 order.1 _ _ _ _ line (rw plain);
      known = further.known;
    }

-- ---- an item line of the list's indentation

pub line_end-at-requires : goal.line_end-at-requires
line_end-at-requires c =
    let line = next-is _ _ _ _ c.in-Some.ensures in
    let text = c.loop-next.invariant.1 in
    (after-to _ _ _ _ line.body (let h = line.some in omega arith) text, text)

-- its end
end : (c : After-line_end-at) → c.line_end-at.result ≡ c.in-Some.next.start + length (line_in c.args.text.now c.in-Some.next.start c.args.scope.end)
end c = c.line_end-at.ensures ∙ after-end _ _ _ _ (next-is _ _ _ _ c.in-Some.ensures).body

same : (c : After-line_end-at) → let line = line_in c.args.text.now c.in-Some.next.start c.args.scope.end in
    (is_item line && eqb (width line) c.args.width) ≡ true
same c =
    let line = next-is _ _ _ _ c.in-Some.ensures in
    let item = sym c.is_item.ensures ∙ c.if-not-is_item.false in
    rw item (eq-eqb _ _ (sym line.wide ∙ c.if-next-width.false))

past : (c : After-line_end-at) →
    let run = c.item_end-further.result.run in
    let to = c.args.scope.end in
    (c.loop-next.n + run.lines + (c.in-Some.next.blanks + 1) ≤ to) × (c.loop-next.at < c.line_end-at.result) × (c.line_end-at.result ≤ to)
past c =
    let pre = c.requires in
    let inv = c.loop-next.invariant in
    let run = c.item_end-further.ensures.run in
    let order = item-order _ _ _ _ _ run inv.0 inv.1 in
    let line = next-is _ _ _ _ c.in-Some.ensures in
    omega (arith, passed _ _ _ _ pre.first.line pre.wide _ _ _ run inv.4 inv.1 order.1 _ _ _ _ line (same c) _ (end c))

pub overflow_add-n-in-loop-next : goal.overflow_add-n-in-loop-next
overflow_add-n-in-loop-next c = omega (arith, c.loop-next.invariant.2, past (goal.at.overflow_add-n-in-loop-next c).After-line_end-at)

pub overflow_add-n-in-loop-next-2 : goal.overflow_add-n-in-loop-next-2
overflow_add-n-in-loop-next-2 c = omega (arith, c.loop-next.invariant.2, past (goal.at.overflow_add-n-in-loop-next-2 c).After-line_end-at)

pub loop-next-smaller : goal.loop-next-smaller
loop-next-smaller c = omega (arith, past (goal.at.loop-next-smaller c).After-line_end-at)

pub loop-next-preserved : goal.loop-next-preserved
loop-next-preserved c =
    let here = (goal.at.loop-next-preserved c).After-line_end-at in
    let inv = c.loop-next.invariant in
    let further = c.item_end-further.ensures in
    let order = item-order _ _ _ _ _ further.run inv.0 inv.1 in
    let line = next-is _ _ _ _ c.in-Some.ensures in (
      (past here).2,
      inv.1,
      inv.2,
      rw (end here) (knows_line _ _ _ _ _ (next-knows line _ _ further.known)),
      list-pass line order.1 inv.1 _ (same here) _ _ (end here) ∙ list-item _ _ _ _ _ further.run _ ∙ inv.4,
    )
