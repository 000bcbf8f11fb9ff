-- `reading::walk::read_elements` and `reading::walk::read_element` meet their contracts: an element's record and what it holds, and a run of elements,
-- each a turn of the loop. From Turns, Steps and Inside. Assumes nothing.
use Rattle.std.proofs.Common.{◌≡◌, sym, ap, ◌∙◌, ◌⊎◌, inl, inr, ℕ, ◌+◌, ◌-◌, ◌*◌, ◌≤◌, ◌<◌, List, T, arith}
use Rattle.std.proofs.Math.Dec.{eqb}
use Rattle.std.proofs.lemmas.Bool.{eq-eqb}
use borrow.Author.Tests.{ne_eqb}
use Rattle.table.specs.Nesting.{depth_in}
use Rattle.text.specs.LineNumbers.{line_number}
use Rattle.text.specs.Lines.{blanks}
use Rattle.text.specs.Parts.{lines_in, first_line}
use Rattle.text.proofs.Laws.LineNumbers.{line_number-le}
use Rattle.text.proofs.Laws.LinesIn.{blanks-le, first_line-from, first_line-to}
use Rattle.rules.specs.Kind
use Rattle.rules.specs.Kind.{is_holder}
use Rattle.rules.specs.declared.rule.Element.{Element}
use Rattle.rules.proofs.Laws.Kind.{is_holder-no}
use Rattle.reading.specs.Walk.{far, state, absorbed, run_to, lines_to, inner_line, holds_run, ElementIn, slack, slack_of}
use Rattle.reading.proofs.Laws.Holders.{depth_in-same, lines-kind, lines-holder, lines-no-item}
use Rattle.reading.proofs.Laws.Turns.{with_held-stopped, with_held-leaf, with_held-run, with_held-lines, run_to-to}
use Rattle.reading.proofs.Laws.EntriesStep.{entries_from-none}
use Rattle.reading.proofs.Laws.Steps.{stepped, step-turn}
use Rattle.reading.proofs.Laws.Inside.{slack-le, slack_of-other, step-slack, item-run, deep-run, inside-holder, inside-range, inside-less, inside-count}
use Rattle.reading.proofs.Laws.Inside.{inside-after}
use Rattle.reading.proofs.walk.+read_element_read_elements.Goals as goal

-- ---- one element

pub read_element-emit-out-requires : goal.read_element-emit-out-requires
read_element-emit-out-requires t c =
    let number = c.requires.4 in
    let small = line_number-le c.args.text.now c.args.at in
    omega (arith, slack-le (eqb c.args.e.kind Kind.item))

pub read_element-returns-then-out-clause-takes : goal.read_element-returns-then-out-clause-takes
read_element-returns-then-out-clause-takes t c =
    with_held-stopped _ _ _ _ _ (rw (c.depth_in-inner.ensures, c.requires.4) at c.emit-out.ensures.result_after) c.if-out.true

-- the line number of what stands first in it, as `inner_line` counts it
inner-number : (s : List ℕ) (p b : ℕ) (e : Element) → ElementIn s p b e → T (is_holder e.kind) → (n m k : ℕ) → n ≡ line_number s p
    → m ≡ blanks (lines_in s e.from e.to) → k ≡ inner_line e.kind n m → (a : ℕ) → a ≡ first_line s e.from e.to → a < e.to → k ≡ line_number s a
inner-number s p b e i holder n m k h g j a first lt = j ∙ rw (h, g, first) (sym (i.number holder (rw first at lt)))

-- so many blank lines stand before it
blanks-far : (s : List ℕ) (p b : ℕ) (e : Element) → ElementIn s p b e → (n m : ℕ) → n ≡ line_number s p → m ≡ blanks (lines_in s e.from e.to)
    → (n ≤ far) × (m ≤ far)
blanks-far s p b e i n m h g = omega (arith, h, line_number-le s p, g, blanks-le s e.from e.to i.order (omega arith), i)

pub read_element-inner_line-n-requires : goal.read_element-inner_line-n-requires
read_element-inner_line-n-requires t c = blanks-far _ _ _ _ c.requires.0 _ _ c.requires.4 c.first_line-first.ensures.1

-- an element of lines is a table or a property drawer
of-lines : (k e : ℕ) → (k ≡ Kind.table) ⊎ ((k ≡ Kind.table → ⊥) × (k ≡ Kind.property_drawer)) → k ≡ (lines_to (eqb k Kind.table) e).kind
of-lines k e (inl h) = lines-kind k e (inl (eq-eqb k Kind.table h))
of-lines k e (inr (h, g)) = lines-kind k e (inr (ne_eqb k Kind.table h, eq-eqb k Kind.property_drawer g))

pub read_element-read_lines-requires-clause-from_le_to : goal.read_element-read_lines-requires-clause-from_le_to
read_element-read_lines-requires-clause-from_le_to t c =
    let e = c.args.e in
    let i = c.requires.0 in
    let lines = of-lines _ e.to c.then-rows.either in
    let first = c.first_line-first.ensures.0 in
    let from = first_line-from c.args.text.now e.from e.to i.order (omega arith) in
    let to = first_line-to c.args.text.now e.from e.to i.order (omega arith) in
    let no-slack = slack_of-other e.kind (lines-no-item (eqb e.kind Kind.table) e.kind e.to lines) in
    omega arith

pub read_element-read_lines-requires-clause-lines_value : goal.read_element-read_lines-requires-clause-lines_value
read_element-read_lines-requires-clause-lines_value t c =
    let e = c.args.e in
    let i = c.requires.0 in
    let lines = of-lines _ e.to c.then-rows.either in
    let first = c.first_line-first.ensures.0 in
    let holder = lines-holder (eqb e.kind Kind.table) e.kind e.to lines in (
      rw first (i.counted (eqb e.kind Kind.table) lines),
      c.emit-out.ensures.depth_le_depth_limit c.if-out.false,
      c.if-out.false,
      inner-number _ _ _ _ i holder _ _ _ c.requires.4 c.first_line-first.ensures.1 c.inner_line-n.ensures _ first,
    )

pub read_element-returns-then-rows-clause-takes : goal.read_element-returns-then-rows-clause-takes
read_element-returns-then-rows-clause-takes t c =
    let lines = of-lines _ c.args.e.to c.then-rows.either in
    rw (c.depth_in-inner.ensures, c.first_line-first.ensures.0) at c.read_lines.ensures.takes
    ∙ with_held-lines _ _ _ _ _ (rw (c.depth_in-inner.ensures, c.requires.4) at c.emit-out.ensures.result_after) (eqb c.args.e.kind Kind.table) lines

pub read_element-returns-then-rows-clause-kind_bound : goal.read_element-returns-then-rows-clause-kind_bound
read_element-returns-then-rows-clause-kind_bound t c =
    let e = c.args.e in
    let i = c.requires.0 in
    let lines = of-lines _ e.to c.then-rows.either in
    let first = c.first_line-first.ensures.0 in
    let no-slack = slack_of-other e.kind (lines-no-item (eqb e.kind Kind.table) e.kind e.to lines) in
    let from = first_line-from c.args.text.now e.from e.to i.order (omega arith) in
    omega arith

pub read_element-returns-then-kind-ne-ITEM-clause-takes : goal.read_element-returns-then-kind-ne-ITEM-clause-takes
read_element-returns-then-kind-ne-ITEM-clause-takes t c =
    let k = c.args.e.kind in
    with_held-leaf _ _ _ _ _ (rw (c.depth_in-inner.ensures, c.requires.4) at c.emit-out.ensures.result_after)
    (is_holder-no _ c.requires.0.low (depth_in-same _ _ (rw c.depth_in-inner.ensures at c.if-inner-depth.true)) (ne_eqb k Kind.table c.if-rows.false)
    (ne_eqb k Kind.property_drawer c.if-kind-eq-PROPERTY_DRAWER.false) (ne_eqb k Kind.item c.if-kind-ne-ITEM.true))

pub read_element-inner_line-n-requires-2 : goal.read_element-inner_line-n-requires-2
read_element-inner_line-n-requires-2 t c = blanks-far _ _ _ _ c.requires.0 _ _ c.requires.4 c.first_line-first-2.ensures.1

-- an element that is gone into
goes_in : (d k h : ℕ) → h ≡ depth_in d k → ((h ≤ d) × (k ≡ Kind.item)) ⊎ (d < h) → T (holds_run k)
goes_in d k h i (inl (_, item)) = item-run k item
goes_in d k h i (inr more) = deep-run d k (rw i at more)

pub read_element-read_elements-requires : goal.read_element-read_elements-requires
read_element-read_elements-requires t c =
    let s = c.args.text.now in
    let e = c.args.e in
    let i = c.requires.0 in
    let run = goes_in c.args.depth e.kind c.depth_in-inner.result c.depth_in-inner.ensures c.else-inner-depth.either in
    let first = c.first_line-first-2.ensures.0 in
    let range = inside-range s c.args.at c.args.end e i run in
    let less = inside-less s c.args.at c.args.end e i run in
    let small : 4 * (e.to - c.first_line-first-2.result.at) + (3 - 2 * slack (eqb e.kind Kind.list)) < 4 * (c.args.end - c.args.at) + (2 - 2 * slack_of e.kind) =
    rw first less in
    let count = inside-count s c.args.at c.args.end e i run _ _ c.emit-out.ensures.count_bound c.requires.3 in
    let shallow = c.emit-out.ensures.depth_le_depth_limit c.if-out.false in
    let small-index : c.args.sink.count ≤ far = omega (arith, c.requires.3, slack-le (eqb e.kind Kind.item), i.some, i.text, i.limit) in (
      rw (← c.decreases) small,
      (
        rw (c.inner_place-place.ensures, first) range,
        shallow,
        small-index,
        rw first count,
        inner-number _ _ _ _ i (inside-holder s c.args.at c.args.end e i run) _ _ _ c.requires.4 c.first_line-first-2.ensures.1
            c.inner_line-n-2.ensures _ first,
      ),
    )

pub read_element-returns-clause-takes : goal.read_element-returns-clause-takes
read_element-returns-clause-takes t c =
    let run = goes_in c.args.depth c.args.e.kind c.depth_in-inner.result c.depth_in-inner.ensures c.else-inner-depth.either in
    rw (c.depth_in-inner.ensures, c.first_line-first-2.ensures.0) at c.read_elements.ensures.takes
    ∙ with_held-run _ _ _ _ _ (rw (c.depth_in-inner.ensures, c.requires.4) at c.emit-out.ensures.result_after) run

pub read_element-returns-clause-kind_bound : goal.read_element-returns-clause-kind_bound
read_element-returns-clause-kind_bound t c =
    let run = goes_in c.args.depth c.args.e.kind c.depth_in-inner.result c.depth_in-inner.ensures c.else-inner-depth.either in
    let first = c.first_line-first-2.ensures.0 in
    let count = c.read_elements.ensures.from_bound in
    inside-after _ c.args.at c.args.end c.args.e c.requires.0 run _ _ c.emit-out.ensures.count_bound _
    (rw first at count.0) (λ lt. rw first at (count.1 (rw first lt)).0)

-- ---- a run of elements

pub read_elements-returns-then-to-from-clause-takes :
    goal.read_elements-returns-then-to-from-clause-takes
unfolding absorbed
read_elements-returns-then-to-from-clause-takes t c =
    let past : (run_to c.args.items c.args.to).to ≤ c.args.from = omega (arith, run_to-to c.args.items c.args.to, c.if-to-from.true) in
    sym (ap (absorbed (state _ _)) (entries_from-none _ _ _ _ _ _ past))

pub read_elements-read_element-out-requires : goal.read_elements-read_element-out-requires
read_elements-read_element-out-requires t c =
    let loop = c.loop-step in
    let pre = c.requires in
    let lies = loop.invariant.here.lies in
    let rest = loop.invariant.here.rest.range in
    let count = loop.invariant.count in
    let slacks = step-slack _ _ _ _ _ loop.invariant.here in
    let most = slack-le (eqb loop.step.e.kind Kind.item) in
    let few = slack-le c.args.items in
    (omega arith, (lies, pre.1, pre.2, omega arith, loop.invariant.line))

pub read_elements-returns-then-to-step-clause-takes :
    goal.read_elements-returns-then-to-step-clause-takes
unfolding absorbed
read_elements-returns-then-to-step-clause-takes t c =
    let args = c.args in
    let loop = c.loop-step in
    let inv = loop.invariant in
    let S = stepped args.items args.text.now loop.at args.to inv.some inv.range inv.all in
    let past : (run_to args.items args.to).to ≤ loop.step.end = omega (arith, run_to-to args.items args.to, c.if-to-step.true) in
    sym (ap (absorbed (state _ _)) (entries_from-none _ _ _ _ _ _ past))
    ∙ step-turn _ _ _ _ inv.some S _ inv.here.here _ inv.here.next _ _ _ _ c.read_element-out.ensures.takes ∙ inv.same

pub read_elements-returns-then-to-step-clause-from_bound :
    goal.read_elements-returns-then-to-step-clause-from_bound
read_elements-returns-then-to-step-clause-from_bound t c =
    let args = c.args in
    let loop = c.loop-step in
    let inv = loop.invariant in
    let rest = inv.here.rest.range in
    let slacks = step-slack _ _ _ _ _ inv.here in
    let end : loop.step.end ≡ args.to = omega arith in
    (omega arith, λ h. (omega arith, λ i. inv.here.line (omega arith) ∙ ap (line_number _) end))

pub read_elements-loop-step-preserved : goal.read_elements-loop-step-preserved
read_elements-loop-step-preserved t c =
    let args = c.args in
    let loop = c.loop-step in
    let inv = loop.invariant in
    let S = stepped args.items args.text.now loop.at args.to inv.some inv.range inv.all in
    let rest = inv.here.rest.range in
    let lies = inv.here.lies in
    record {
      after = omega arith;
      some = c.if-to-step.false;
      range = inv.here.rest.range;
      all = inv.here.rest.all;
      here = c.next_element-step-in-loop-step.ensures;
      count = omega arith;
      size = c.read_element-out.auto.table ∙ inv.size;
      same = step-turn _ _ _ _ inv.some S _ inv.here.here _ inv.here.next _ _ _ _ c.read_element-out.ensures.takes ∙ inv.same;
      line = inv.here.line (omega arith);
    }
