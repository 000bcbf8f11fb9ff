-- `intake::seen::is_seen` meets its contract: where a heading looks the value up it is seen, and else the search goes on at the next.
use mathlib.Core.Path.{refl, sym, ◌∙◌}
use native.Mathlib.Omega.{arith}
use Rattle.intake.proofs.Laws.Search.{search-first, search-next, search-hit, search-end, search-line, search-further}
use Rattle.intake.proofs.seen.is_seen.Goals as goal

pub loop-at-init : goal.loop-at-init
loop-at-init c =
    (c.requires, refl, search-first c.args.text.now c.args.value.now c.requires _ c.next_heading-at.ensures)

pub returns-then-looks_up : goal.returns-then-looks_up
returns-then-looks_up c =
    sym (search-hit _ _ _ (omega (arith, c.loop-at-test.true, c.loop-at.invariant.1)) (sym c.looks_up.ensures ∙ c.if-looks_up.true))

pub next_heading-at-requires-in-loop-at : goal.next_heading-at-requires-in-loop-at
next_heading-at-requires-in-loop-at c =
    let i = c.loop-at.invariant.1 in
    (search-line _ _ (omega (arith, c.loop-at-test.true, i)) _ (rw i at c.line_end.ensures)).1

pub loop-at-smaller : goal.loop-at-smaller
loop-at-smaller c =
    let i = c.loop-at.invariant.1 in
    omega (
      arith,
      c.loop-at-test.true,
      i,
      search-further c.args.text.now c.loop-at.at (omega (arith, c.loop-at-test.true, i)) c.line_end.result c.next_heading-at-in-loop-at.result
          (rw i at c.line_end.ensures) (rw i at c.next_heading-at-in-loop-at.ensures),
    )

pub loop-at-preserved : goal.loop-at-preserved
loop-at-preserved c =
    let l = c.loop-at.invariant in (
      l.0,
      l.1,
      search-next _ _ l.0 _ (omega (arith, c.loop-at-test.true, l.1)) _ _
          (rw l.1 at c.line_end.ensures) (rw l.1 at c.next_heading-at-in-loop-at.ensures) l.2 (sym c.looks_up.ensures ∙ c.if-looks_up.false),
    )

pub returns : goal.returns
returns c =
    let l = c.loop-at.invariant in
    sym (search-end _ _ c.loop-at.at (omega (arith, l.1, c.loop-at-test.false)) l.2)
