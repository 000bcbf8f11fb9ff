-- `rules::lines::lines_end` meets its contract: a law for each kind of line at `at`, and one for the end.
-- Assumes nothing.
use mathlib.Core.Path.{◌≡◌, sym, ◌∙◌}
use Prim.Native.Nat.{◌+◌, ◌≤◌, ◌<◌}
use native.Mathlib.Omega.{arith}
use lib.ListN.{length}
use Rattle.text.specs.Parts.{line_in}
use Rattle.rules.proofs.Laws.LineOf.{indent-run, after-to, after-end, line-next}
use Rattle.rules.proofs.Laws.LineRuns.{counted_start, counted-end, counted-here, counted_skip}
use Rattle.rules.proofs.lines.lines_end.Goals as goal
use Rattle.rules.proofs.lines.lines_end.Goals.{After-line_end-at}

pub loop-at-init : goal.loop-at-init
loop-at-init c = (omega arith, omega arith, omega arith, counted_start _ _ _ _)

pub starts_line-requires : goal.starts_line-requires
starts_line-requires c =
    let inv = c.loop-at.invariant in
    (after-to _ _ _ _ (indent-run _ _ _ _ c.run_end-body.ensures) inv.0 inv.1, inv.1)

pub line_end-at-requires : goal.line_end-at-requires
line_end-at-requires c =
    let inv = c.loop-at.invariant in
    (after-to _ _ _ _ (indent-run _ _ _ _ c.run_end-body.ensures) inv.0 inv.1, inv.1)

pub returns-then-not-starts_line : goal.returns-then-not-starts_line
returns-then-not-starts_line c =
    let e = counted-here _ _ _ _ _ _ c.loop-at.invariant.3
    (sym (c.starts_line.ensures _ (indent-run _ _ _ _ c.run_end-body.ensures)) ∙ c.if-not-starts_line.true) in
    record { end_value = e.0; lines_value = e.1 }

-- where the line ends
end : (c : After-line_end-at) → c.line_end-at.result ≡ c.loop-at.at + length (line_in c.args.text.now c.loop-at.at c.args.to)
end c = c.line_end-at.ensures ∙ after-end _ _ _ _ (indent-run _ _ _ _ c.run_end-body.ensures)

-- the next line starts further on, and not past the end
next : (c : After-line_end-at) → (c.loop-at.at < c.line_end-at.result) × (c.line_end-at.result ≤ c.args.to)
next c = line-next _ _ _ _ (end c) c.loop-at-test.true c.loop-at.invariant.1

pub loop-at-smaller : goal.loop-at-smaller
loop-at-smaller c = omega (arith, next (goal.at.loop-at-smaller c).After-line_end-at)

pub loop-at-preserved : goal.loop-at-preserved
loop-at-preserved c =
    let here = (goal.at.loop-at-preserved c).After-line_end-at in
    let inv = c.loop-at.invariant in (
      (next here).1,
      inv.1,
      omega (arith, next here),
      counted_skip _ _ _ _ _ _ inv.3 c.loop-at-test.true inv.1 _ (end here)
          (sym (c.starts_line.ensures _ (indent-run _ _ _ _ c.run_end-body.ensures)) ∙ c.if-not-starts_line.false),
    )

pub returns : goal.returns
returns c = let e = counted-end _ _ _ _ _ _ c.loop-at.invariant.3 c.loop-at-test.false in record { end_value = e.0; lines_value = e.1 }
