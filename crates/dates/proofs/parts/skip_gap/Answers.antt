-- `dates::parts::skip_gap` meets its contract.
-- Assumes nothing.
use native.Mathlib.Omega.{arith}
use Rattle.dates.proofs.Laws.Reads.{gap-none, gap-some}
use Rattle.dates.proofs.parts.skip_gap.Goals as goal

pub returns-then-end-at : goal.returns-then-end-at
returns-then-end-at c =
    let at-run-end = c in
    let start = at-run-end in
    gap-none _ _ _ start.requires.0 start.requires.1 _ at-run-end.run_end-end.ensures (omega arith)

pub returns-else-end-at : goal.returns-else-end-at
returns-else-end-at c =
    let at-run-end = c in
    let start = at-run-end in
    gap-some _ _ _ start.requires.0 start.requires.1 _ at-run-end.run_end-end.ensures (λ e. omega arith)
