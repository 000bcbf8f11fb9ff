-- `dates::span::skip_second` meets its contract, stage by stage.
-- Assumes nothing.
use Rattle.std.proofs.Common.{sym, ◌∙◌, arith}
use Rattle.dates.specs.Stamps.{second}
use Rattle.dates.proofs.span.skip_second.Goals as goal

pub returns-in_err-start : goal.returns-in_err-start
unfolding second
returns-in_err-start c = rw c.from_residual.ensures (record { is = rw c.in_err-start.ensures.is; within = tt }, tt)

pub returns-in_err-end : goal.returns-in_err-end
unfolding second
returns-in_err-end c =
    let w = c.in_ok-start.ensures in
    rw c.from_residual-in_err-end.ensures (record { is = rw (w.is, c.in_err-end.ensures.0.is); within = tt }, tt)

pub returns-then-range : goal.returns-then-range
unfolding second
returns-then-range c =
    let w = c.in_ok-start.ensures in
    let g = c.in_ok-end.ensures in
    (record { is = rw (w.is, g.0.is, sym g.1.0 ∙ c.if-range.true); within = tt }, tt)

pub returns-else-range : goal.returns-else-range
unfolding second
returns-else-range c =
    let w = c.in_ok-start.ensures in
    let g = c.in_ok-end.ensures in
    (record { is = rw (w.is, g.0.is, sym g.1.0 ∙ c.if-range.false); within = omega arith }, omega arith)
