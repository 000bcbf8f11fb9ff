-- `dates::repeats::read_repeat` meets its contract, stage by stage.
-- Assumes nothing.
use Rattle.std.proofs.Common.{arith}
use Rattle.text.specs.Runs.{word}
use Rattle.dates.specs.Stamps.{repeat}
use Rattle.dates.proofs.repeats.read_repeat.Goals as goal

pub returns-in_err-a : goal.returns-in_err-a
unfolding repeat
returns-in_err-a c = rw c.from_residual.ensures (record { is = rw c.in_err-a.ensures.is; within = tt })

pub returns-in_err-mark : goal.returns-in_err-mark
unfolding repeat
returns-in_err-mark c = rw c.from_residual-in_err-mark.ensures (record { is = rw (c.in_ok-a.ensures.is, c.in_err-mark.ensures.is); within = tt })

pub returns-in_err-every : goal.returns-in_err-every
unfolding repeat
returns-in_err-every c = rw c.from_residual-in_err-every.ensures (record { is = rw (c.in_ok-a.ensures.is, c.in_ok-mark.ensures.is, c.in_err-every.ensures.is); within = tt })

pub returns-in_default : goal.returns-in_default
unfolding repeat word
returns-in_default c =
    let g = c.in_ok-a.ensures in
    let m = c.in_ok-mark.ensures in
    let i = c.in_ok-every.ensures in
    record { is = rw (g.is, m.is, i.is, c.in_default.ensures.is); within = omega arith }

pub returns-in_err-within : goal.returns-in_err-within
unfolding repeat word
returns-in_err-within c =
    let g = c.in_ok-a.ensures in
    let m = c.in_ok-mark.ensures in
    let i = c.in_ok-every.ensures in
    let no = c.in_err-within.ensures in
    rw c.from_residual-in_err-within.ensures (record {
      is = rw (g.is, m.is, i.is, c.in-Some.ensures.is, no.is);
      within = tt;
    })

pub returns : goal.returns
unfolding repeat word
returns c =
    let g = c.in_ok-a.ensures in
    let m = c.in_ok-mark.ensures in
    let i = c.in_ok-every.ensures in
    let w = c.in-Some.ensures in
    let l = c.in_ok-within.ensures in
    record { is = rw (g.is, m.is, i.is, w.is, l.is); within = omega arith }
