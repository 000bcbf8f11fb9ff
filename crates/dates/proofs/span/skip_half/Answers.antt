-- `dates::span::skip_half` meets its contract, stage by stage.
-- Assumes nothing.
use Rattle.std.proofs.Common.{◌≡◌, ◌+◌, refl, sym, arith}
use Rattle.text.specs.Parts.{part}
use Rattle.text.proofs.Laws.Parts.{part-drop}
use Rattle.dates.specs.Stamps.{date, after_day_name, half}
use Rattle.dates.proofs.span.skip_half.Goals as goal

pub returns-then-not-is_date : goal.returns-then-not-is_date
unfolding half date
returns-then-not-is_date c = (record { is = rw (sym c.if-not-is_date.ensures.0); within = tt }, tt)

pub returns-in_err-end : goal.returns-in_err-end
unfolding half date
returns-in_err-end c =
    let a = c.args in
    let name : after_day_name (part a.text.now (a.at + 10) a.to) ≡ part a.text.now c.skip_day_name-a.result a.to = c.skip_day_name-a.ensures.0 in
    let d = c.if-not-is_date.ensures in
    let ten = d.1 refl in
    rw c.from_residual.ensures (
      record {
        is = rw (sym d.0, part-drop a.text.now 10 a.at a.to, name, c.read_times-times.ensures.is, c.read_repeater-repeats.ensures.is, c.in_err-end.ensures.is);
        within = tt;
      },
      tt,
    )

pub returns : goal.returns
unfolding half date
returns c =
    let a = c.args in
    let name : after_day_name (part a.text.now (a.at + 10) a.to) ≡ part a.text.now c.skip_day_name-a.result a.to = c.skip_day_name-a.ensures.0 in
    let d = c.if-not-is_date.ensures in
    let ten = d.1 refl in
    let w = c.in_ok-end.ensures in (
      record {
        is = rw (sym d.0, part-drop a.text.now 10 a.at a.to, name, c.read_times-times.ensures.is, c.read_repeater-repeats.ensures.is, w.is);
        within = omega arith;
      },
      (rw (part-drop a.text.now 10 a.at a.to, name, c.read_times-times.ensures.is) c.is_some.ensures, omega arith),
    )
