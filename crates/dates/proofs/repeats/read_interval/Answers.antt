-- `dates::repeats::read_interval` meets its contract, by a law for each way out.
-- Assumes nothing.
use Rattle.std.proofs.Common.{sym, ◌∙◌, arith}
use Rattle.dates.proofs.Laws.Stamps.{interval-few, interval-many, interval-end, interval-unit}
use Rattle.dates.proofs.repeats.read_interval.Goals as goal

pub returns-then-end-at : goal.returns-then-end-at
returns-then-end-at c =
    let r = c.requires in
    record { is = interval-few _ _ _ r.0 r.1 _ c.run_end-end.ensures (omega arith); within = tt }

pub returns-then-end-at-gt-DIGITS : goal.returns-then-end-at-gt-DIGITS
returns-then-end-at-gt-DIGITS c =
    let r = c.requires in
    record { is = interval-many _ _ _ r.0 r.1 _ c.run_end-end.ensures (omega arith); within = tt }

pub returns-then-to-end : goal.returns-then-to-end
returns-then-to-end c =
    let r = c.requires in
    record { is = interval-end _ _ _ r.0 r.1 _ c.run_end-end.ensures (λ e. omega arith) (omega arith) c.if-to-end.true; within = tt }

pub returns-then-not-is_unit : goal.returns-then-not-is_unit
returns-then-not-is_unit c =
    let r = c.requires in
    let u = interval-unit _ _ _ r.0 r.1 _ c.run_end-end.ensures c.if-end-at.false c.if-end-at-gt-DIGITS.false c.if-to-end.false in
    record { is = u ∙ rw (sym c.lower-unit.ensures, sym c.if-not-is_unit.ensures); within = tt }

pub returns : goal.returns
returns c =
    let r = c.requires in
    let u = interval-unit _ _ _ r.0 r.1 _ c.run_end-end.ensures c.if-end-at.false c.if-end-at-gt-DIGITS.false c.if-to-end.false in
    record {
      is = u ∙ rw (sym c.lower-unit.ensures, sym c.if-not-is_unit.ensures, c.digits_value.ensures);
      within = omega arith;
    }
