-- `dates::days::days_between` meets its contract: both day numbers are small, so their difference is an i32.
-- Assumes nothing.
use Rattle.std.proofs.Common.{◌≡◌, pos, sym, false}
use mathlib.Core.Bool.{and-false}
use mathlib.Core.Logic.{◌⊎◌, inl, inr}
use Rattle.text.specs.Number
use Rattle.dates.specs.Days.{is_calendar_day, number, days}
use Rattle.dates.specs.declared.stamp.Date.{Date}
use Rattle.dates.proofs.Laws.Signed.{difference}
use Rattle.dates.proofs.days.days_between.Goals as goal
use Rattle.dates.proofs.days.days_between.Goals.{then-not-is_calendar_day-via-then-not-is_calendar_day, then-not-is_calendar_day-via-else-not-is_calendar_day+then-not-is_calendar_day-2}

-- 11 and 0 where either is no calendar day
refused : (a b : Date) → (is_calendar_day a ≡ false) ⊎ (is_calendar_day b ≡ false) → (Number.no_day ≡ number a b) × (pos 0 ≡ days a b)
unfolding number days
refused a b (inl e) = (rw e, rw e)
refused a b (inr e) = (rw (e, and-false), rw (e, and-false))

pub returns-then-not-is_calendar_day : goal.returns-then-not-is_calendar_day
returns-then-not-is_calendar_day c = refused _ _ (elim c.then-not-is_calendar_day.branch [
  | then-not-is_calendar_day-via-then-not-is_calendar_day w ↦ inl (sym w.if-not-is_calendar_day.ensures)
  | then-not-is_calendar_day-via-else-not-is_calendar_day+then-not-is_calendar_day-2 w ↦ inr (sym w.if-not-is_calendar_day-2.ensures)
])

pub returns : goal.returns
unfolding number days
returns c =
    let e = sym c.if-not-is_calendar_day.ensures in
    let f = sym c.if-not-is_calendar_day-2.ensures in
    let b = c.day_number.ensures in
    let a = c.day_number-2.ensures in
    (rw (e, f), rw (e, f) (difference _ _ _ _ a.0 b.0 a.1 b.1))
