-- What makes a day's number believed: the calendar's own next day has the next number  [02 order 1].
use Rattle.std.specs.Prelude.{◌≡◌, ℕ, zero, suc, ◌+◌, ◌-◌, ◌≤◌, ltb}
use Rattle.dates.specs.Reads.{pick}
use Rattle.dates.specs.Days.{month_days, day_number, OpenDays}
use Rattle.dates.specs.Stamps.{date_of}
use Rattle.dates.specs.declared.stamp.Date.{Date}

-- by month lengths alone; after 31 December the next year
unfoldable pub next_day : Date → Date
next_day d =
    pick (ltb d.day (month_days d.year d.month)) (date_of d.year d.month (d.day + 1))
    (pick (ltb d.month 12) (date_of d.year (d.month + 1) 1) (date_of (d.year + 1) 1 1))

-- a day of the calendar, of any year from 1 on
pub record CalendarDay (d : Date) : Type 0 where
  pub year_from : 1 ≤ d.year
  pub month_from : 1 ≤ d.month
  pub month_to : d.month ≤ 12
  pub day_from : 1 ≤ d.day
  pub day_to : d.day ≤ month_days d.year d.month

-- the day after n steps
unfoldable pub after : ℕ → Date → Date
after zero d = d
after (suc n) d = after n (next_day d)

-- The first day has number 1, the next day the next number; so the days between a day and the one n steps on are n, and of two days the later is
-- as many steps on as their numbers differ.
pub record Counted : Type 0 where
  pub first : day_number (date_of 1 1 1) ≡ 1
  pub next : (d : Date) → CalendarDay d → CalendarDay (next_day d) × (day_number (next_day d) ≡ day_number d + 1)
  pub steps : (n : ℕ) (d : Date) → CalendarDay d → day_number (after n d) ≡ day_number d + n
  pub reached : (a b : Date) → CalendarDay a → CalendarDay b → day_number a ≤ day_number b → after (day_number b - day_number a) a ≡ b

-- opens the definitions of this file and of those it stands on
unfoldable pub OpenPromises : Type 1
unfolding OpenDays next_day after
OpenPromises = Type 0
