-- Timestamps in the numbers of the C interface: what a timestamp lacks is 0.
use Rattle.std.specs.Prelude.{Bool, true, false, ℕ, ◌+◌}
use Rattle.std.specs.declared.option.Option.{Option as Maybe}
use Rattle.std.specs.declared.option.Option.TheVariants.{None, Some}
use Rattle.dates.specs.declared.stamp.Date.{Date}
use Rattle.dates.specs.declared.stamp.Time.{Time}
use Rattle.dates.specs.declared.stamp.Moment.{Moment}
use Rattle.dates.specs.declared.stamp.Interval.{Interval}
use Rattle.dates.specs.declared.stamp.Mark.{Mark}
use Rattle.dates.specs.declared.stamp.Mark.TheVariants.{Cumulate, CatchUp, Restart}
use Rattle.dates.specs.declared.stamp.Repeat.{Repeat}
use Rattle.dates.specs.declared.stamp.Delay.{Delay}
use Rattle.dates.specs.declared.stamp.Repeater.{Repeater}
use Rattle.dates.specs.declared.stamp.Repeater.TheVariants as Repeaters
use Rattle.dates.specs.declared.stamp.Bracket.{Bracket}
use Rattle.dates.specs.declared.stamp.Bracket.TheVariants.{Active, Inactive}
use Rattle.dates.specs.declared.stamp.Timestamp.{Timestamp}
use Rattle.dates.specs.declared.stamp.Timestamp.TheVariants.{Single, Times, Dates}
use Rattle.comaltzex.specs.declared.stamp.DateNumbers.{DateNumbers}
use Rattle.comaltzex.specs.declared.stamp.ClockNumbers.{ClockNumbers}
use Rattle.comaltzex.specs.declared.stamp.IntervalNumbers.{IntervalNumbers}
use Rattle.comaltzex.specs.declared.stamp.RepeatNumbers.{RepeatNumbers}
use Rattle.comaltzex.specs.declared.stamp.DelayNumbers.{DelayNumbers}
use Rattle.comaltzex.specs.declared.stamp.MomentNumbers.{MomentNumbers}
use Rattle.comaltzex.specs.declared.stamp.Stamp.{Stamp}

abbrev pub date_numbers : Date → DateNumbers
date_numbers d = record { year = d.year; month = d.month; day = d.day }

abbrev pub clock_numbers : Maybe Time → ClockNumbers
clock_numbers None = record { has = 0; hour = 0; minute = 0 }
clock_numbers (Some t) = record { has = 1; hour = t.hour; minute = t.minute }

abbrev pub mark_number : Mark → ℕ
mark_number Cumulate = 1
mark_number CatchUp = 2
mark_number Restart = 3

abbrev pub interval_numbers : Interval → IntervalNumbers
interval_numbers i = record { count = i.count; unit = i.unit }

abbrev pub no_interval : IntervalNumbers
no_interval = record { count = 0; unit = 0 }

abbrev pub limit_numbers : Maybe Interval → IntervalNumbers
limit_numbers None = no_interval
limit_numbers (Some i) = interval_numbers i

abbrev pub repeat_numbers : Repeat → RepeatNumbers
repeat_numbers r = record { mark = mark_number r.mark; every = interval_numbers r.every; within = limit_numbers r.limit }

abbrev pub no_repeat : RepeatNumbers
no_repeat = record { mark = 0; every = no_interval; within = no_interval }

-- `-` 1, `--` 2
abbrev pub first_number : Bool → ℕ
first_number false = 1
first_number true = 2

abbrev pub delay_numbers : Delay → DelayNumbers
delay_numbers d = record { mark = first_number d.first; by = interval_numbers d.by }

abbrev pub no_delay : DelayNumbers
no_delay = record { mark = 0; by = no_interval }

-- a date; the number n is 1 where both are there and the delay stands first
abbrev pub date_with : Moment → RepeatNumbers → DelayNumbers → ℕ → MomentNumbers
date_with m r d n = record { date = date_numbers m.date; clock = clock_numbers m.clock; repeat = r; delay = d; swapped = n }

abbrev pub moment_numbers : Moment → Maybe Repeater → MomentNumbers
moment_numbers m None = date_with m no_repeat no_delay 0
moment_numbers m (Some (Repeaters.Repeats r)) = date_with m (repeat_numbers r) no_delay 0
moment_numbers m (Some (Repeaters.Delays d)) = date_with m no_repeat (delay_numbers d) 0
moment_numbers m (Some (Repeaters.RepeatsDelays r d)) = date_with m (repeat_numbers r) (delay_numbers d) 0
moment_numbers m (Some (Repeaters.DelaysRepeats d r)) = date_with m (repeat_numbers r) (delay_numbers d) 1

abbrev pub no_moment : MomentNumbers
no_moment =
    record {
      date = record { year = 0; month = 0; day = 0 };
      clock = record { has = 0; hour = 0; minute = 0 };
      repeat = no_repeat;
      delay = no_delay;
      swapped = 0;
    }

-- the kinds 1, 2 and 3 when active, 4, 5 and 6 when not; 0 for none
abbrev pub kind_number : Bracket → ℕ → ℕ
kind_number Active k = k
kind_number Inactive k = k + 3

abbrev pub stamp_of : ℕ → MomentNumbers → MomentNumbers → Stamp
stamp_of k a b = record { kind = k; first = a; second = b }

-- a time range's second date is its date again, with the second time
abbrev pub until_at : Moment → Time → Moment
until_at m t = record { date = m.date; clock = Some t }

abbrev pub stamp_numbers : Maybe Timestamp → Stamp
stamp_numbers None = stamp_of 0 no_moment no_moment
stamp_numbers (Some (Single b m r)) = stamp_of (kind_number b 1) (moment_numbers m r) no_moment
stamp_numbers (Some (Times b m t r)) = stamp_of (kind_number b 2) (moment_numbers m r) (moment_numbers (until_at m t) None)
stamp_numbers (Some (Dates b m r n q)) = stamp_of (kind_number b 3) (moment_numbers m r) (moment_numbers n q)
