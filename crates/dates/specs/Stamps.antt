-- Timestamps  [02 order 1], part by part as source 001 writes the pattern: each part says what it reads and what follows it, or nothing where it
-- does not stand there. Only the shape is judged. One or more blank bytes stand between the parts, none next to a bracket.
-- `some` and `none` say whether a part is read, and `Some` and `None`, which are the code's, what may be missing in a timestamp.
use Rattle.std.specs.Prelude.{Bool, true, false, not, ◌&&◌, ◌||◌, List, [], ◌∷◌, ℕ, ◌+◌, leb, eqb, length, take, drop}
use Rattle.std.specs.Option.{is_some}
use Rattle.std.specs.declared.option.Option as Options
use Rattle.std.specs.declared.option.Option.TheVariants.{None, Some}
use Rattle.std.proofs.Math.Option.{none, some}
use Rattle.text.specs.Bytes.{is_digit, is_day_name_byte, is_hyphen, lower}
use Rattle.text.specs.Runs.{word, is_empty, run, after_run, begins}
use Rattle.dates.specs.Reads.{Read, pick, ◌then◌, expect, gap, shaped, value, OpenReads}
use Rattle.dates.specs.declared.stamp.Date.{Date}
use Rattle.dates.specs.declared.stamp.Time.{Time}
use Rattle.dates.specs.declared.stamp.Interval.{Interval}
use Rattle.dates.specs.declared.stamp.Mark.{Mark}
use Rattle.dates.specs.declared.stamp.Mark.TheVariants.{Cumulate, CatchUp, Restart}
use Rattle.dates.specs.declared.stamp.Repeat.{Repeat}
use Rattle.dates.specs.declared.stamp.Delay.{Delay}
use Rattle.dates.specs.declared.stamp.Repeater.{Repeater}
use Rattle.dates.specs.declared.stamp.Repeater.TheVariants as Repeaters
use Rattle.dates.specs.declared.stamp.Half.{Half}
use Rattle.dates.specs.declared.stamp.Bracket.{Bracket}
use Rattle.dates.specs.declared.stamp.Bracket.TheVariants.{Active, Inactive}
use Rattle.dates.specs.declared.stamp.Timestamp.{Timestamp}
use Rattle.dates.specs.declared.stamp.Timestamp.TheVariants.{Single, Times, Dates}

-- ---- date and time

-- `YYYY-MM-DD`
abbrev pub date_of : ℕ → ℕ → ℕ → Date
date_of y m d = record { year = y; month = m; day = d }

abbrev pub date_in : List ℕ → Date
date_in x = date_of (value (take 4 x)) (value (take 2 (drop 5 x))) (value (take 2 (drop 8 x)))

unfoldable pub date : List ℕ → Read Date
date x = pick (shaped (word "0000-00-00") x) (some (date_in x, drop 10 x)) none

-- optional day name, after blank bytes: one or more bytes; `.+` starts a repeater
unfoldable pub is_day_name : List ℕ → Bool
is_day_name x = not (is_empty (run is_day_name_byte x)) && not (begins x (word ".+"))

abbrev pub day_name_from : List ℕ → Read (Unit {0}) → List ℕ
day_name_from x none = x
day_name_from x (some r) = pick (is_day_name r.1) (after_run is_day_name_byte r.1) x

unfoldable pub after_day_name : List ℕ → List ℕ
after_day_name x = day_name_from x (gap x)

-- `HH:MM` or `H:MM`: an hour of n digits, a colon, two digits
abbrev pub time_of : ℕ → ℕ → Time
time_of h m = record { hour = h; minute = m }

unfoldable pub time_with : ℕ → List ℕ → Time
time_with n x = time_of (value (take n x)) (value (take 2 (drop (n + 1) x)))

unfoldable pub time : List ℕ → Read Time
time x =
    pick (shaped (word "00:00") x) (some (time_with 2 x, drop 5 x))
    (pick (shaped (word "0:00") x) (some (time_with 1 x, drop 4 x))
    none)

-- optional time or time range `TIME-TIME`, after blank bytes: the first time and the second
unfoldable pub first_time : List ℕ → Read Time
first_time x = gap x then λ u y. time y

unfoldable pub second_time : List ℕ → Read Time
second_time x = expect (word "-") x then λ u y. time y

-- a time, where there is one
abbrev pub Clock : Type 0
Clock = Options.Option Time

abbrev pub range_from : Time → List ℕ → Read Time → (Clock × Clock) × List ℕ
range_from t x none = ((Some t, None), x)
range_from t x (some r) = ((Some t, Some r.0), r.1)

abbrev pub times_from : List ℕ → Read Time → (Clock × Clock) × List ℕ
times_from x none = ((None, None), x)
times_from x (some r) = range_from r.0 r.1 (second_time r.1)

unfoldable pub times : List ℕ → (Clock × Clock) × List ℕ
times x = times_from x (first_time x)

-- ---- repeater and delay

-- one to nine digits and a unit of `h d w m y`, either case
unfoldable pub is_unit : ℕ → Bool
is_unit b = eqb b 100 || eqb b 104 || eqb b 109 || eqb b 119 || eqb b 121

abbrev pub interval_of : ℕ → ℕ → Interval
interval_of n u = record { count = n; unit = u }

unfoldable pub unit_after : ℕ → List ℕ → Read Interval
unit_after n [] = none
unit_after n (b ∷ x) = pick (is_unit (lower b)) (some (interval_of n (lower b), x)) none

unfoldable pub interval : List ℕ → Read Interval
interval x =
    let d = run is_digit x in
    pick (leb 1 (length d) && leb (length d) 9) (unit_after (value d) (after_run is_digit x)) none

-- Repeater: `++`, `+` or `.+`, an interval, and optionally `/` and an interval
unfoldable pub mark : List ℕ → Read Mark
mark x =
    pick (begins x (word "++")) (some (CatchUp, drop 2 x))
    (pick (begins x (word "+")) (some (Cumulate, drop 1 x))
    (pick (begins x (word ".+")) (some (Restart, drop 2 x))
    none))

abbrev pub repeat_of : Mark → Interval → Options.Option Interval → Repeat
repeat_of m i l = record { mark = m; every = i; limit = l }

abbrev pub limit_from : Mark → Interval → List ℕ → Read (Unit {0}) → Read Repeat
limit_from m i x none = some (repeat_of m i None, x)
limit_from m i x (some r) = interval r.1 then λ l y. some (repeat_of m i (Some l), y)

unfoldable pub repeat : List ℕ → Read Repeat
repeat x = gap x then λ u a. mark a then λ m b. interval b then λ i c. limit_from m i c (expect (word "/") c)

-- Delay: `-` or `--`, an interval
abbrev pub delay_of : Bool → Interval → Delay
delay_of f i = record { first = f; by = i }

unfoldable pub delay : List ℕ → Read Delay
delay x =
    gap x then λ u a.
    let n = length (run is_hyphen a) in
    pick (leb 1 n && leb n 2) (interval (after_run is_hyphen a) then λ i b. some (delay_of (eqb n 2) i, b)) none

-- optional repeater, delay, or both in either order, each after blank bytes
abbrev pub with_delay : Repeat → List ℕ → Read Delay → Options.Option Repeater × List ℕ
with_delay r x none = (Some (Repeaters.Repeats r), x)
with_delay r x (some d) = (Some (Repeaters.RepeatsDelays r d.0), d.1)

abbrev pub with_repeat : Delay → List ℕ → Read Repeat → Options.Option Repeater × List ℕ
with_repeat d x none = (Some (Repeaters.Delays d), x)
with_repeat d x (some r) = (Some (Repeaters.DelaysRepeats d r.0), r.1)

abbrev pub delay_first : List ℕ → Read Delay → Options.Option Repeater × List ℕ
delay_first x none = (None, x)
delay_first x (some d) = with_repeat d.0 d.1 (repeat d.1)

abbrev pub repeat_first : List ℕ → Read Repeat → Options.Option Repeater × List ℕ
repeat_first x none = delay_first x (delay x)
repeat_first x (some r) = with_delay r.0 r.1 (delay r.1)

unfoldable pub repeater : List ℕ → Options.Option Repeater × List ℕ
repeater x = repeat_first x (repeat x)

-- ---- a timestamp

-- what stands after an opening bracket, up to and with the closing one, c
abbrev pub half_of : Date → Clock × Clock → Options.Option Repeater → Half
half_of d t r = record { moment = record { date = d; clock = t.0 }; until = t.1; repeater = r }

unfoldable pub half : List ℕ → List ℕ → Read Half
half c x =
    date x then λ d a.
    let t = times (after_day_name a) in
    let r = repeater t.1 in
    expect c r.1 then λ u y. some (half_of d t.0 r.0, y)

-- one date, with a time range or without
abbrev pub alone_of : Bracket → Half → Clock → Timestamp
alone_of b h None = Single b h.moment h.repeater
alone_of b h (Some t) = Times b h.moment t h.repeater

abbrev pub alone : Bracket → Half → Timestamp
alone b h = alone_of b h h.until

-- a second date: `--` and the same bracket, o; neither half then has a time range
abbrev pub unless_range : Half → Read Half → Read Half
unless_range h r = pick (is_some h.until) none r

unfoldable pub second : List ℕ → List ℕ → List ℕ → Read Half
second o c x = expect o x then λ u y. half c y then λ g z. unless_range g (some (g, z))

unfoldable pub second_half : List ℕ → List ℕ → Half → List ℕ → Read Half
second_half o c h x = unless_range h (second o c x)

abbrev pub both : Bracket → Half → Half → Timestamp
both b h g = Dates b h.moment h.repeater g.moment g.repeater

abbrev pub dates_from : Bracket → Half → List ℕ → Read Half → Options.Option Timestamp × List ℕ
dates_from b h x none = (Some (alone b h), x)
dates_from b h x (some g) = (Some (both b h g.0), g.1)

abbrev pub stamp_from : Bracket → List ℕ → List ℕ → List ℕ → Read Half → Options.Option Timestamp × List ℕ
stamp_from b o c x none = (None, x)
stamp_from b o c x (some h) = dates_from b h.0 h.1 (second_half o c h.0 h.1)

unfoldable pub bracketed : Bracket → List ℕ → List ℕ → List ℕ → Options.Option Timestamp × List ℕ
bracketed b o c x = stamp_from b o c x (half c (drop 1 x))

-- `<` and `>` when active, `[` and `]` when not; else none
unfoldable pub timestamp : List ℕ → Options.Option Timestamp × List ℕ
timestamp x =
    pick (begins x (word "<")) (bracketed Active (word "--<") (word ">") x)
    (pick (begins x (word "[")) (bracketed Inactive (word "--[") (word "]") x)
    (None, x))

-- a timestamp, not none
abbrev pub is_stamp : Options.Option Timestamp → Bool
is_stamp None = false
is_stamp (Some t) = true

unfoldable pub stamp : List ℕ → Read (Options.Option Timestamp)
stamp x = let t = timestamp x in pick (is_stamp t.0) (some t) none

-- opens the definitions of this file and of those it stands on, for computed examples
unfoldable pub OpenStamps : Type 1
unfolding OpenReads date is_day_name after_day_name time_with time first_time second_time times is_unit unit_after interval mark repeat delay repeater half second second_half bracketed timestamp stamp
OpenStamps = Type 0
