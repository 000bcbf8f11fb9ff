-- Timestamps  [02 order 1]: the smallest readings, which bytes are a timestamp, and what a timestamp holds.
use Rattle.std.specs.Prelude.{Bool, false, not, List, [], ◌∷◌, ◌++◌, map, ℕ, length}
use Rattle.std.specs.declared.option.Option as Options
use Rattle.std.specs.declared.option.Option.TheVariants.{None, Some}
use Rattle.std.proofs.Math.Option.{none, some}
use Prim.Native.String.{String}
use Rattle.text.specs.Runs.{word, is_empty}
use Rattle.text.specs.Cases.{Case, case, ◌holds◌fails◌, below, OpenCases}
use Rattle.dates.specs.Reads.{Read, pick, expect, gap, fits, shaped, digit, value}
use Rattle.dates.specs.Stamps.{Clock, date, is_day_name, after_day_name, time, times, is_unit, interval, mark, repeat, delay, repeater, timestamp, stamp, OpenStamps}
use Rattle.dates.specs.declared.stamp.Date.{Date}
use Rattle.dates.specs.declared.stamp.Time.{Time}
use Rattle.dates.specs.declared.stamp.Moment.{Moment}
use Rattle.dates.specs.declared.stamp.Interval.{Interval}
use Rattle.dates.specs.declared.stamp.Mark.{Mark}
use Rattle.dates.specs.declared.stamp.Mark.TheVariants.{Cumulate, CatchUp, Restart}
use Rattle.dates.specs.declared.stamp.Repeat.{Repeat}
use Rattle.dates.specs.declared.stamp.Delay.{Delay}
use Rattle.dates.specs.declared.stamp.Repeater.{Repeater}
use Rattle.dates.specs.declared.stamp.Repeater.TheVariants as Repeaters
use Rattle.dates.specs.declared.stamp.Bracket.{Bracket}
use Rattle.dates.specs.declared.stamp.Bracket.TheVariants.{Active, Inactive}
use Rattle.dates.specs.declared.stamp.Timestamp.{Timestamp}
use Rattle.dates.specs.declared.stamp.Timestamp.TheVariants.{Single, Times, Dates}

-- ---- a timestamp as numbers

unfoldable pub of_date : Date → List ℕ
of_date d = d.year ∷ d.month ∷ d.day ∷ []

unfoldable pub of_time : Time → List ℕ
of_time t = t.hour ∷ t.minute ∷ []

-- 0, or 1 and the time
unfoldable pub of_clock : Clock → List ℕ
unfolding of_time
of_clock None = 0 ∷ []
of_clock (Some t) = 1 ∷ of_time t

unfoldable pub of_moment : Moment → List ℕ
unfolding of_date of_clock
of_moment m = of_date m.date ++ of_clock m.clock

-- the unit is its small letter: 100 `d`, 104 `h`, 109 `m`, 119 `w`, 121 `y`
unfoldable pub of_interval : Interval → List ℕ
of_interval i = i.count ∷ i.unit ∷ []

-- 1 `+`, 2 `++`, 3 `.+`
unfoldable pub of_mark : Mark → List ℕ
of_mark Cumulate = 1 ∷ []
of_mark CatchUp = 2 ∷ []
of_mark Restart = 3 ∷ []

-- 0, or 1 and the interval
unfoldable pub of_limit : Options.Option Interval → List ℕ
unfolding of_interval
of_limit None = 0 ∷ []
of_limit (Some i) = 1 ∷ of_interval i

unfoldable pub of_repeat : Repeat → List ℕ
unfolding of_mark of_interval of_limit
of_repeat r = of_mark r.mark ++ of_interval r.every ++ of_limit r.limit

-- 1 `-`, 2 `--`
unfoldable pub of_delay : Delay → List ℕ
unfolding of_interval
of_delay d = pick d.first 2 1 ∷ of_interval d.by

-- 0 neither, 1 a repeater, 2 a delay, 3 a repeater and a delay, 4 a delay and a repeater
unfoldable pub of_repeater : Options.Option Repeater → List ℕ
unfolding of_repeat of_delay
of_repeater None = 0 ∷ []
of_repeater (Some (Repeaters.Repeats r)) = 1 ∷ of_repeat r
of_repeater (Some (Repeaters.Delays d)) = 2 ∷ of_delay d
of_repeater (Some (Repeaters.RepeatsDelays r d)) = 3 ∷ of_repeat r ++ of_delay d
of_repeater (Some (Repeaters.DelaysRepeats d r)) = 4 ∷ of_delay d ++ of_repeat r

-- 1 active, 2 inactive
unfoldable pub of_bracket : Bracket → ℕ
of_bracket Active = 1
of_bracket Inactive = 2

-- 0 none, 1 of one date, 2 with a time range, 3 with a second date
unfoldable pub of_stamp : Options.Option Timestamp → List ℕ
unfolding of_bracket of_moment of_repeater
of_stamp None = 0 ∷ []
of_stamp (Some (Single b m r)) = 1 ∷ of_bracket b ∷ of_moment m ++ of_repeater r
of_stamp (Some (Times b m t r)) = 2 ∷ of_bracket b ∷ of_moment m ++ of_time t ++ of_repeater r
of_stamp (Some (Dates b m r n q)) = 3 ∷ of_bracket b ∷ of_moment m ++ of_repeater r ++ of_moment n ++ of_repeater q

-- ---- the smallest readings

-- what is read, in numbers, and how many bytes follow it; no numbers where nothing is read
unfoldable pub of_read : {A : Type 0} → (A → List ℕ) → Read A → List ℕ
of_read f none = []
of_read f (some r) = f r.0 ++ (length r.1 ∷ [])

unfoldable pub read_case : {A : Type 0} → (List ℕ → Read A) → (A → List ℕ) → String → List ℕ → Case
unfolding of_read
read_case f g w ns = case w (of_read g (f (word w))) ns

unfoldable pub expect_case : String → List ℕ → Case
unfolding read_case
expect_case w ns = read_case (expect (word "a-")) (λ u. []) w ns

unfoldable pub gap_case : String → List ℕ → Case
unfolding read_case
gap_case w ns = read_case gap (λ u. []) w ns

unfoldable pub value_case : String → ℕ → Case
value_case w n = case w (value (word w) ∷ []) (n ∷ [])

unfoldable pub small_cases : List Case
small_cases =
    expect_case "a-" (0 ∷ [])
    ∷ expect_case "a-b" (1 ∷ [])
    ∷ expect_case "A- b" (2 ∷ [])
    ∷ expect_case "a" []
    ∷ expect_case "" []
    ∷ expect_case "-a" []
    ∷ expect_case " a-" []
    ∷ expect_case "a b" []
    ∷ gap_case " " (0 ∷ [])
    ∷ gap_case "\t" (0 ∷ [])
    ∷ gap_case "\r" (0 ∷ [])
    ∷ gap_case " x" (1 ∷ [])
    ∷ gap_case " \t\r \r\tx y" (3 ∷ [])
    ∷ gap_case " \nx" (2 ∷ [])
    ∷ gap_case "" []
    ∷ gap_case "x " []
    ∷ gap_case "\nx" []
    ∷ value_case "" 0
    ∷ value_case "0" 0
    ∷ value_case "7" 7
    ∷ value_case "19" 19
    ∷ value_case "91" 91
    ∷ value_case "0123" 123
    ∷ value_case "1000" 1000
    ∷ value_case "987654321" 987654321
    ∷ value_case "999999999" 999999999
    ∷ value_case "x" 0
    ∷ value_case "1x2" 102
    ∷ value_case ":9" 9
    ∷ value_case "9/" 90
    ∷ case "values" (map digit (word "0123456789/:x")) (0 ∷ 1 ∷ 2 ∷ 3 ∷ 4 ∷ 5 ∷ 6 ∷ 7 ∷ 8 ∷ 9 ∷ 0 ∷ 0 ∷ 0 ∷ [])
    ∷ case "digits" (below 256 (fits 48) []) (word "0123456789")
    ∷ case "hyphen" (below 256 (fits 45) []) (word "-")
    ∷ case "colon" (below 256 (fits 58) []) (word ":")
    ∷ case "another digit" (below 256 (fits 49) []) (word "1")
    ∷ case "units" (below 256 is_unit []) (word "dhmwy")
    ∷ []

unfoldable pub shape_cases : List Case
shape_cases =
    (shaped (word "0:00")) holds
    ("0:00" ∷ "1:23" ∷ "9:99" ∷ "1:23 x" ∷ "1:234" ∷ [])
    fails
    ("" ∷ "1" ∷ "1:" ∷ "1:2" ∷ "x:23" ∷ "1:x3" ∷ "1:2x" ∷ "1-23" ∷ "12:34" ∷ ":123" ∷ " 1:23" ∷ "/:00" ∷ "::00" ∷ [])
    ++ (shaped (word "")) holds
    ("" ∷ "x" ∷ [])
    fails
    []
    ++ is_day_name holds
    ("Mon" ∷ "M" ∷ "." ∷ ".." ∷ ".x+" ∷ "x.+" ∷ "Mon+" ∷ "Mon 9" ∷ "x1" ∷ ". +" ∷ [])
    fails
    ("" ∷ " Mon" ∷ "1" ∷ "+" ∷ "-" ∷ "]" ∷ ">" ∷ "\n" ∷ "\t" ∷ "\r" ∷ ".+" ∷ ".+1d" ∷ ".+x" ∷ [])

unfoldable pub day_name_case : String → ℕ → Case
day_name_case w n = case w (length (after_day_name (word w)) ∷ []) (n ∷ [])

unfoldable pub times_case : String → List ℕ → Case
unfolding read_case
times_case w ns = read_case (λ x. some (times x)) (λ t. of_clock t.0 ++ of_clock t.1) w ns

unfoldable pub repeater_case : String → List ℕ → Case
unfolding read_case
repeater_case w ns = read_case (λ x. some (repeater x)) of_repeater w ns

unfoldable pub part_cases : List Case
part_cases =
    read_case date of_date "2026-11-16" (2026 ∷ 11 ∷ 16 ∷ 0 ∷ [])
    ∷ read_case date of_date "0123-45-67 x" (123 ∷ 45 ∷ 67 ∷ 2 ∷ [])
    ∷ read_case date of_date "2026-11-160" (2026 ∷ 11 ∷ 16 ∷ 1 ∷ [])
    ∷ read_case date of_date "2026-11-1" []
    ∷ read_case date of_date "2026-11-" []
    ∷ read_case date of_date "" []
    ∷ read_case date of_date " 2026-11-16" []
    ∷ day_name_case "" 0
    ∷ day_name_case " Mon" 0
    ∷ day_name_case " Mon 9:30" 5
    ∷ day_name_case " Mon+" 1
    ∷ day_name_case " \t\rMon\tx" 2
    ∷ day_name_case "Mon" 3
    ∷ day_name_case " 9:30" 5
    ∷ day_name_case " .+1d" 5
    ∷ day_name_case " .x" 0
    ∷ day_name_case " " 1
    ∷ day_name_case " ]" 2
    ∷ read_case time of_time "09:30" (9 ∷ 30 ∷ 0 ∷ [])
    ∷ read_case time of_time "9:30" (9 ∷ 30 ∷ 0 ∷ [])
    ∷ read_case time of_time "12:345" (12 ∷ 34 ∷ 1 ∷ [])
    ∷ read_case time of_time "1:23:45" (1 ∷ 23 ∷ 3 ∷ [])
    ∷ read_case time of_time "123:45" []
    ∷ read_case time of_time "9:3" []
    ∷ read_case time of_time "" []
    ∷ read_case time of_time " 9:30" []
    ∷ times_case "" (0 ∷ 0 ∷ 0 ∷ [])
    ∷ times_case " 9:30" (1 ∷ 9 ∷ 30 ∷ 0 ∷ 0 ∷ [])
    ∷ times_case " 9:30-10:45" (1 ∷ 9 ∷ 30 ∷ 1 ∷ 10 ∷ 45 ∷ 0 ∷ [])
    ∷ times_case " \t\r9:30-10:45-" (1 ∷ 9 ∷ 30 ∷ 1 ∷ 10 ∷ 45 ∷ 1 ∷ [])
    ∷ times_case " 9:30-" (1 ∷ 9 ∷ 30 ∷ 0 ∷ 1 ∷ [])
    ∷ times_case " 9:30-x" (1 ∷ 9 ∷ 30 ∷ 0 ∷ 2 ∷ [])
    ∷ times_case " 9:30--1d" (1 ∷ 9 ∷ 30 ∷ 0 ∷ 4 ∷ [])
    ∷ times_case " 9:30 -10:45" (1 ∷ 9 ∷ 30 ∷ 0 ∷ 7 ∷ [])
    ∷ times_case "9:30" (0 ∷ 0 ∷ 4 ∷ [])
    ∷ times_case " x" (0 ∷ 0 ∷ 2 ∷ [])
    ∷ times_case " " (0 ∷ 0 ∷ 1 ∷ [])
    ∷ read_case interval of_interval "1d" (1 ∷ 100 ∷ 0 ∷ [])
    ∷ read_case interval of_interval "12Hx" (12 ∷ 104 ∷ 1 ∷ [])
    ∷ read_case interval of_interval "0m" (0 ∷ 109 ∷ 0 ∷ [])
    ∷ read_case interval of_interval "007W " (7 ∷ 119 ∷ 1 ∷ [])
    ∷ read_case interval of_interval "123456789Y" (123456789 ∷ 121 ∷ 0 ∷ [])
    ∷ read_case interval of_interval "1234567890y" []
    ∷ read_case interval of_interval "1" []
    ∷ read_case interval of_interval "" []
    ∷ read_case interval of_interval "d" []
    ∷ read_case interval of_interval "1s" []
    ∷ read_case interval of_interval "1 d" []
    ∷ read_case interval of_interval "+1d" []
    ∷ read_case mark of_mark "+" (1 ∷ 0 ∷ [])
    ∷ read_case mark of_mark "++" (2 ∷ 0 ∷ [])
    ∷ read_case mark of_mark ".+" (3 ∷ 0 ∷ [])
    ∷ read_case mark of_mark "+1" (1 ∷ 1 ∷ [])
    ∷ read_case mark of_mark "+++" (2 ∷ 1 ∷ [])
    ∷ read_case mark of_mark ".++" (3 ∷ 1 ∷ [])
    ∷ read_case mark of_mark "+.+" (1 ∷ 2 ∷ [])
    ∷ read_case mark of_mark "" []
    ∷ read_case mark of_mark "." []
    ∷ read_case mark of_mark "..+" []
    ∷ read_case mark of_mark "-" []
    ∷ read_case mark of_mark " +" []
    ∷ read_case repeat of_repeat " +1d" (1 ∷ 1 ∷ 100 ∷ 0 ∷ 0 ∷ [])
    ∷ read_case repeat of_repeat " ++1d/2w" (2 ∷ 1 ∷ 100 ∷ 1 ∷ 2 ∷ 119 ∷ 0 ∷ [])
    ∷ read_case repeat of_repeat "\t\r.+1d -1d" (3 ∷ 1 ∷ 100 ∷ 0 ∷ 4 ∷ [])
    ∷ read_case repeat of_repeat "+1d" []
    ∷ read_case repeat of_repeat " 1d" []
    ∷ read_case repeat of_repeat " +d" []
    ∷ read_case repeat of_repeat " -1d" []
    ∷ read_case repeat of_repeat " +1d/" []
    ∷ read_case repeat of_repeat " +1d/2" []
    ∷ read_case repeat of_repeat "" []
    ∷ read_case delay of_delay " -1d" (1 ∷ 1 ∷ 100 ∷ 0 ∷ [])
    ∷ read_case delay of_delay " --1d" (2 ∷ 1 ∷ 100 ∷ 0 ∷ [])
    ∷ read_case delay of_delay "\t\r-1d/2d" (1 ∷ 1 ∷ 100 ∷ 3 ∷ [])
    ∷ read_case delay of_delay "-1d" []
    ∷ read_case delay of_delay " 1d" []
    ∷ read_case delay of_delay " ---1d" []
    ∷ read_case delay of_delay " -d" []
    ∷ read_case delay of_delay " +1d" []
    ∷ read_case delay of_delay " - 1d" []
    ∷ read_case delay of_delay "" []
    ∷ repeater_case "" (0 ∷ 0 ∷ [])
    ∷ repeater_case " +1d" (1 ∷ 1 ∷ 1 ∷ 100 ∷ 0 ∷ 0 ∷ [])
    ∷ repeater_case " -1d" (2 ∷ 1 ∷ 1 ∷ 100 ∷ 0 ∷ [])
    ∷ repeater_case " +1d -2w" (3 ∷ 1 ∷ 1 ∷ 100 ∷ 0 ∷ 1 ∷ 2 ∷ 119 ∷ 0 ∷ [])
    ∷ repeater_case " -2w +1d" (4 ∷ 1 ∷ 2 ∷ 119 ∷ 1 ∷ 1 ∷ 100 ∷ 0 ∷ 0 ∷ [])
    ∷ repeater_case " +1d +1d" (1 ∷ 1 ∷ 1 ∷ 100 ∷ 0 ∷ 4 ∷ [])
    ∷ repeater_case " -1d -1d" (2 ∷ 1 ∷ 1 ∷ 100 ∷ 4 ∷ [])
    ∷ repeater_case " +1d -1d +1d" (3 ∷ 1 ∷ 1 ∷ 100 ∷ 0 ∷ 1 ∷ 1 ∷ 100 ∷ 4 ∷ [])
    ∷ repeater_case " +1d-1d" (1 ∷ 1 ∷ 1 ∷ 100 ∷ 0 ∷ 3 ∷ [])
    ∷ repeater_case " x" (0 ∷ 2 ∷ [])
    ∷ []

-- ---- which bytes are a timestamp, with nothing after it

unfoldable pub is_whole : Read (Options.Option Timestamp) → Bool
is_whole none = false
is_whole (some r) = is_empty r.1

unfoldable pub whole : List ℕ → Bool
unfolding is_whole
whole x = is_whole (stamp x)

-- what stands between the date and the closing bracket
unfoldable pub dated : List ℕ → Bool
unfolding whole
dated x = whole (word "<2026-11-16" ++ x ++ word ">")

unfoldable pub bracket_cases : List Case
bracket_cases =
    whole holds
    ("<2026-11-16>" ∷ "[2026-11-16]" ∷ "<0000-99-00>" ∷ "[2026-02-30]" ∷ "<9999-12-31>" ∷ [])
    fails
    ("" ∷ "<" ∷ "<>" ∷ "2026-11-16" ∷ "2026-11-16>" ∷ "<2026-11-16" ∷ "<2026-11-16]" ∷ "[2026-11-16>" ∷ "(2026-11-16)" ∷ "{2026-11-16}"
    ∷ "< 2026-11-16>" ∷ "<\t2026-11-16>" ∷ "<\r2026-11-16>" ∷ "<\n2026-11-16>" ∷ "<2026-11-16 >" ∷ "<2026-11-16\t>" ∷ "<2026-11-16\r>"
    ∷ "<2026-11-16\n>" ∷ " <2026-11-16>" ∷ "<2026-11-16> " ∷ "<2026-11-16>x" ∷ "<<2026-11-16>" ∷ "<2026-11-16>>" ∷ "<%%(diary-float t 4 2)>"
    ∷ "<%%(x)>" ∷ [])

unfoldable pub date_cases : List Case
date_cases =
    whole holds
    ("<1234-56-78>" ∷ "<0000-00-00>" ∷ "<9999-99-99>" ∷ [])
    fails
    ("<226-11-16>" ∷ "<02026-11-16>" ∷ "<2026-1-16>" ∷ "<2026-011-16>" ∷ "<2026-11-6>" ∷ "<2026-11-016>" ∷ "<x026-11-16>" ∷ "<2x26-11-16>"
    ∷ "<20x6-11-16>" ∷ "<202x-11-16>" ∷ "<2026-x1-16>" ∷ "<2026-1x-16>" ∷ "<2026-11-x6>" ∷ "<2026-11-1x>" ∷ "<2026/11-16>" ∷ "<2026-11/16>"
    ∷ "<2026:11-16>" ∷ "<2026-11:16>" ∷ "<2026 11 16>" ∷ "<20261116>" ∷ "<2026011016>" ∷ "<+226-11-16>" ∷ "<16-11-2026>" ∷ [])

unfoldable pub name_cases : List Case
name_cases =
    dated holds
    (" Mon" ∷ "  Mon" ∷ "\tMon" ∷ "\rMon" ∷ " \t\r Mon" ∷ " M" ∷ " ." ∷ " .." ∷ " .x" ∷ " x." ∷ " :/*!" ∷ " <[" ∷ " Mån" ∷ " \u{80}ÿ"
    ∷ " \u{a0}" ∷ [])
    fails
    ("Mon" ∷ " Mon " ∷ " Mon Tue" ∷ " Mo1" ∷ " 1Mo" ∷ " 1" ∷ " Mo+" ∷ " +Mo" ∷ " +" ∷ " Mo-n" ∷ " -Mo" ∷ " -" ∷ " Mo]" ∷ " ]" ∷ " Mo>n" ∷ " Mo\nn"
    ∷ " \n" ∷ "\nMon" ∷ " \nMon" ∷ " .+" ∷ " .+x" ∷ " .+." ∷ [])
    ++ whole holds
    ("[2026-11-16 Mon]" ∷ [])
    fails
    ("[2026-11-16 Mo>]" ∷ "[2026-11-16 >]" ∷ "[2026-11-16 Mo]n]" ∷ [])

unfoldable pub time_cases : List Case
time_cases =
    dated holds
    (" 9:30" ∷ " 09:30" ∷ "\t9:30" ∷ " \r \t9:30" ∷ " Mon 9:30" ∷ " Mon\t\r9:30" ∷ " 0:00" ∷ " 00:00" ∷ " 99:77" ∷ " . 9:30" ∷ [])
    fails
    ("9:30" ∷ " :30" ∷ " 123:30" ∷ " 9:3" ∷ " 9:" ∷ " 9:300" ∷ " 09:300" ∷ " 9" ∷ " 09" ∷ " 930" ∷ " 9.30" ∷ " 9;30" ∷ " 09-30" ∷ " 9 :30" ∷ " 9: 30"
    ∷ " 9:30 " ∷ " 9:30 Mon" ∷ " Mon9:30" ∷ " 9:30 9:30" ∷ " x9:30" ∷ " x:30" ∷ " 1x:30" ∷ " 9:x0" ∷ " 9:3x" ∷ " 12:x0" ∷ " 12:3x" ∷ " 9:30x"
    ∷ " +9:30" ∷ [])
    ++ whole holds
    ("[2026-11-16 9:30]" ∷ [])
    fails
    []

unfoldable pub range_cases : List Case
range_cases =
    dated holds
    (" 9:30-10:00" ∷ " 10:00-9:30" ∷ " 9:30-9:30" ∷ " 9:30-10:00 +1d" ∷ " 9:30-10:00 -1d" ∷ " 9:30-99:77" ∷ [])
    fails
    (" 9:30-" ∷ " -10:00" ∷ " 9:30-10" ∷ " 9:30-10:" ∷ " 9:30-10:0" ∷ " 9:30-:00" ∷ " 9:30-100:00" ∷ " 9:30-10:000" ∷ " 9:30--10:00" ∷ " 9:30 -10:00"
    ∷ " 9:30- 10:00" ∷ " 9:30 - 10:00" ∷ " 9:30-10:00-11:00" ∷ " 9:3010:00" ∷ " 9:30+10:00" ∷ " 9:30_10:00" ∷ " 9:30-Mon" ∷ " 9:30-1d"
    ∷ " 9:30-10:00+1d" ∷ [])
    ++ whole holds
    ("[2026-11-16 Mon 09:30-11:15]" ∷ [])
    fails
    []

unfoldable pub repeater_cases : List Case
repeater_cases =
    dated holds
    (" +1d" ∷ " ++1d" ∷ " .+1d" ∷ "\t+1d" ∷ " \r\t++1d" ∷ "\r.+1d" ∷ " Mon +1d" ∷ " 9:30 +1d" ∷ " Mon .+1d" ∷ " . +1d" ∷ " Mon 9:30 .+1d" ∷ " +0d"
    ∷ " +000000001d" ∷ " +123456789d" ∷ " +1d/2d" ∷ " .+1D/123456789Y" ∷ [])
    fails
    ("+1d" ∷ ".+1d" ∷ " Mon+1d" ∷ " Mon.+1d" ∷ " 9:30+1d" ∷ " +d" ∷ " +1" ∷ " +" ∷ " 1d" ∷ " *1d" ∷ " +1x" ∷ " +1s" ∷ " +1 d" ∷ " + 1d" ∷ " +1dd"
    ∷ " +1d2d" ∷ " +d1" ∷ " +1234567890d" ∷ " +0000000001d" ∷ " ++1234567890d" ∷ " .+1234567890d" ∷ " +++1d" ∷ " ..+1d" ∷ " .++1d" ∷ " +.1d"
    ∷ " .1d" ∷ " . 1d" ∷ " x.+1d" ∷ " +\n1d" ∷ " +1d/" ∷ " +1d/2" ∷ " +1d/d" ∷ " +1d/2s" ∷ " +1d/1234567890d" ∷ " +1d//2d" ∷ " +1d/+2d"
    ∷ " +1d/2d/3d" ∷ " +1d /2d" ∷ " +1d/ 2d" ∷ " +1d:2d" ∷ " +1d " ∷ " +1d\t" ∷ " +1d 9:30" ∷ " +1d Mon" ∷ " +1d +1d" ∷ " +1d ++1d" ∷ " .+1d .+1d"
    ∷ [])
    ++ whole holds
    ("[2026-11-16 ++1h/1h]" ∷ [])
    fails
    []

unfoldable pub delay_cases : List Case
delay_cases =
    dated holds
    (" -1d" ∷ " --1d" ∷ "\t-1d" ∷ " \r\t--1d" ∷ " Mon -1d" ∷ " 9:30 -1d" ∷ " Mon 9:30-10:00 --1d" ∷ " -0d" ∷ " --123456789H" ∷ " -000000001y" ∷ [])
    fails
    ("-1d" ∷ "--1d" ∷ " Mon-1d" ∷ " Mon--1d" ∷ " ---1d" ∷ " ----1d" ∷ " -d" ∷ " -1" ∷ " -" ∷ " --" ∷ " _1d" ∷ " -1x" ∷ " -1s" ∷ " -1 d" ∷ " - 1d"
    ∷ " -- 1d" ∷ " - -1d" ∷ " -1234567890d" ∷ " --1234567890d" ∷ " -+1d" ∷ " +-1d" ∷ " -.+1d" ∷ " -1d/2d" ∷ " -1d " ∷ " -1d 9:30" ∷ " -1d Mon"
    ∷ " -1d -1d" ∷ " -1d --1d" ∷ " --1d -1d" ∷ [])
    ++ whole holds
    ("[2026-11-16 -1w]" ∷ [])
    fails
    []

unfoldable pub both_cases : List Case
both_cases =
    dated holds
    (" +1d -1d" ∷ " -1d +1d" ∷ " ++1d --1d" ∷ " --1d .+1d/2d" ∷ " +1d/2d -1d" ∷ " +1d\t-1d" ∷ " -1d \r+1d" ∷ " Mon 9:30 +1d -1d"
    ∷ " 9:30-10:00 -1d +1d" ∷ [])
    fails
    (" +1d-1d" ∷ " -1d+1d" ∷ " -1d.+1d" ∷ " +1d -1d " ∷ " -1d +1d " ∷ " +1d -1d +1d" ∷ " -1d +1d -1d" ∷ " +1d +1d -1d" ∷ " +1d -1d -1d"
    ∷ " -1d -1d +1d" ∷ " -1d +1d +1d" ∷ " +1d - 1d" ∷ " -1d + 1d" ∷ " +1d -1" ∷ " -1d +1" ∷ " +1d ---1d" ∷ " -1d +1d/" ∷ " +1d Mon -1d"
    ∷ " -1d 9:30 +1d" ∷ [])

unfoldable pub second_cases : List Case
second_cases =
    whole holds
    ("<2026-11-16>--<2026-11-17>" ∷ "[2026-11-16]--[2026-11-17]" ∷ "<2026-11-17>--<2026-11-16>" ∷ "<2026-11-16 9:30>--<2026-11-17>"
    ∷ "<2026-11-16>--<2026-11-17 9:30>" ∷ "[2026-11-16 Mon 9:30 +1d]--[2026-11-17 Tue 10:00 -1d]" ∷ "<2026-11-16 +1d -1d>--<2026-11-17 -1d +1d>"
    ∷ [])
    fails
    ("<2026-11-16>-<2026-11-17>" ∷ "<2026-11-16>---<2026-11-17>" ∷ "<2026-11-16><2026-11-17>" ∷ "<2026-11-16>__<2026-11-17>"
    ∷ "<2026-11-16>- <2026-11-17>" ∷ "<2026-11-16> --<2026-11-17>" ∷ "<2026-11-16>-- <2026-11-17>" ∷ "<2026-11-16>- -<2026-11-17>"
    ∷ "<2026-11-16>--[2026-11-17]" ∷ "[2026-11-16]--<2026-11-17>" ∷ "<2026-11-16]--<2026-11-17>" ∷ "[2026-11-16>--[2026-11-17]"
    ∷ "<2026-11-16>--<2026-11-17]" ∷ "[2026-11-16]--[2026-11-17>" ∷ "<2026-11-16>--<2026-11-17" ∷ "<2026-11-16>--2026-11-17>"
    ∷ "<2026-11-16>--<2026-11-1>" ∷ "<2026-11-16>--" ∷ "<2026-11-16>--<" ∷ "<2026-11-16>--<>" ∷ "<2026-11-16>--<2026-11-17>>"
    ∷ "<2026-11-16>--<2026-11-17>--<2026-11-16>" ∷ "<2026-11-16>--< 2026-11-17>" ∷ "<2026-11-16>--<2026-11-17 >" ∷ "<2026-11-16>--<%%(x)>"
    ∷ "<2026-11-16 9:30-10:00>--<2026-11-17>" ∷ "<2026-11-16>--<2026-11-17 9:30-10:00>" ∷ "<2026-11-16 9:30-10:00>--<2026-11-17 9:30-10:00>"
    ∷ "[2026-11-16 9:30-10:00]--[2026-11-17 9:30]" ∷ [])

-- the bytes that may stand between two others after the date
unfoldable pub bytes_in : String → String → List ℕ
unfolding dated
bytes_in w v = below 256 (λ b. dated (word w ++ (b ∷ word v))) []

unfoldable pub byte_cases : List Case
byte_cases =
    case "before a name" (bytes_in "" "Mon") (9 ∷ 13 ∷ 32 ∷ [])
    ∷ case "in no name" (below 256 (λ b. not (dated (word " M" ++ (b ∷ word "n")))) []) (9 ∷ 10 ∷ 13 ∷ word " +-0123456789>]")
    ∷ case "in a time" (bytes_in " 9" "30") (word ":")
    ∷ case "a digit of a time" (bytes_in " 9:3" "") (word "0123456789")
    ∷ case "in a time range" (bytes_in " 9:30" "10:00") (word "-")
    ∷ case "a mark" (bytes_in " " "1d") (word "+-")
    ∷ case "a unit" (bytes_in " +1" "") (word "DHMWYdhmwy")
    ∷ case "a delay's unit" (bytes_in " -1" "") (word "DHMWYdhmwy")
    ∷ case "before a limit" (bytes_in " +1d" "2d") (word "/")
    ∷ []

-- ---- what a timestamp holds, and how many bytes follow it

unfoldable pub stamp_case : String → List ℕ → Case
unfolding read_case
stamp_case w ns = read_case (λ x. some (timestamp x)) of_stamp w ns

unfoldable pub single_cases : List Case
single_cases =
    stamp_case "" (0 ∷ 0 ∷ [])
    ∷ stamp_case "x" (0 ∷ 1 ∷ [])
    ∷ stamp_case "<" (0 ∷ 1 ∷ [])
    ∷ stamp_case "<2026-11-16]" (0 ∷ 12 ∷ [])
    ∷ stamp_case "[2026-11-16>" (0 ∷ 12 ∷ [])
    ∷ stamp_case "<%%(x)>" (0 ∷ 7 ∷ [])
    ∷ stamp_case " <2026-11-16>" (0 ∷ 13 ∷ [])
    ∷ stamp_case "<2026-11-16>" (1 ∷ 1 ∷ 2026 ∷ 11 ∷ 16 ∷ 0 ∷ 0 ∷ 0 ∷ [])
    ∷ stamp_case "[2026-11-16]" (1 ∷ 2 ∷ 2026 ∷ 11 ∷ 16 ∷ 0 ∷ 0 ∷ 0 ∷ [])
    ∷ stamp_case "<0000-99-00>" (1 ∷ 1 ∷ 0 ∷ 99 ∷ 0 ∷ 0 ∷ 0 ∷ 0 ∷ [])
    ∷ stamp_case "<1234-56-78>" (1 ∷ 1 ∷ 1234 ∷ 56 ∷ 78 ∷ 0 ∷ 0 ∷ 0 ∷ [])
    ∷ stamp_case "<9876-54-32>" (1 ∷ 1 ∷ 9876 ∷ 54 ∷ 32 ∷ 0 ∷ 0 ∷ 0 ∷ [])
    ∷ stamp_case "<2026-11-16 Mon>" (1 ∷ 1 ∷ 2026 ∷ 11 ∷ 16 ∷ 0 ∷ 0 ∷ 0 ∷ [])
    ∷ stamp_case "<2026-11-16 Mon 9:30>" (1 ∷ 1 ∷ 2026 ∷ 11 ∷ 16 ∷ 1 ∷ 9 ∷ 30 ∷ 0 ∷ 0 ∷ [])
    ∷ stamp_case "<2026-11-16 09:05>" (1 ∷ 1 ∷ 2026 ∷ 11 ∷ 16 ∷ 1 ∷ 9 ∷ 5 ∷ 0 ∷ 0 ∷ [])
    ∷ stamp_case "[2026-11-16 12:34]" (1 ∷ 2 ∷ 2026 ∷ 11 ∷ 16 ∷ 1 ∷ 12 ∷ 34 ∷ 0 ∷ 0 ∷ [])
    ∷ stamp_case "[2026-11-16 98:76]" (1 ∷ 2 ∷ 2026 ∷ 11 ∷ 16 ∷ 1 ∷ 98 ∷ 76 ∷ 0 ∷ 0 ∷ [])
    ∷ stamp_case "<2026-11-16 9:30-10:45>" (2 ∷ 1 ∷ 2026 ∷ 11 ∷ 16 ∷ 1 ∷ 9 ∷ 30 ∷ 10 ∷ 45 ∷ 0 ∷ 0 ∷ [])
    ∷ stamp_case "[2026-11-16 Mon 12:34-5:06]" (2 ∷ 2 ∷ 2026 ∷ 11 ∷ 16 ∷ 1 ∷ 12 ∷ 34 ∷ 5 ∷ 6 ∷ 0 ∷ 0 ∷ [])
    ∷ stamp_case "<2026-11-16 9:30-10:45 +1d>" (2 ∷ 1 ∷ 2026 ∷ 11 ∷ 16 ∷ 1 ∷ 9 ∷ 30 ∷ 10 ∷ 45 ∷ 1 ∷ 1 ∷ 1 ∷ 100 ∷ 0 ∷ 0 ∷ [])
    ∷ stamp_case "[2026-11-16 9:30-10:45 -1d ++2w/3m]"
    (2 ∷ 2 ∷ 2026 ∷ 11 ∷ 16 ∷ 1 ∷ 9 ∷ 30 ∷ 10 ∷ 45 ∷ 4 ∷ 1 ∷ 1 ∷ 100 ∷ 2 ∷ 2 ∷ 119 ∷ 1 ∷ 3 ∷ 109 ∷ 0 ∷ [])
    ∷ []

unfoldable pub repeat_cases : List Case
repeat_cases =
    stamp_case "<2026-11-16 +1h>" (1 ∷ 1 ∷ 2026 ∷ 11 ∷ 16 ∷ 0 ∷ 1 ∷ 1 ∷ 1 ∷ 104 ∷ 0 ∷ 0 ∷ [])
    ∷ stamp_case "<2026-11-16 ++2D>" (1 ∷ 1 ∷ 2026 ∷ 11 ∷ 16 ∷ 0 ∷ 1 ∷ 2 ∷ 2 ∷ 100 ∷ 0 ∷ 0 ∷ [])
    ∷ stamp_case "<2026-11-16 .+3w>" (1 ∷ 1 ∷ 2026 ∷ 11 ∷ 16 ∷ 0 ∷ 1 ∷ 3 ∷ 3 ∷ 119 ∷ 0 ∷ 0 ∷ [])
    ∷ stamp_case "<2026-11-16 +40M>" (1 ∷ 1 ∷ 2026 ∷ 11 ∷ 16 ∷ 0 ∷ 1 ∷ 1 ∷ 40 ∷ 109 ∷ 0 ∷ 0 ∷ [])
    ∷ stamp_case "<2026-11-16 ++123456789Y>" (1 ∷ 1 ∷ 2026 ∷ 11 ∷ 16 ∷ 0 ∷ 1 ∷ 2 ∷ 123456789 ∷ 121 ∷ 0 ∷ 0 ∷ [])
    ∷ stamp_case "[2026-11-16 .+987654321H]" (1 ∷ 2 ∷ 2026 ∷ 11 ∷ 16 ∷ 0 ∷ 1 ∷ 3 ∷ 987654321 ∷ 104 ∷ 0 ∷ 0 ∷ [])
    ∷ stamp_case "<2026-11-16 +1d/2w>" (1 ∷ 1 ∷ 2026 ∷ 11 ∷ 16 ∷ 0 ∷ 1 ∷ 1 ∷ 1 ∷ 100 ∷ 1 ∷ 2 ∷ 119 ∷ 0 ∷ [])
    ∷ stamp_case "<2026-11-16 .+3M/45Y>" (1 ∷ 1 ∷ 2026 ∷ 11 ∷ 16 ∷ 0 ∷ 1 ∷ 3 ∷ 3 ∷ 109 ∷ 1 ∷ 45 ∷ 121 ∷ 0 ∷ [])
    ∷ stamp_case "<2026-11-16 Mon 9:30 ++007d/010d>" (1 ∷ 1 ∷ 2026 ∷ 11 ∷ 16 ∷ 1 ∷ 9 ∷ 30 ∷ 1 ∷ 2 ∷ 7 ∷ 100 ∷ 1 ∷ 10 ∷ 100 ∷ 0 ∷ [])
    ∷ stamp_case "<2026-11-16 -1h>" (1 ∷ 1 ∷ 2026 ∷ 11 ∷ 16 ∷ 0 ∷ 2 ∷ 1 ∷ 1 ∷ 104 ∷ 0 ∷ [])
    ∷ stamp_case "<2026-11-16 --2W>" (1 ∷ 1 ∷ 2026 ∷ 11 ∷ 16 ∷ 0 ∷ 2 ∷ 2 ∷ 2 ∷ 119 ∷ 0 ∷ [])
    ∷ stamp_case "[2026-11-16 9:30 -123456789m]" (1 ∷ 2 ∷ 2026 ∷ 11 ∷ 16 ∷ 1 ∷ 9 ∷ 30 ∷ 2 ∷ 1 ∷ 123456789 ∷ 109 ∷ 0 ∷ [])
    ∷ stamp_case "<2026-11-16 +1w -2d>" (1 ∷ 1 ∷ 2026 ∷ 11 ∷ 16 ∷ 0 ∷ 3 ∷ 1 ∷ 1 ∷ 119 ∷ 0 ∷ 1 ∷ 2 ∷ 100 ∷ 0 ∷ [])
    ∷ stamp_case "<2026-11-16 ++1w/2m --3D>" (1 ∷ 1 ∷ 2026 ∷ 11 ∷ 16 ∷ 0 ∷ 3 ∷ 2 ∷ 1 ∷ 119 ∷ 1 ∷ 2 ∷ 109 ∷ 2 ∷ 3 ∷ 100 ∷ 0 ∷ [])
    ∷ stamp_case "<2026-11-16 -2d +1w>" (1 ∷ 1 ∷ 2026 ∷ 11 ∷ 16 ∷ 0 ∷ 4 ∷ 1 ∷ 2 ∷ 100 ∷ 1 ∷ 1 ∷ 119 ∷ 0 ∷ 0 ∷ [])
    ∷ stamp_case "[2026-11-16 Mon 9:30 --3y .+4h/5d]" (1 ∷ 2 ∷ 2026 ∷ 11 ∷ 16 ∷ 1 ∷ 9 ∷ 30 ∷ 4 ∷ 2 ∷ 3 ∷ 121 ∷ 3 ∷ 4 ∷ 104 ∷ 1 ∷ 5 ∷ 100 ∷ 0 ∷ [])
    ∷ []

unfoldable pub dates_cases : List Case
dates_cases =
    stamp_case "<2026-11-16>--<2026-11-17>" (3 ∷ 1 ∷ 2026 ∷ 11 ∷ 16 ∷ 0 ∷ 0 ∷ 2026 ∷ 11 ∷ 17 ∷ 0 ∷ 0 ∷ 0 ∷ [])
    ∷ stamp_case "[2026-11-16]--[2026-11-17]" (3 ∷ 2 ∷ 2026 ∷ 11 ∷ 16 ∷ 0 ∷ 0 ∷ 2026 ∷ 11 ∷ 17 ∷ 0 ∷ 0 ∷ 0 ∷ [])
    ∷ stamp_case "<2026-11-16 9:30>--<2026-11-17 Tue 10:45>" (3 ∷ 1 ∷ 2026 ∷ 11 ∷ 16 ∷ 1 ∷ 9 ∷ 30 ∷ 0 ∷ 2026 ∷ 11 ∷ 17 ∷ 1 ∷ 10 ∷ 45 ∷ 0 ∷ 0 ∷ [])
    ∷ stamp_case "[2026-11-16 9:30 +1d]--[2026-11-17 -2w]"
    (3 ∷ 2 ∷ 2026 ∷ 11 ∷ 16 ∷ 1 ∷ 9 ∷ 30 ∷ 1 ∷ 1 ∷ 1 ∷ 100 ∷ 0 ∷ 2026 ∷ 11 ∷ 17 ∷ 0 ∷ 2 ∷ 1 ∷ 2 ∷ 119 ∷ 0 ∷ [])
    ∷ stamp_case "<2026-11-16 -1d>--<2026-11-17 10:45 .+2w>"
    (3 ∷ 1 ∷ 2026 ∷ 11 ∷ 16 ∷ 0 ∷ 2 ∷ 1 ∷ 1 ∷ 100 ∷ 2026 ∷ 11 ∷ 17 ∷ 1 ∷ 10 ∷ 45 ∷ 1 ∷ 3 ∷ 2 ∷ 119 ∷ 0 ∷ 0 ∷ [])
    ∷ stamp_case "<2026-11-16 +1d -2d>--<2026-11-17 --3w ++4w/5m>"
    (3 ∷ 1 ∷ 2026 ∷ 11 ∷ 16 ∷ 0 ∷ 3 ∷ 1 ∷ 1 ∷ 100 ∷ 0 ∷ 1 ∷ 2 ∷ 100 ∷ 2026 ∷ 11 ∷ 17 ∷ 0 ∷ 4 ∷ 2 ∷ 3 ∷ 119 ∷ 2 ∷ 4 ∷ 119 ∷ 1 ∷ 5 ∷ 109 ∷ 0 ∷ [])
    ∷ []

unfoldable pub rest_cases : List Case
rest_cases =
    stamp_case "<2026-11-16>x" (1 ∷ 1 ∷ 2026 ∷ 11 ∷ 16 ∷ 0 ∷ 0 ∷ 1 ∷ [])
    ∷ stamp_case "<2026-11-16> x" (1 ∷ 1 ∷ 2026 ∷ 11 ∷ 16 ∷ 0 ∷ 0 ∷ 2 ∷ [])
    ∷ stamp_case "<2026-11-16>>" (1 ∷ 1 ∷ 2026 ∷ 11 ∷ 16 ∷ 0 ∷ 0 ∷ 1 ∷ [])
    ∷ stamp_case "[2026-11-16] <2026-11-16>" (1 ∷ 2 ∷ 2026 ∷ 11 ∷ 16 ∷ 0 ∷ 0 ∷ 13 ∷ [])
    ∷ stamp_case "<2026-11-16>--" (1 ∷ 1 ∷ 2026 ∷ 11 ∷ 16 ∷ 0 ∷ 0 ∷ 2 ∷ [])
    ∷ stamp_case "<2026-11-16>--[2026-11-17]" (1 ∷ 1 ∷ 2026 ∷ 11 ∷ 16 ∷ 0 ∷ 0 ∷ 14 ∷ [])
    ∷ stamp_case "[2026-11-16]--<2026-11-17>" (1 ∷ 2 ∷ 2026 ∷ 11 ∷ 16 ∷ 0 ∷ 0 ∷ 14 ∷ [])
    ∷ stamp_case "<2026-11-16>-<2026-11-17>" (1 ∷ 1 ∷ 2026 ∷ 11 ∷ 16 ∷ 0 ∷ 0 ∷ 13 ∷ [])
    ∷ stamp_case "<2026-11-16>---<2026-11-17>" (1 ∷ 1 ∷ 2026 ∷ 11 ∷ 16 ∷ 0 ∷ 0 ∷ 15 ∷ [])
    ∷ stamp_case "<2026-11-16> --<2026-11-17>" (1 ∷ 1 ∷ 2026 ∷ 11 ∷ 16 ∷ 0 ∷ 0 ∷ 15 ∷ [])
    ∷ stamp_case "<2026-11-16>-- <2026-11-17>" (1 ∷ 1 ∷ 2026 ∷ 11 ∷ 16 ∷ 0 ∷ 0 ∷ 15 ∷ [])
    ∷ stamp_case "<2026-11-16>--<2026-11-17" (1 ∷ 1 ∷ 2026 ∷ 11 ∷ 16 ∷ 0 ∷ 0 ∷ 13 ∷ [])
    ∷ stamp_case "<2026-11-16>--<2026-11-17]" (1 ∷ 1 ∷ 2026 ∷ 11 ∷ 16 ∷ 0 ∷ 0 ∷ 14 ∷ [])
    ∷ stamp_case "<2026-11-16>--<2026-11-17 9:30-10:45>" (1 ∷ 1 ∷ 2026 ∷ 11 ∷ 16 ∷ 0 ∷ 0 ∷ 25 ∷ [])
    ∷ stamp_case "<2026-11-16 9:30-10:45>--<2026-11-17>" (2 ∷ 1 ∷ 2026 ∷ 11 ∷ 16 ∷ 1 ∷ 9 ∷ 30 ∷ 10 ∷ 45 ∷ 0 ∷ 14 ∷ [])
    ∷ stamp_case "[2026-11-16 9:30-10:45]--[2026-11-17 9:30-10:45]" (2 ∷ 2 ∷ 2026 ∷ 11 ∷ 16 ∷ 1 ∷ 9 ∷ 30 ∷ 10 ∷ 45 ∷ 0 ∷ 25 ∷ [])
    ∷ stamp_case "<2026-11-16>--<2026-11-17>--<2026-11-16>" (3 ∷ 1 ∷ 2026 ∷ 11 ∷ 16 ∷ 0 ∷ 0 ∷ 2026 ∷ 11 ∷ 17 ∷ 0 ∷ 0 ∷ 14 ∷ [])
    ∷ stamp_case "<2026-11-16>--<2026-11-17>x" (3 ∷ 1 ∷ 2026 ∷ 11 ∷ 16 ∷ 0 ∷ 0 ∷ 2026 ∷ 11 ∷ 17 ∷ 0 ∷ 0 ∷ 1 ∷ [])
    ∷ stamp_case "[2026-11-16]]" (1 ∷ 2 ∷ 2026 ∷ 11 ∷ 16 ∷ 0 ∷ 0 ∷ 1 ∷ [])
    ∷ stamp_case "<2026-11-16 Mo>n>" (1 ∷ 1 ∷ 2026 ∷ 11 ∷ 16 ∷ 0 ∷ 0 ∷ 2 ∷ [])
    ∷ []

-- opens these cases and what they are cases of
unfoldable pub OpenStampCases : Type 1
unfolding OpenCases OpenStamps read_case expect_case gap_case value_case day_name_case times_case repeater_case of_date of_time of_clock of_interval of_mark of_repeat of_delay of_repeater of_stamp
    whole dated bytes_in stamp_case small_cases shape_cases part_cases bracket_cases date_cases name_cases time_cases range_cases repeater_cases delay_cases both_cases second_cases byte_cases single_cases repeat_cases dates_cases rest_cases
OpenStampCases = Type 0
