-- Days between two Gregorian dates  [02 order 1].
use Rattle.std.specs.Prelude.{Bool, not, ◌&&◌, ◌||◌, [], ◌∷◌, ℕ, zero, suc, ◌+◌, ◌*◌, ◌-◌, ◌/◌, ◌%◌, leb, eqb, get_or, ℤ, pos, ◌-ℤ◌}
use Rattle.std.specs.declared.result.Result as Results
use Rattle.text.specs.Number
use Rattle.dates.specs.Reads.{pick}
use Rattle.dates.specs.declared.stamp.Date.{Date}
use Rattle.dates.specs.declared.days.NoDay.{NoDay}

-- every fourth year but those of full centuries, of which every fourth
unfoldable pub is_leap : ℕ → Bool
is_leap y = eqb (y % 4) 0 && (not (eqb (y % 100) 0) || eqb (y % 400) 0)

unfoldable pub february : ℕ → ℕ
february y = pick (is_leap y) 29 28

-- the days of a month; 0 where there is no such month
unfoldable pub month_days : ℕ → ℕ → ℕ
month_days y m = get_or (0 ∷ 31 ∷ february y ∷ 31 ∷ 30 ∷ 31 ∷ 30 ∷ 31 ∷ 31 ∷ 30 ∷ 31 ∷ 30 ∷ 31 ∷ []) m 0

-- a calendar day of years 1 to 9999
unfoldable pub is_calendar_day : Date → Bool
is_calendar_day d = leb 1 d.year && leb d.year 9999 && leb 1 d.day && leb d.day (month_days d.year d.month)

-- the days of the year's earlier months
unfoldable pub days_before : ℕ → ℕ → ℕ
days_before y zero = 0
days_before y (suc m) = days_before y m + month_days y m

-- the days of n whole years from year 1 on
unfoldable pub years_days : ℕ → ℕ
years_days n = n * 365 + n / 4 - n / 100 + n / 400

-- 1 January of year 1 has number 1
unfoldable pub day_number : Date → ℕ
day_number d = years_days (d.year - 1) + days_before d.year d.month + d.day

-- the answer: 0 and the days, or 11 and 0
unfoldable pub number : Date → Date → ℕ
number a b = pick (is_calendar_day a && is_calendar_day b) Number.done Number.no_day

unfoldable pub days : Date → Date → ℤ
days a b = pick (is_calendar_day a && is_calendar_day b) (pos (day_number b) -ℤ pos (day_number a)) (pos 0)

-- what an answer says of the two: its number, and the days
abbrev pub told_number : Results.Result ℤ NoDay → ℕ
told_number (Results.TheVariants.Ok n) = Number.done
told_number (Results.TheVariants.Err e) = Number.no_day

abbrev pub told_days : Results.Result ℤ NoDay → ℤ
told_days (Results.TheVariants.Ok n) = n
told_days (Results.TheVariants.Err e) = pos 0

-- opens the definitions of this file and of those it stands on, for computed examples
unfoldable pub OpenDays : Type 1
unfolding is_leap february month_days is_calendar_day days_before years_days day_number number days
OpenDays = Type 0
