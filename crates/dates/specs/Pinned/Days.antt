-- Days  [02 order 1]: leap years, month lengths, calendar days, the days between two dates, the next day.
use Rattle.std.specs.Prelude.{not, List, [], ◌∷◌, map, ℕ, suc, ℤ, pos, negsuc, length}
use Prim.Native.String.{String}
use Rattle.text.specs.Cases.{Case, case, below, OpenCases}
use Rattle.dates.specs.Reads.{pick}
use Rattle.dates.specs.Stamps.{date_of}
use Rattle.dates.specs.Days.{is_leap, february, month_days, is_calendar_day, days_before, years_days, day_number, number, days}
use Rattle.dates.specs.Promises.{next_day, after, OpenPromises}
use Rattle.dates.specs.Pinned.Stamps.{of_date}
use Rattle.dates.specs.declared.stamp.Date.{Date}

-- ---- years and months

-- 1 for a leap year, 0 for another
unfoldable pub leaps : List ℕ → List ℕ
leaps ys = map (λ y. pick (is_leap y) 1 0) ys

-- the twelve months, and a number on either side that is none
abbrev months : List ℕ
months = 0 ∷ 1 ∷ 2 ∷ 3 ∷ 4 ∷ 5 ∷ 6 ∷ 7 ∷ 8 ∷ 9 ∷ 10 ∷ 11 ∷ 12 ∷ 13 ∷ []

unfoldable pub year_cases : List Case
year_cases =
    case "leap" (leaps (4 ∷ 8 ∷ 1600 ∷ 1904 ∷ 1996 ∷ 2000 ∷ 2024 ∷ 2400 ∷ 9996 ∷ [])) (1 ∷ 1 ∷ 1 ∷ 1 ∷ 1 ∷ 1 ∷ 1 ∷ 1 ∷ 1 ∷ [])
    ∷ case "not leap" (leaps (1 ∷ 2 ∷ 3 ∷ 5 ∷ 100 ∷ 200 ∷ 300 ∷ 1700 ∷ 1800 ∷ 1900 ∷ 1999 ∷ 2001 ∷ 2022 ∷ 2023 ∷ 2025 ∷ 2100 ∷ 2200 ∷ 2300 ∷ 9999 ∷ []))
    (0 ∷ 0 ∷ 0 ∷ 0 ∷ 0 ∷ 0 ∷ 0 ∷ 0 ∷ 0 ∷ 0 ∷ 0 ∷ 0 ∷ 0 ∷ 0 ∷ 0 ∷ 0 ∷ 0 ∷ 0 ∷ 0 ∷ [])
    ∷ case "leap in 400 years" (length (below 400 (λ y. is_leap (suc y)) []) ∷ []) (97 ∷ [])
    ∷ case "february" (map february (1900 ∷ 2000 ∷ 2023 ∷ 2024 ∷ 2100 ∷ [])) (28 ∷ 29 ∷ 28 ∷ 29 ∷ 28 ∷ [])
    ∷ case "months of 2024" (map (month_days 2024) months) (0 ∷ 31 ∷ 29 ∷ 31 ∷ 30 ∷ 31 ∷ 30 ∷ 31 ∷ 31 ∷ 30 ∷ 31 ∷ 30 ∷ 31 ∷ 0 ∷ [])
    ∷ case "months of 2023" (map (month_days 2023) months) (0 ∷ 31 ∷ 28 ∷ 31 ∷ 30 ∷ 31 ∷ 30 ∷ 31 ∷ 31 ∷ 30 ∷ 31 ∷ 30 ∷ 31 ∷ 0 ∷ [])
    ∷ case "months of 1900" (map (month_days 1900) months) (0 ∷ 31 ∷ 28 ∷ 31 ∷ 30 ∷ 31 ∷ 30 ∷ 31 ∷ 31 ∷ 30 ∷ 31 ∷ 30 ∷ 31 ∷ 0 ∷ [])
    ∷ case "months of 2000" (map (month_days 2000) months) (0 ∷ 31 ∷ 29 ∷ 31 ∷ 30 ∷ 31 ∷ 30 ∷ 31 ∷ 31 ∷ 30 ∷ 31 ∷ 30 ∷ 31 ∷ 0 ∷ [])
    ∷ case "no month" (month_days 2024 14 ∷ month_days 2024 99 ∷ []) (0 ∷ 0 ∷ [])
    ∷ case "before a month of 2024" (map (days_before 2024) months)
    (0 ∷ 0 ∷ 31 ∷ 60 ∷ 91 ∷ 121 ∷ 152 ∷ 182 ∷ 213 ∷ 244 ∷ 274 ∷ 305 ∷ 335 ∷ 366 ∷ [])
    ∷ case "before a month of 2023" (map (days_before 2023) months)
    (0 ∷ 0 ∷ 31 ∷ 59 ∷ 90 ∷ 120 ∷ 151 ∷ 181 ∷ 212 ∷ 243 ∷ 273 ∷ 304 ∷ 334 ∷ 365 ∷ [])
    ∷ case "whole years" (map years_days (0 ∷ 1 ∷ 3 ∷ 4 ∷ 5 ∷ 99 ∷ 100 ∷ 101 ∷ 399 ∷ 400 ∷ 401 ∷ 2025 ∷ 9998 ∷ []))
    (0 ∷ 365 ∷ 1095 ∷ 1461 ∷ 1826 ∷ 36159 ∷ 36524 ∷ 36889 ∷ 145731 ∷ 146097 ∷ 146462 ∷ 739616 ∷ 3651694 ∷ [])
    ∷ []

-- ---- calendar days

unfoldable pub is_day : ℕ → ℕ → ℕ → ℕ
is_day y m d = pick (is_calendar_day (date_of y m d)) 1 0

-- of a month's days up to 40, those that are none
unfoldable pub no_days : ℕ → ℕ → List ℕ
no_days y m = below 40 (λ d. not (is_calendar_day (date_of y m d))) []

unfoldable pub day_case : String → ℕ → ℕ → ℕ → ℕ → Case
unfolding is_day
day_case w y m d n = case w (is_day y m d ∷ []) (n ∷ [])

unfoldable pub month_case : String → ℕ → ℕ → List ℕ → Case
unfolding no_days
month_case w y m ns = case w (no_days y m) ns

-- 0, and the numbers past a month's last day
abbrev after31 : List ℕ
after31 = 0 ∷ 32 ∷ 33 ∷ 34 ∷ 35 ∷ 36 ∷ 37 ∷ 38 ∷ 39 ∷ []

abbrev after30 : List ℕ
after30 = 0 ∷ 31 ∷ 32 ∷ 33 ∷ 34 ∷ 35 ∷ 36 ∷ 37 ∷ 38 ∷ 39 ∷ []

abbrev after29 : List ℕ
after29 = 0 ∷ 30 ∷ 31 ∷ 32 ∷ 33 ∷ 34 ∷ 35 ∷ 36 ∷ 37 ∷ 38 ∷ 39 ∷ []

abbrev after28 : List ℕ
after28 = 0 ∷ 29 ∷ 30 ∷ 31 ∷ 32 ∷ 33 ∷ 34 ∷ 35 ∷ 36 ∷ 37 ∷ 38 ∷ 39 ∷ []

unfoldable pub calendar_cases : List Case
calendar_cases =
    day_case "year 0" 0 12 31 0
    ∷ day_case "year 1" 1 1 1 1
    ∷ day_case "year 9999" 9999 12 31 1
    ∷ day_case "year 10000" 10000 1 1 0
    ∷ day_case "month 0" 2026 0 1 0
    ∷ day_case "month 1" 2026 1 1 1
    ∷ day_case "month 12" 2026 12 1 1
    ∷ day_case "month 13" 2026 13 1 0
    ∷ day_case "month 99" 2026 99 1 0
    ∷ day_case "day 0" 2026 1 0 0
    ∷ day_case "day 1" 2026 1 1 1
    ∷ day_case "31 January" 2026 1 31 1
    ∷ day_case "32 January" 2026 1 32 0
    ∷ day_case "30 April" 2026 4 30 1
    ∷ day_case "31 April" 2026 4 31 0
    ∷ day_case "30 February" 2026 2 30 0
    ∷ day_case "29 February 1900" 1900 2 29 0
    ∷ day_case "29 February 2000" 2000 2 29 1
    ∷ day_case "29 February 2023" 2023 2 29 0
    ∷ day_case "29 February 2024" 2024 2 29 1
    ∷ day_case "30 February 2024" 2024 2 30 0
    ∷ day_case "29 February 2100" 2100 2 29 0
    ∷ day_case "day 0 of month 0" 2026 0 0 0
    ∷ day_case "year 0, month 0, day 0" 0 0 0 0
    ∷ day_case "31 December 10000" 10000 12 31 0
    ∷ month_case "January 2024" 2024 1 after31
    ∷ month_case "February 2024" 2024 2 after29
    ∷ month_case "March 2024" 2024 3 after31
    ∷ month_case "April 2024" 2024 4 after30
    ∷ month_case "May 2024" 2024 5 after31
    ∷ month_case "June 2024" 2024 6 after30
    ∷ month_case "July 2024" 2024 7 after31
    ∷ month_case "August 2024" 2024 8 after31
    ∷ month_case "September 2024" 2024 9 after30
    ∷ month_case "October 2024" 2024 10 after31
    ∷ month_case "November 2024" 2024 11 after30
    ∷ month_case "December 2024" 2024 12 after31
    ∷ month_case "January 2023" 2023 1 after31
    ∷ month_case "February 2023" 2023 2 after28
    ∷ month_case "March 2023" 2023 3 after31
    ∷ month_case "April 2023" 2023 4 after30
    ∷ month_case "May 2023" 2023 5 after31
    ∷ month_case "June 2023" 2023 6 after30
    ∷ month_case "July 2023" 2023 7 after31
    ∷ month_case "August 2023" 2023 8 after31
    ∷ month_case "September 2023" 2023 9 after30
    ∷ month_case "October 2023" 2023 10 after31
    ∷ month_case "November 2023" 2023 11 after30
    ∷ month_case "December 2023" 2023 12 after31
    ∷ case "month 0" (below 40 (λ d. is_calendar_day (date_of 2024 0 d)) []) []
    ∷ case "month 13" (below 40 (λ d. is_calendar_day (date_of 2024 13 d)) []) []
    ∷ []

-- ---- the days between two dates: the number; 0 and the days, or 1 and the days below zero

unfoldable pub of_days : ℤ → List ℕ
of_days (pos n) = 0 ∷ n ∷ []
of_days (negsuc n) = 1 ∷ suc n ∷ []

unfoldable pub between : String → Date → Date → List ℕ → Case
unfolding of_days
between w a b ns = case w (number a b ∷ of_days (days a b)) ns

unfoldable pub number_case : String → Date → ℕ → Case
number_case w a n = case w (day_number a ∷ []) (n ∷ [])

unfoldable pub between_cases : List Case
between_cases =
    between "equal" (date_of 2026 11 16) (date_of 2026 11 16) (0 ∷ 0 ∷ 0 ∷ [])
    ∷ between "next" (date_of 2026 11 16) (date_of 2026 11 17) (0 ∷ 0 ∷ 1 ∷ [])
    ∷ between "before" (date_of 2026 11 17) (date_of 2026 11 16) (0 ∷ 1 ∷ 1 ∷ [])
    ∷ between "first day" (date_of 1 1 1) (date_of 1 1 1) (0 ∷ 0 ∷ 0 ∷ [])
    ∷ between "all days" (date_of 1 1 1) (date_of 9999 12 31) (0 ∷ 0 ∷ 3652058 ∷ [])
    ∷ between "all days back" (date_of 9999 12 31) (date_of 1 1 1) (0 ∷ 1 ∷ 3652058 ∷ [])
    ∷ between "last day" (date_of 9999 12 31) (date_of 9999 12 31) (0 ∷ 0 ∷ 0 ∷ [])
    ∷ between "year 2" (date_of 1 12 31) (date_of 2 1 1) (0 ∷ 0 ∷ 1 ∷ [])
    ∷ between "new year" (date_of 2026 12 31) (date_of 2027 1 1) (0 ∷ 0 ∷ 1 ∷ [])
    ∷ between "new year back" (date_of 2027 1 1) (date_of 2026 12 31) (0 ∷ 1 ∷ 1 ∷ [])
    ∷ between "leap 1900" (date_of 1900 2 28) (date_of 1900 3 1) (0 ∷ 0 ∷ 1 ∷ [])
    ∷ between "leap 2000" (date_of 2000 2 28) (date_of 2000 3 1) (0 ∷ 0 ∷ 2 ∷ [])
    ∷ between "leap 2023" (date_of 2023 2 28) (date_of 2023 3 1) (0 ∷ 0 ∷ 1 ∷ [])
    ∷ between "leap 2024" (date_of 2024 2 28) (date_of 2024 3 1) (0 ∷ 0 ∷ 2 ∷ [])
    ∷ between "leap 2100" (date_of 2100 2 28) (date_of 2100 3 1) (0 ∷ 0 ∷ 1 ∷ [])
    ∷ between "2024 back" (date_of 2024 3 1) (date_of 2024 2 28) (0 ∷ 1 ∷ 2 ∷ [])
    ∷ between "29 February" (date_of 2024 2 29) (date_of 2024 3 1) (0 ∷ 0 ∷ 1 ∷ [])
    ∷ between "a year" (date_of 2023 1 1) (date_of 2024 1 1) (0 ∷ 0 ∷ 365 ∷ [])
    ∷ between "a leap year" (date_of 2024 1 1) (date_of 2025 1 1) (0 ∷ 0 ∷ 366 ∷ [])
    ∷ between "1900" (date_of 1900 1 1) (date_of 1901 1 1) (0 ∷ 0 ∷ 365 ∷ [])
    ∷ between "2000" (date_of 2000 1 1) (date_of 2001 1 1) (0 ∷ 0 ∷ 366 ∷ [])
    ∷ between "2100" (date_of 2100 1 1) (date_of 2101 1 1) (0 ∷ 0 ∷ 365 ∷ [])
    ∷ between "a century" (date_of 1900 1 1) (date_of 2000 1 1) (0 ∷ 0 ∷ 36524 ∷ [])
    ∷ between "four centuries" (date_of 1600 1 1) (date_of 2000 1 1) (0 ∷ 0 ∷ 146097 ∷ [])
    ∷ between "1600 to 2100" (date_of 1600 2 29) (date_of 2100 2 28) (0 ∷ 0 ∷ 182621 ∷ [])
    ∷ between "1582" (date_of 1582 10 4) (date_of 1582 10 15) (0 ∷ 0 ∷ 11 ∷ [])
    ∷ between "1970" (date_of 1970 1 1) (date_of 2026 11 16) (0 ∷ 0 ∷ 20773 ∷ [])
    ∷ []

unfoldable pub refused_cases : List Case
refused_cases =
    between "year 0 first" (date_of 0 12 31) (date_of 2026 11 16) (11 ∷ 0 ∷ 0 ∷ [])
    ∷ between "year 0 second" (date_of 2026 11 16) (date_of 0 12 31) (11 ∷ 0 ∷ 0 ∷ [])
    ∷ between "year 10000 first" (date_of 10000 1 1) (date_of 2026 11 16) (11 ∷ 0 ∷ 0 ∷ [])
    ∷ between "year 10000 second" (date_of 2026 11 16) (date_of 10000 1 1) (11 ∷ 0 ∷ 0 ∷ [])
    ∷ between "month 0 first" (date_of 2026 0 1) (date_of 2026 11 16) (11 ∷ 0 ∷ 0 ∷ [])
    ∷ between "month 0 second" (date_of 2026 11 16) (date_of 2026 0 1) (11 ∷ 0 ∷ 0 ∷ [])
    ∷ between "month 13 first" (date_of 2026 13 1) (date_of 2026 11 16) (11 ∷ 0 ∷ 0 ∷ [])
    ∷ between "month 13 second" (date_of 2026 11 16) (date_of 2026 13 1) (11 ∷ 0 ∷ 0 ∷ [])
    ∷ between "day 0 first" (date_of 2026 11 0) (date_of 2026 11 16) (11 ∷ 0 ∷ 0 ∷ [])
    ∷ between "day 0 second" (date_of 2026 11 16) (date_of 2026 11 0) (11 ∷ 0 ∷ 0 ∷ [])
    ∷ between "32 January first" (date_of 2026 1 32) (date_of 2026 11 16) (11 ∷ 0 ∷ 0 ∷ [])
    ∷ between "32 January second" (date_of 2026 11 16) (date_of 2026 1 32) (11 ∷ 0 ∷ 0 ∷ [])
    ∷ between "31 April first" (date_of 2026 4 31) (date_of 2026 11 16) (11 ∷ 0 ∷ 0 ∷ [])
    ∷ between "31 April second" (date_of 2026 11 16) (date_of 2026 4 31) (11 ∷ 0 ∷ 0 ∷ [])
    ∷ between "29 February 1900 first" (date_of 1900 2 29) (date_of 2026 11 16) (11 ∷ 0 ∷ 0 ∷ [])
    ∷ between "29 February 1900 second" (date_of 2026 11 16) (date_of 1900 2 29) (11 ∷ 0 ∷ 0 ∷ [])
    ∷ between "29 February 2023 first" (date_of 2023 2 29) (date_of 2026 11 16) (11 ∷ 0 ∷ 0 ∷ [])
    ∷ between "29 February 2023 second" (date_of 2026 11 16) (date_of 2023 2 29) (11 ∷ 0 ∷ 0 ∷ [])
    ∷ between "30 February 2024 first" (date_of 2024 2 30) (date_of 2026 11 16) (11 ∷ 0 ∷ 0 ∷ [])
    ∷ between "30 February 2024 second" (date_of 2026 11 16) (date_of 2024 2 30) (11 ∷ 0 ∷ 0 ∷ [])
    ∷ between "all 0 first" (date_of 0 0 0) (date_of 2026 11 16) (11 ∷ 0 ∷ 0 ∷ [])
    ∷ between "all 0 second" (date_of 2026 11 16) (date_of 0 0 0) (11 ∷ 0 ∷ 0 ∷ [])
    ∷ between "both" (date_of 0 1 1) (date_of 10000 1 1) (11 ∷ 0 ∷ 0 ∷ [])
    ∷ between "the same" (date_of 2026 4 31) (date_of 2026 4 31) (11 ∷ 0 ∷ 0 ∷ [])
    ∷ between "year 1 first" (date_of 1 1 1) (date_of 2026 11 16) (0 ∷ 0 ∷ 739935 ∷ [])
    ∷ between "year 1 second" (date_of 2026 11 16) (date_of 1 1 1) (0 ∷ 1 ∷ 739935 ∷ [])
    ∷ between "year 9999 first" (date_of 9999 12 31) (date_of 2026 11 16) (0 ∷ 1 ∷ 2912123 ∷ [])
    ∷ between "year 9999 second" (date_of 2026 11 16) (date_of 9999 12 31) (0 ∷ 0 ∷ 2912123 ∷ [])
    ∷ between "29 February 2000 first" (date_of 2000 2 29) (date_of 2026 11 16) (0 ∷ 0 ∷ 9757 ∷ [])
    ∷ between "29 February 2000 second" (date_of 2026 11 16) (date_of 2000 2 29) (0 ∷ 1 ∷ 9757 ∷ [])
    ∷ []

unfoldable pub day_number_cases : List Case
day_number_cases =
    number_case "first" (date_of 1 1 1) 1
    ∷ number_case "second" (date_of 1 1 2) 2
    ∷ number_case "February" (date_of 1 2 1) 32
    ∷ number_case "year 2" (date_of 2 1 1) 366
    ∷ number_case "year 4" (date_of 4 3 1) 1156
    ∷ number_case "year 101" (date_of 101 1 1) 36525
    ∷ number_case "year 401" (date_of 401 1 1) 146098
    ∷ number_case "2000" (date_of 2000 2 29) 730179
    ∷ number_case "today" (date_of 2026 11 16) 739936
    ∷ number_case "last" (date_of 9999 12 31) 3652059
    ∷ []

-- ---- the next day, and the day after n steps

unfoldable pub next_case : String → Date → List ℕ → Case
unfolding of_date
next_case w a ns = case w (of_date (next_day a)) ns

unfoldable pub after_case : String → ℕ → Date → List ℕ → Case
unfolding of_date
after_case w n a ns = case w (of_date (after n a)) ns

unfoldable pub next_cases : List Case
next_cases =
    next_case "in a month" (date_of 2026 11 16) (2026 ∷ 11 ∷ 17 ∷ [])
    ∷ next_case "day 1" (date_of 2026 1 1) (2026 ∷ 1 ∷ 2 ∷ [])
    ∷ next_case "27 February" (date_of 2023 2 27) (2023 ∷ 2 ∷ 28 ∷ [])
    ∷ next_case "January 2024" (date_of 2024 1 31) (2024 ∷ 2 ∷ 1 ∷ [])
    ∷ next_case "January 2024, a day before" (date_of 2024 1 30) (2024 ∷ 1 ∷ 31 ∷ [])
    ∷ next_case "February 2024" (date_of 2024 2 29) (2024 ∷ 3 ∷ 1 ∷ [])
    ∷ next_case "February 2024, a day before" (date_of 2024 2 28) (2024 ∷ 2 ∷ 29 ∷ [])
    ∷ next_case "March 2024" (date_of 2024 3 31) (2024 ∷ 4 ∷ 1 ∷ [])
    ∷ next_case "March 2024, a day before" (date_of 2024 3 30) (2024 ∷ 3 ∷ 31 ∷ [])
    ∷ next_case "April 2024" (date_of 2024 4 30) (2024 ∷ 5 ∷ 1 ∷ [])
    ∷ next_case "April 2024, a day before" (date_of 2024 4 29) (2024 ∷ 4 ∷ 30 ∷ [])
    ∷ next_case "May 2024" (date_of 2024 5 31) (2024 ∷ 6 ∷ 1 ∷ [])
    ∷ next_case "May 2024, a day before" (date_of 2024 5 30) (2024 ∷ 5 ∷ 31 ∷ [])
    ∷ next_case "June 2024" (date_of 2024 6 30) (2024 ∷ 7 ∷ 1 ∷ [])
    ∷ next_case "June 2024, a day before" (date_of 2024 6 29) (2024 ∷ 6 ∷ 30 ∷ [])
    ∷ next_case "July 2024" (date_of 2024 7 31) (2024 ∷ 8 ∷ 1 ∷ [])
    ∷ next_case "July 2024, a day before" (date_of 2024 7 30) (2024 ∷ 7 ∷ 31 ∷ [])
    ∷ next_case "August 2024" (date_of 2024 8 31) (2024 ∷ 9 ∷ 1 ∷ [])
    ∷ next_case "August 2024, a day before" (date_of 2024 8 30) (2024 ∷ 8 ∷ 31 ∷ [])
    ∷ next_case "September 2024" (date_of 2024 9 30) (2024 ∷ 10 ∷ 1 ∷ [])
    ∷ next_case "September 2024, a day before" (date_of 2024 9 29) (2024 ∷ 9 ∷ 30 ∷ [])
    ∷ next_case "October 2024" (date_of 2024 10 31) (2024 ∷ 11 ∷ 1 ∷ [])
    ∷ next_case "October 2024, a day before" (date_of 2024 10 30) (2024 ∷ 10 ∷ 31 ∷ [])
    ∷ next_case "November 2024" (date_of 2024 11 30) (2024 ∷ 12 ∷ 1 ∷ [])
    ∷ next_case "November 2024, a day before" (date_of 2024 11 29) (2024 ∷ 11 ∷ 30 ∷ [])
    ∷ next_case "December 2024" (date_of 2024 12 31) (2025 ∷ 1 ∷ 1 ∷ [])
    ∷ next_case "December 2024, a day before" (date_of 2024 12 30) (2024 ∷ 12 ∷ 31 ∷ [])
    ∷ next_case "January 2023" (date_of 2023 1 31) (2023 ∷ 2 ∷ 1 ∷ [])
    ∷ next_case "January 2023, a day before" (date_of 2023 1 30) (2023 ∷ 1 ∷ 31 ∷ [])
    ∷ next_case "February 2023" (date_of 2023 2 28) (2023 ∷ 3 ∷ 1 ∷ [])
    ∷ next_case "February 2023, a day before" (date_of 2023 2 27) (2023 ∷ 2 ∷ 28 ∷ [])
    ∷ next_case "March 2023" (date_of 2023 3 31) (2023 ∷ 4 ∷ 1 ∷ [])
    ∷ next_case "March 2023, a day before" (date_of 2023 3 30) (2023 ∷ 3 ∷ 31 ∷ [])
    ∷ next_case "April 2023" (date_of 2023 4 30) (2023 ∷ 5 ∷ 1 ∷ [])
    ∷ next_case "April 2023, a day before" (date_of 2023 4 29) (2023 ∷ 4 ∷ 30 ∷ [])
    ∷ next_case "May 2023" (date_of 2023 5 31) (2023 ∷ 6 ∷ 1 ∷ [])
    ∷ next_case "May 2023, a day before" (date_of 2023 5 30) (2023 ∷ 5 ∷ 31 ∷ [])
    ∷ next_case "June 2023" (date_of 2023 6 30) (2023 ∷ 7 ∷ 1 ∷ [])
    ∷ next_case "June 2023, a day before" (date_of 2023 6 29) (2023 ∷ 6 ∷ 30 ∷ [])
    ∷ next_case "July 2023" (date_of 2023 7 31) (2023 ∷ 8 ∷ 1 ∷ [])
    ∷ next_case "July 2023, a day before" (date_of 2023 7 30) (2023 ∷ 7 ∷ 31 ∷ [])
    ∷ next_case "August 2023" (date_of 2023 8 31) (2023 ∷ 9 ∷ 1 ∷ [])
    ∷ next_case "August 2023, a day before" (date_of 2023 8 30) (2023 ∷ 8 ∷ 31 ∷ [])
    ∷ next_case "September 2023" (date_of 2023 9 30) (2023 ∷ 10 ∷ 1 ∷ [])
    ∷ next_case "September 2023, a day before" (date_of 2023 9 29) (2023 ∷ 9 ∷ 30 ∷ [])
    ∷ next_case "October 2023" (date_of 2023 10 31) (2023 ∷ 11 ∷ 1 ∷ [])
    ∷ next_case "October 2023, a day before" (date_of 2023 10 30) (2023 ∷ 10 ∷ 31 ∷ [])
    ∷ next_case "November 2023" (date_of 2023 11 30) (2023 ∷ 12 ∷ 1 ∷ [])
    ∷ next_case "November 2023, a day before" (date_of 2023 11 29) (2023 ∷ 11 ∷ 30 ∷ [])
    ∷ next_case "December 2023" (date_of 2023 12 31) (2024 ∷ 1 ∷ 1 ∷ [])
    ∷ next_case "December 2023, a day before" (date_of 2023 12 30) (2023 ∷ 12 ∷ 31 ∷ [])
    ∷ next_case "28 February 1900" (date_of 1900 2 28) (1900 ∷ 3 ∷ 1 ∷ [])
    ∷ next_case "28 February 2000" (date_of 2000 2 28) (2000 ∷ 2 ∷ 29 ∷ [])
    ∷ next_case "28 February 2100" (date_of 2100 2 28) (2100 ∷ 3 ∷ 1 ∷ [])
    ∷ next_case "year 1" (date_of 1 12 31) (2 ∷ 1 ∷ 1 ∷ [])
    ∷ next_case "year 9998" (date_of 9998 12 31) (9999 ∷ 1 ∷ 1 ∷ [])
    ∷ next_case "year 9999" (date_of 9999 12 31) (10000 ∷ 1 ∷ 1 ∷ [])
    ∷ []

unfoldable pub after_cases : List Case
after_cases =
    after_case "none" 0 (date_of 2026 11 16) (2026 ∷ 11 ∷ 16 ∷ [])
    ∷ after_case "one" 1 (date_of 2026 11 16) (2026 ∷ 11 ∷ 17 ∷ [])
    ∷ after_case "a year" 365 (date_of 2023 1 1) (2024 ∷ 1 ∷ 1 ∷ [])
    ∷ after_case "a leap year" 366 (date_of 2024 1 1) (2025 ∷ 1 ∷ 1 ∷ [])
    ∷ after_case "a day less" 365 (date_of 2024 1 1) (2024 ∷ 12 ∷ 31 ∷ [])
    ∷ after_case "to a new year" 45 (date_of 2026 11 16) (2026 ∷ 12 ∷ 31 ∷ [])
    ∷ after_case "into a new year" 46 (date_of 2026 11 16) (2027 ∷ 1 ∷ 1 ∷ [])
    ∷ []

-- opens these cases and what they are cases of
unfoldable pub OpenDayCases : Type 1
unfolding OpenCases OpenPromises leaps day_case month_case between number_case next_case after_case year_cases calendar_cases between_cases refused_cases day_number_cases next_cases after_cases
OpenDayCases = Type 0
