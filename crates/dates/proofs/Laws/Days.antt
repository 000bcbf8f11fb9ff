-- Laws of months, day numbers and the next day.
-- Assumes nothing.
use mathlib.Core.Path.{◌≡◌, refl, sym}
use mathlib.Core.List.{List, [], ◌∷◌}
use mathlib.Core.Bool.{true, ◌&&◌}
use Prim.Native.Nat.{ℕ, zero, suc, ◌+◌, ◌-◌, ◌/◌, ◌%◌, ◌≤◌, ◌<◌}
use native.Mathlib.Omega.{arith}
use native.Mathlib.Numerals.{add-one}
use lib.Dec.{leb, ltb, eqb}
use lib.ListN.{get_or-eq_default}
use borrow.Table.Steps.{cases}
use borrow.Author.Tests.{lt-ltb, le-ltb, ltb-true, ltb-false, leb-true, eqb-true, eqb-false}
use Rattle.text.proofs.Basics.{and_first, and_second}
use Rattle.dates.specs.Days.{is_leap, february, month_days, is_calendar_day, days_before, years_days, day_number}
use Rattle.dates.specs.Promises.{next_day, after, CalendarDay}
use Rattle.dates.specs.Stamps.{date_of}
use Rattle.dates.specs.declared.stamp.Date.{Date}

-- ---- months

pub february-range : (y : ℕ) → (28 ≤ february y) × (february y ≤ 29)
unfolding february
february-range y = cases (is_leap y) (λ h. rw h (omega arith)) (λ h. rw h (omega arith))

abbrev others : ℕ → List ℕ
others y = 0 ∷ 31 ∷ february y ∷ 31 ∷ 30 ∷ 31 ∷ 30 ∷ 31 ∷ 31 ∷ 30 ∷ 31 ∷ 30 ∷ 31 ∷ []

pub month_days-none : (y m : ℕ) → 12 < m → month_days y m ≡ 0
unfolding month_days
month_days-none y m h = get_or-eq_default (others y) 0 {n = m} (omega arith)

-- the long months, by what they are not
pub month_days-long : (y m : ℕ) → 1 ≤ m → m ≤ 12 → (m ≡ 2 → ⊥) → (m ≡ 4 → ⊥) → (m ≡ 6 → ⊥) → (m ≡ 9 → ⊥) → (m ≡ 11 → ⊥) → month_days y m ≡ 31
unfolding month_days
month_days-long y zero f t a b c d e = absurd (omega arith)
month_days-long y (suc zero) f t a b c d e = refl
month_days-long y (suc (suc zero)) f t a b c d e = absurd (a refl)
month_days-long y (suc (suc (suc zero))) f t a b c d e = refl
month_days-long y (suc (suc (suc (suc zero)))) f t a b c d e = absurd (b refl)
month_days-long y (suc (suc (suc (suc (suc zero))))) f t a b c d e = refl
month_days-long y (suc (suc (suc (suc (suc (suc zero)))))) f t a b c d e = absurd (c refl)
month_days-long y (suc (suc (suc (suc (suc (suc (suc zero))))))) f t a b c d e = refl
month_days-long y (suc (suc (suc (suc (suc (suc (suc (suc zero)))))))) f t a b c d e = refl
month_days-long y (suc (suc (suc (suc (suc (suc (suc (suc (suc zero))))))))) f t a b c d e = absurd (d refl)
month_days-long y (suc (suc (suc (suc (suc (suc (suc (suc (suc (suc zero)))))))))) f t a b c d e = refl
month_days-long y (suc (suc (suc (suc (suc (suc (suc (suc (suc (suc (suc zero))))))))))) f t a b c d e = absurd (e refl)
month_days-long y (suc (suc (suc (suc (suc (suc (suc (suc (suc (suc (suc (suc zero)))))))))))) f t a b c d e = refl
month_days-long y (suc (suc (suc (suc (suc (suc (suc (suc (suc (suc (suc (suc (suc m))))))))))))) f t a b c d e = absurd (omega arith)

-- a month with days
pub month_days-some : (y m : ℕ) → 1 ≤ month_days y m → (1 ≤ m) × (m ≤ 12)
unfolding month_days
month_days-some y zero h = absurd (omega arith)
month_days-some y (suc m) h = cases (ltb 12 (suc m))
    (λ i. absurd (omega (arith, month_days-none y (suc m) (ltb-true 12 (suc m) i))))
    (λ i. let j = ltb-false 12 (suc m) i in (omega arith, j))

-- ---- whole years

-- a year has 365 days, or 366 when it is leap
leap-quotients : (y : ℕ) → 1 ≤ y → y % 4 ≡ 0 → (y % 100 ≡ 0 → ⊥) → years_days y ≡ years_days (y - 1) + 366
unfolding years_days
leap-quotients y h i j =
    let a : y / 4 ≡ (y - 1) / 4 + 1 = omega arith in
    let b : y / 100 ≡ (y - 1) / 100 = omega arith in
    let c : y / 400 ≡ (y - 1) / 400 = omega arith in
    let l : (y - 1) / 100 ≤ (y - 1) / 4 = omega arith in
    rw (a, b, c) (omega arith)

century-quotients : (y : ℕ) → 1 ≤ y → y % 100 ≡ 0 → (y % 400 ≡ 0 → ⊥) → years_days y ≡ years_days (y - 1) + 365
unfolding years_days
century-quotients y h i j =
    let a : y / 4 ≡ (y - 1) / 4 + 1 = omega arith in
    let b : y / 100 ≡ (y - 1) / 100 + 1 = omega arith in
    let c : y / 400 ≡ (y - 1) / 400 = omega arith in
    let l : (y - 1) / 100 ≤ (y - 1) / 4 = omega arith in
    rw (a, b, c) (omega arith)

fourth-quotients : (y : ℕ) → 1 ≤ y → y % 400 ≡ 0 → years_days y ≡ years_days (y - 1) + 366
unfolding years_days
fourth-quotients y h i =
    let a : y / 4 ≡ (y - 1) / 4 + 1 = omega arith in
    let b : y / 100 ≡ (y - 1) / 100 + 1 = omega arith in
    let c : y / 400 ≡ (y - 1) / 400 + 1 = omega arith in
    let l : (y - 1) / 100 ≤ (y - 1) / 4 = omega arith in
    rw (a, b, c) (omega arith)

plain-quotients : (y : ℕ) → 1 ≤ y → (y % 4 ≡ 0 → ⊥) → years_days y ≡ years_days (y - 1) + 365
unfolding years_days
plain-quotients y h i =
    let a : y / 4 ≡ (y - 1) / 4 = omega arith in
    let b : y / 100 ≡ (y - 1) / 100 = omega arith in
    let c : y / 400 ≡ (y - 1) / 400 = omega arith in
    let l : (y - 1) / 100 ≤ (y - 1) / 4 = omega arith in
    rw (a, b, c) (omega arith)

pub years_days-next : (y : ℕ) → 1 ≤ y → years_days y ≡ years_days (y - 1) + (337 + february y)
unfolding february is_leap
years_days-next y h = cases (eqb (y % 4) 0)
    (λ a. cases (eqb (y % 100) 0)
    (λ b. cases (eqb (y % 400) 0)
    (λ c. rw (a, b, c) (fourth-quotients y h (eqb-true (y % 400) 0 c)))
    (λ c. rw (a, b, c) (century-quotients y h (eqb-true (y % 100) 0 b) (eqb-false (y % 400) 0 c))))
    (λ b. rw (a, b) (leap-quotients y h (eqb-true (y % 4) 0 a) (eqb-false (y % 100) 0 b))))
    (λ a. rw a (plain-quotients y h (eqb-false (y % 4) 0 a)))

-- ---- the next day

pub days_before-next : (y m : ℕ) → days_before y (m + 1) ≡ days_before y m + month_days y m
unfolding days_before
days_before-next y m = rw (add-one m)

-- the last month
pub days_before-december : (y : ℕ) → days_before y 12 + 31 ≡ 337 + february y
unfolding days_before month_days
days_before-december y = omega arith

month_days-december : (y : ℕ) → month_days y 12 ≡ 31
unfolding month_days
month_days-december y = refl

days_before-january : (y : ℕ) → days_before y 1 ≡ 0
unfolding days_before month_days
days_before-january y = refl

pub month_days-from : (y m : ℕ) → 1 ≤ m → m ≤ 12 → 1 ≤ month_days y m
unfolding month_days
month_days-from y zero f t = absurd (omega arith)
month_days-from y (suc zero) f t = omega arith
month_days-from y (suc (suc zero)) f t = omega (arith, february-range y)
month_days-from y (suc (suc (suc zero))) f t = omega arith
month_days-from y (suc (suc (suc (suc zero)))) f t = omega arith
month_days-from y (suc (suc (suc (suc (suc zero))))) f t = omega arith
month_days-from y (suc (suc (suc (suc (suc (suc zero)))))) f t = omega arith
month_days-from y (suc (suc (suc (suc (suc (suc (suc zero))))))) f t = omega arith
month_days-from y (suc (suc (suc (suc (suc (suc (suc (suc zero)))))))) f t = omega arith
month_days-from y (suc (suc (suc (suc (suc (suc (suc (suc (suc zero))))))))) f t = omega arith
month_days-from y (suc (suc (suc (suc (suc (suc (suc (suc (suc (suc zero)))))))))) f t = omega arith
month_days-from y (suc (suc (suc (suc (suc (suc (suc (suc (suc (suc (suc zero))))))))))) f t = omega arith
month_days-from y (suc (suc (suc (suc (suc (suc (suc (suc (suc (suc (suc (suc zero)))))))))))) f t = omega arith
month_days-from y (suc (suc (suc (suc (suc (suc (suc (suc (suc (suc (suc (suc (suc m))))))))))))) f t = absurd (omega arith)

module _ (d : Date) (h : CalendarDay d) where
  next_day-within : d.day < month_days d.year d.month → CalendarDay (next_day d) × (day_number (next_day d) ≡ day_number d + 1)
  unfolding next_day day_number
  next_day-within i =
      rw (lt-ltb _ _ i)
      (record { year_from = h.year_from; month_from = h.month_from; month_to = h.month_to; day_from = omega arith; day_to = omega arith }, omega arith)

  module _ (i : month_days d.year d.month ≤ d.day) where
    next_day-month : d.month < 12 → CalendarDay (next_day d) × (day_number (next_day d) ≡ day_number d + 1)
    unfolding next_day day_number
    next_day-month j =
        let e = days_before-next d.year d.month in
        rw (le-ltb _ _ i, lt-ltb _ _ j) (
          record {
            year_from = h.year_from;
            month_from = omega arith;
            month_to = omega arith;
            day_from = omega arith;
            day_to = month_days-from d.year (d.month + 1) (omega arith) (omega arith);
          },
          omega (arith, h.day_to),
        )

    next_day-year : 12 ≤ d.month → CalendarDay (next_day d) × (day_number (next_day d) ≡ day_number d + 1)
    unfolding next_day day_number
    next_day-year j =
        let m : d.month ≡ 12 = omega (arith, h.month_to) in
        let y : d.year + 1 - 1 ≡ d.year = omega arith in
        let n = month_days-december d.year in
        let k : month_days d.year 12 ≤ d.day = rw m at i in
        let l : d.day ≤ month_days d.year 12 = rw m at h.day_to in
        rw (le-ltb _ _ i, le-ltb _ _ j) (
          record {
            year_from = omega arith;
            month_from = omega arith;
            month_to = omega arith;
            day_from = omega arith;
            day_to = month_days-from (d.year + 1) 1 (omega arith) (omega arith);
          },
          rw (m, y) (omega (arith, years_days-next d.year h.year_from, days_before-december d.year, days_before-january (d.year + 1))),
        )

pub next_day-next : (d : Date) → CalendarDay d → CalendarDay (next_day d) × (day_number (next_day d) ≡ day_number d + 1)
next_day-next d h = cases (ltb d.day (month_days d.year d.month))
    (λ i. next_day-within d h (ltb-true _ _ i))
    (λ i. cases (ltb d.month 12)
    (λ j. next_day-month d h (ltb-false _ _ i) (ltb-true _ _ j))
    (λ j. next_day-year d h (ltb-false _ _ i) (ltb-false _ _ j)))

pub after-steps : (n : ℕ) (d : Date) → CalendarDay d → day_number (after n d) ≡ day_number d + n
unfolding after
after-steps zero d h = omega arith
after-steps (suc n) d h =
    let k = next_day-next d h in
    omega (arith, after-steps n (next_day d) k.0)

pub month_days-to : (y m : ℕ) → month_days y m ≤ 31
unfolding month_days
month_days-to y zero = omega arith
month_days-to y (suc zero) = omega arith
month_days-to y (suc (suc zero)) = omega (arith, february-range y)
month_days-to y (suc (suc (suc zero))) = omega arith
month_days-to y (suc (suc (suc (suc zero)))) = omega arith
month_days-to y (suc (suc (suc (suc (suc zero))))) = omega arith
month_days-to y (suc (suc (suc (suc (suc (suc zero)))))) = omega arith
month_days-to y (suc (suc (suc (suc (suc (suc (suc zero))))))) = omega arith
month_days-to y (suc (suc (suc (suc (suc (suc (suc (suc zero)))))))) = omega arith
month_days-to y (suc (suc (suc (suc (suc (suc (suc (suc (suc zero))))))))) = omega arith
month_days-to y (suc (suc (suc (suc (suc (suc (suc (suc (suc (suc zero)))))))))) = omega arith
month_days-to y (suc (suc (suc (suc (suc (suc (suc (suc (suc (suc (suc zero))))))))))) = omega arith
month_days-to y (suc (suc (suc (suc (suc (suc (suc (suc (suc (suc (suc (suc zero)))))))))))) = omega arith
month_days-to y (suc (suc (suc (suc (suc (suc (suc (suc (suc (suc (suc (suc (suc m))))))))))))) = omega arith

-- ---- calendar days of years 1 to 9999

pub calendar : (d : Date) → is_calendar_day d ≡ true → (d.year ≤ 9999) × (d.day ≤ 31) × CalendarDay d
unfolding is_calendar_day
calendar d h =
    let y = leb 1 d.year in
    let z = leb d.year 9999 in
    let f = leb 1 d.day in
    let t = leb d.day (month_days d.year d.month) in
    let h2 = and_first (y && z && f) t h in
    let h3 = and_first (y && z) f h2 in
    let a = leb-true 1 d.year (and_first y z h3) in
    let b = leb-true d.year 9999 (and_second y z h3) in
    let e = leb-true 1 d.day (and_second (y && z) f h2) in
    let g = leb-true d.day (month_days d.year d.month) (and_second (y && z && f) t h) in
    let m = month_days-some d.year d.month (omega arith) in
    (b, omega (arith, month_days-to d.year d.month), record { year_from = a; month_from = m.0; month_to = m.1; day_from = e; day_to = g })

-- ---- every calendar day is reached from the first, by as many steps as its number says

-- the days of one month, one year
days_before-more : (y m n : ℕ) → m + 1 ≤ n → days_before y m + month_days y m ≤ days_before y n
unfolding days_before
days_before-more y m zero h = absurd (omega arith)
days_before-more y m (suc n) h = cases (ltb m n)
    (λ l. let r = days_before-more y m n (omega (arith, ltb-true m n l)) in omega arith)
    (λ l. let e : m ≡ n = omega (arith, ltb-false m n l) in rw e (omega arith))

years_days-more : (m n : ℕ) → m + 1 ≤ n → years_days m + 337 + february (m + 1) ≤ years_days n
years_days-more m zero h = absurd (omega arith)
years_days-more m (suc n) h =
    let k : suc n - 1 ≡ n = omega arith in
    let s : years_days (suc n) ≡ years_days n + (337 + february (suc n)) = rw k at (years_days-next (suc n) (omega arith)) in
    cases (ltb m n)
    (λ l. let r = years_days-more m n (omega (arith, ltb-true m n l)) in omega (arith, s, february-range (suc n)))
    (λ l. let e : m ≡ n = omega (arith, ltb-false m n l) in let f : n + 1 ≡ suc n = omega arith in rw (e, f) (omega (arith, s)))

-- a day of the year is no more than the year has
module _ (d : Date) (h : CalendarDay d) where
  in_year : (1 ≤ days_before d.year d.month + d.day) × (days_before d.year d.month + d.day ≤ 337 + february d.year)
  in_year = cases (ltb d.month 12)
      (λ l. let r = days_before-more d.year d.month 12 (omega (arith, ltb-true d.month 12 l)) in
      (omega (arith, h.day_from), omega (arith, h.day_to, days_before-december d.year)))
      (λ l. let m : d.month ≡ 12 = omega (arith, ltb-false d.month 12 l, h.month_to) in
      let k : d.day ≤ month_days d.year 12 = rw m at h.day_to in
      (omega (arith, h.day_from), rw m (omega (arith, k, month_days-december d.year, days_before-december d.year))))

  in_month : (m : ℕ) → d.month < m → days_before d.year d.month + d.day ≤ days_before d.year m
  in_month m l = omega (arith, days_before-more d.year d.month m (omega arith), h.day_to)

-- a day number tells the day
module _ (a b : Date) (h : CalendarDay a) (k : CalendarDay b) (e : day_number a ≡ day_number b) where
  year-no : (x y : Date) → CalendarDay x → CalendarDay y → day_number x ≡ day_number y → x.year < y.year → ⊥
  unfolding day_number
  year-no x y f g i l =
      let n : x.year - 1 + 1 ≡ x.year = omega (arith, f.year_from) in
      let m = years_days-more (x.year - 1) (y.year - 1) (omega (arith, f.year_from)) in
      let o : years_days (x.year - 1) + 337 + february x.year ≤ years_days (y.year - 1) = rw n at m in
      omega (arith, o, (in_year x f).1, (in_year y g).0)

  year-same : a.year ≡ b.year
  year-same = cases (ltb a.year b.year)
      (λ l. absurd (year-no a b h k e (ltb-true _ _ l)))
      (λ l. cases (ltb b.year a.year)
      (λ m. absurd (year-no b a k h (sym e) (ltb-true _ _ m)))
      (λ m. omega (arith, ltb-false a.year b.year l, ltb-false b.year a.year m)))

  day-same : days_before a.year a.month + a.day ≡ days_before a.year b.month + b.day
  unfolding day_number
  day-same = let f : days_before b.year b.month ≡ days_before a.year b.month = rw year-same in
      let g : years_days (b.year - 1) ≡ years_days (a.year - 1) = rw year-same in
      omega (arith, e, f, g)

  month-same : a.month ≡ b.month
  month-same = cases (ltb a.month b.month)
      (λ l. absurd (omega (arith, day-same, in_month a h b.month (ltb-true _ _ l), k.day_from)))
      (λ l. cases (ltb b.month a.month)
      (λ m. let i = in_month b k a.month (ltb-true _ _ m) in
      let f : days_before b.year b.month ≡ days_before a.year b.month = rw year-same in
      let g : days_before b.year a.month ≡ days_before a.year a.month = rw year-same in
      absurd (omega (arith, day-same, i, f, g, h.day_from)))
      (λ m. omega (arith, ltb-false a.month b.month l, ltb-false b.month a.month m)))

  pub day_number-only : a ≡ b
  day_number-only =
      let f : days_before a.year a.month ≡ days_before a.year b.month = rw month-same in
      let d : a.day ≡ b.day = omega (arith, day-same, f) in
      cong3 a.year b.year a.month b.month a.day b.day year-same month-same d
    where
      cong3 : (y z m n c d : ℕ) → y ≡ z → m ≡ n → c ≡ d → date_of y m c ≡ date_of z n d
      cong3 y z m n c d p q r = rw (p, q, r)

after-calendar : (n : ℕ) (d : Date) → CalendarDay d → CalendarDay (after n d)
unfolding after
after-calendar zero d h = h
after-calendar (suc n) d h = after-calendar n (next_day d) (next_day-next d h).0

-- a later day is as many steps on as the numbers differ
pub after-days : (a b : Date) → CalendarDay a → CalendarDay b → day_number a ≤ day_number b → after (day_number b - day_number a) a ≡ b
after-days a b h k l =
    let n = day_number b - day_number a in
    day_number-only (after n a) b (after-calendar n a h) k (omega (arith, after-steps n a h))
