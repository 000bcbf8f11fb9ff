-- `dates::days::is_calendar_day` meets its contract. Assumes nothing.
use Rattle.std.proofs.Common.{◌≡◌, false}
use Rattle.text.proofs.Basics.{on}
use borrow.Author.Tests.{lt-leb, le-leb}
use Rattle.dates.specs.Days.{is_calendar_day}
use Rattle.dates.proofs.days.is_calendar_day.Goals as goal

pub returns-then-date-ge1-2 : goal.returns-then-date-ge1-2
unfolding is_calendar_day
returns-then-date-ge1-2 c =
    let h = c.if-date-ge1-2.true in
    rw (le-leb 1 _ h.0, le-leb _ 9999 h.1, le-leb 1 _ h.2, c.month_days.ensures.0)

pub returns-else-date-ge1-2 : goal.returns-else-date-ge1-2
unfolding is_calendar_day
returns-else-date-ge1-2 c =
    let d = c.args.date in
    let no : is_calendar_day d ≡ false =
    on c.if-date-ge1-2.either
    (λ h. rw (le-leb 1 d.year h.0, le-leb d.year 9999 h.1, lt-leb 1 d.day h.2))
    (λ h. on h (λ h. rw (le-leb 1 d.year h.0, lt-leb d.year 9999 h.1)) (λ h. rw (lt-leb 1 d.year h))) in
    cc
