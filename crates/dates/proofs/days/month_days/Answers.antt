-- `dates::days::month_days` meets its contract.
-- Assumes nothing.
use Rattle.std.proofs.Common.{◌≡◌, sym, arith}
use mathlib.Core.Logic.{inl, inr}
use Rattle.text.proofs.Basics.{on}
use Rattle.dates.specs.Days.{month_days}
use Rattle.dates.proofs.Laws.Days.{month_days-none, month_days-long}
use Rattle.dates.proofs.days.month_days.Goals as goal

pub returns-then-month-lt1 : goal.returns-then-month-lt1
unfolding month_days
returns-then-month-lt1 c = on c.then-month-lt1.either (λ h. let m : c.args.month ≡ 0 = omega arith in (rw m, omega arith)) (λ h. (sym (month_days-none _ _ h.1), omega arith))

pub returns-in-2 : goal.returns-in-2
unfolding month_days
returns-in-2 c = let e = c.february.ensures in (rw c.in-2.is e.0, omega arith)

pub returns-in-4 : goal.returns-in-4
unfolding month_days
returns-in-4 c = (on c.in-4.is (λ e. rw e) (λ e. on e (λ e. rw e) (λ e. on e (λ e. rw e) (λ e. rw e))), omega arith)

pub returns-in_default : goal.returns-in_default
returns-in_default c = let no = c.in_default.in_default-own.rest in (
  sym (month_days-long _ _ c.if-month-lt1.false c.if-month-gt12.false no.0.1
      (λ e. no.1 (inl e)) (λ e. no.1 (inr (inl e))) (λ e. no.1 (inr (inr (inl e)))) (λ e. no.1 (inr (inr (inr e))))),
  omega arith,
)
