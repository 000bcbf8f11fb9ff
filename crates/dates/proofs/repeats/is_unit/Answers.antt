-- `dates::repeats::is_unit` meets its contract.
-- Assumes nothing.
use mathlib.Core.Logic.{inl, inr}
use borrow.Author.Tests.{ne_eqb}
use Rattle.text.proofs.Basics.{on}
use Rattle.dates.specs.Stamps.{is_unit}
use Rattle.dates.proofs.repeats.is_unit.Goals as goal

pub returns-in-100 : goal.returns-in-100
unfolding is_unit
returns-in-100 c = on c.in-100.is (λ e. rw e) (λ k. on k (λ e. rw e) (λ k. on k (λ e. rw e) (λ k. on k (λ e. rw e) (λ e. rw e))))

pub returns-in_default : goal.returns-in_default
unfolding is_unit
returns-in_default c =
    let b = c.args.b in
    let no = c.in_default.in_default-own.rest.1 in
    rw (
      ne_eqb b 100 (λ e. no (inl e)),
      ne_eqb b 104 (λ e. no (inr (inl e))),
      ne_eqb b 109 (λ e. no (inr (inr (inl e)))),
      ne_eqb b 119 (λ e. no (inr (inr (inr (inl e))))),
      ne_eqb b 121 (λ e. no (inr (inr (inr (inr e))))),
    )
