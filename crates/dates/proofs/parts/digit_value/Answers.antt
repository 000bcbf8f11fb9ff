-- `dates::parts::digit_value` meets its contract.
-- Assumes nothing.
use mathlib.Core.Path.{sym, ◌∙◌}
use native.Mathlib.Omega.{arith}
use borrow.Author.Tests.{leb-true}
use Rattle.text.specs.Bytes.{is_digit}
use Rattle.text.proofs.Basics.{and_first, and_second}
use lib.Dec.{leb}
use Rattle.dates.specs.Reads.{digit}
use Rattle.dates.proofs.parts.digit_value.Goals as goal

pub overflow_sub-result : goal.overflow_sub-result
unfolding is_digit
overflow_sub-result c =
    let at-is-digit = c in
    let low = leb-true 48 at-is-digit.args.b (and_first _ _ (sym at-is-digit.is_digit.ensures ∙ c.if-is_digit.true)) in
    omega arith

pub returns-then-is_digit : goal.returns-then-is_digit
unfolding digit is_digit
returns-then-is_digit c =
    let at-is-digit = c in
    let start = at-is-digit in
    let d = sym at-is-digit.is_digit.ensures ∙ c.if-is_digit.true in
    let top = leb-true start.args.b 57 (and_second (leb 48 start.args.b) _ d) in
    (rw d, omega arith)

pub returns-else-is_digit : goal.returns-else-is_digit
unfolding digit
returns-else-is_digit c = (rw (sym c.is_digit.ensures ∙ c.if-is_digit.false), omega arith)
