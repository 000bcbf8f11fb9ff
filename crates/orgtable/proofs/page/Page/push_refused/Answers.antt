-- `orgtable::page::Page::push_refused` meets its contract: a number below 2 ^ 32 has at most twenty digits. From Digits.
-- Assumes nothing.
use Rattle.std.proofs.Common.{arith, length-append}
use Rattle.text.specs.Runs.{word}
use Rattle.orgtable.proofs.Laws.Digits.{decimal-length}
use Rattle.orgtable.proofs.page.Page.push_refused.Goals as goal

pub push_number-requires : goal.push_number-requires
push_number-requires c =
    let few = decimal-length 19 c.from.result (omega (arith, c.from.ensures)) in
    rw (c.push_all.ensures, length-append) (omega arith)

pub returns-clause-page : goal.returns-clause-page
unfolding word
returns-clause-page c = rw (c.push_all.ensures, c.from.ensures) at c.push_number.ensures

pub returns-clause-upper_bound : goal.returns-clause-upper_bound
returns-clause-upper_bound c =
    let few = decimal-length 19 c.from.result (omega (arith, c.from.ensures)) in
    rw (c.push_number.ensures, c.push_all.ensures, length-append, length-append) (omega arith)
