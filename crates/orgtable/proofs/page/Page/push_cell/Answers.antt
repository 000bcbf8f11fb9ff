-- `orgtable::page::Page::push_cell` has room: a number below 2 ^ 32 has at most ten digits. From Digits.
-- Assumes nothing.
use Rattle.std.proofs.Common.{arith, length-append}
use Rattle.orgtable.proofs.Laws.Digits.{decimal-length}
use Rattle.orgtable.proofs.page.Page.push_cell.Goals as goal

pub push_number-requires : goal.push_number-requires
push_number-requires c = let few = decimal-length 9 c.from.result (omega (arith, c.from.ensures)) in omega arith

pub push-requires : goal.push-requires
push-requires c = let few = decimal-length 9 c.from.result (omega (arith, c.from.ensures)) in rw (c.push_number.ensures, length-append) (omega arith)

pub returns-clause-upper_bound : goal.returns-clause-upper_bound
returns-clause-upper_bound c =
    let few = decimal-length 9 c.from.result (omega (arith, c.from.ensures)) in
    rw (c.push.ensures, c.push_number.ensures, length-append, length-append) (omega arith)
