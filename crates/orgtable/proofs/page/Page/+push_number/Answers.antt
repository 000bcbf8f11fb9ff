-- `orgtable::page::Page::push_number` meets its contract: a number's digits are those of its tenth, and one more. From Digits.
-- Assumes nothing.
use Rattle.std.proofs.Common.{arith, length-append}
use Rattle.orgtable.proofs.Laws.Digits.{decimal-one, decimal-more, decimal-turn}
use Rattle.orgtable.proofs.page.Page.+push_number.Goals as goal

pub push-requires : goal.push-requires
push-requires t c = let one = decimal-one c.args.n c.if-n-lt10.true in let room = rw one at c.requires in omega arith

pub returns-then-n-lt10 : goal.returns-then-n-lt10
returns-then-n-lt10 t c = rw (decimal-one c.args.n c.if-n-lt10.true) c.push.ensures

pub push_number-requires : goal.push_number-requires
push_number-requires t c =
    let more = decimal-more c.args.n c.if-n-lt10.false in
    let room = rw (more, length-append) at c.requires in
    (omega (arith, c.decreases), omega arith)

pub push-requires-2 : goal.push-requires-2
push-requires-2 t c =
    let more = decimal-more c.args.n c.if-n-lt10.false in
    let room = rw (more, length-append) at c.requires in
    rw (c.push_number.ensures, length-append) (omega arith)

pub returns : goal.returns
returns t c = decimal-turn _ _ _ _ c.if-n-lt10.false c.push_number.ensures c.push-2.ensures
