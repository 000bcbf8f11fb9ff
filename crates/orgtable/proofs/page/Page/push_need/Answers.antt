-- `orgtable::page::Page::push_need` meets its contract: a number below 2 ^ 64 has at most twenty digits. From Digits and Lines.
-- Assumes nothing.
use Rattle.std.proofs.Common.{arith, length-append}
use Rattle.orgtable.proofs.Laws.Digits.{decimal-length}
use Rattle.orgtable.proofs.Laws.Lines.{refused-with}
use Rattle.orgtable.proofs.page.Page.push_need.Goals as goal

pub push_number-requires : goal.push_number-requires
push_number-requires c =
    let few = decimal-length 19 c.args.count (omega arith) in
    rw (c.push.ensures, length-append) (omega arith)

pub push-requires-2 : goal.push-requires-2
push-requires-2 c =
    let few = decimal-length 19 c.args.count (omega arith) in
    rw (c.push_number.ensures, c.push.ensures, length-append, length-append) (omega arith)

pub returns : goal.returns
returns c = refused-with _ _ _ c.push_refused.ensures.page _ _ _ _ c.push.ensures c.push_number.ensures c.push-2.ensures
