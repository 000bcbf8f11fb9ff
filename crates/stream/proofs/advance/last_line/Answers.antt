-- `stream::advance::last_line` meets its contract.
use Rattle.std.proofs.Common.{◌≡◌, ◌+◌, ◌-◌, get_or, arith}
use Rattle.text.specs.Runs.{all}
use Rattle.text.proofs.Laws.Bytes.{is_not-yes}
use Rattle.text.proofs.Laws.Parts.{part-nil, part-cons}
use Rattle.stream.proofs.advance.last_line.Goals as goal

pub loop-i-init : goal.loop-i-init
unfolding all
loop-i-init c = let a = c.args in (c.requires.0, rw (part-nil a.bytes.now a.to a.to (omega arith)))

pub loop-i-preserved : goal.loop-i-preserved
unfolding all
loop-i-preserved c =
    let a = c.args in
    let x = a.bytes.now in
    let i = c.loop-i.i in
    let some = c.loop-i-test.true in
    let back : i - 1 + 1 ≡ i = omega (arith, some) in
    let first = part-cons x (i - 1) a.to (omega (arith, some, c.loop-i.auto.i)) c.requires.1 in
    (omega (arith, some), rw (first, is_not-yes 10 (get_or x (i - 1) 0) c.if-bytes-i-eq10.false, back) c.loop-i.invariant.1)
