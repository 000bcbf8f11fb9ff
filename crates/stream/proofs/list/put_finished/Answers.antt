-- `stream::list::put_finished` meets its contract.
use Rattle.std.proofs.Common.{sym, ap, ◌∙◌, length, drop, arith}
use Rattle.std.proofs.Math.ListN.{drop_of_length-le}
use Rattle.stream.specs.Headings.{numbers_of, numbers}
use Rattle.stream.specs.Steps.{fed, finished}
use Rattle.stream.proofs.Laws.Lists.{sets-append}
use Rattle.stream.proofs.list.put_finished.Goals as goal

pub put_heading-requires : goal.put_heading-requires
unfolding numbers
put_heading-requires c =
    let l = c.loop-heading in
    let next = rw l.invariant.0 at c.in-Some.ensures.steps.1 in
    omega (arith, ap (λ hs. length (numbers hs)) next.headings, l.invariant.1)

pub loop-heading-preserved : goal.loop-heading-preserved
unfolding numbers
loop-heading-preserved c =
    let l = c.loop-heading in
    let next = rw l.invariant.0 at c.in-Some.ensures.steps.1 in
    let t = c.next.new.self in
    let rest = numbers (finished t.state (drop t.at c.args.bytes.now)) in
    let h = numbers_of c.in-Some.heading in
    let e = ap numbers next.headings in (
      c.in-Some.ensures.steps.0 ∙ l.invariant.0,
      omega (arith, ap length e, l.invariant.1, c.put_heading.auto.list),
      sym next.state ∙ l.invariant.2,
      rw c.put_heading.ensures (sym (sets-append l.list l.to h rest) ∙ rw e at l.invariant.3),
    )

pub returns-clause-value : goal.returns-clause-value
unfolding fed
returns-clause-value c =
    let l = c.loop-heading in
    let next = rw l.invariant.0 at c.in_default.ensures.steps.1 in
    let none = drop_of_length-le c.args.bytes.now next.ended in
    rw none at (sym next.state ∙ l.invariant.2)

pub returns-clause-list_after : goal.returns-clause-list_after
unfolding finished numbers
returns-clause-list_after c =
    let l = c.loop-heading in
    let next = rw l.invariant.0 at c.in_default.ensures.steps.1 in
    let none = drop_of_length-le c.args.bytes.now next.ended in
    rw (next.headings, none) at l.invariant.3
