-- `stream::heading::heading_of` meets its contract.
use Rattle.std.proofs.Common.{sym, ◌∙◌}
use borrow.Table.Steps.{cases}
use Rattle.stream.proofs.Laws.Steps.{last-yes, last-no}
use Rattle.stream.proofs.heading.heading_of.Goals as goal

pub returns : goal.returns
returns c =
    let e = c.then_some.ensures in
    let is = sym c.in_heading.ensures in
    rw e (cases c.in_heading.result (λ h. rw h (sym (last-yes _ (is ∙ h)))) (λ h. rw h (sym (last-no _ (is ∙ h)))))
