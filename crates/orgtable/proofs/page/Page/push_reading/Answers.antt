-- `orgtable::page::Page::push_reading` meets its contract, by what `read` promises. From Answers.
-- Assumes nothing.
use Rattle.std.proofs.Common.{ap, ◌∙◌, ◌++◌}
use Rattle.orgtable.proofs.Laws.Answers.{settled-printed}
use Rattle.orgtable.proofs.page.Page.push_reading.Goals as goal

pub returns : goal.returns
returns c = c.push_answer.ensures ∙ ap (λ bs. c.args.self.now ++ bs) (settled-printed _ _ _ _ c.read-answer.ensures)
