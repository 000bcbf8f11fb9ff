-- `orgtable::page::Page::push_refusal` meets its contract. From Lines.
-- Assumes nothing.
use Rattle.orgtable.proofs.Laws.Lines.{refused-alone}
use Rattle.orgtable.proofs.page.Page.push_refusal.Goals as goal

pub returns : goal.returns
returns c = refused-alone _ _ _ c.push_refused.ensures.page _ c.push.ensures
