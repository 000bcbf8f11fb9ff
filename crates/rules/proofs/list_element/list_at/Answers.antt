-- `rules::list_element::list_at` meets its contract: the list's own lines are those that `list_end` finds.
-- Assumes nothing.
use Rattle.std.proofs.Common.{sym, ◌∙◌, arith}
use Rattle.rules.proofs.Laws.LineOf.{line_of-order, line_of-from}
use Rattle.rules.proofs.Laws.Items.{width-part}
use Rattle.rules.proofs.Laws.ListElements.{list-spanned}
use Rattle.rules.proofs.list_element.list_at.Goals as goal

pub indent_width-width-requires : goal.indent_width-width-requires
indent_width-width-requires c =
    let o = line_of-order _ _ _ c.requires.0.line in
    let limit = c.requires.1 in
    omega arith

pub list_end-further-requires : goal.list_end-further-requires
list_end-further-requires c =
    let pre = c.requires in
    record {
      first = pre.0;
      limit = pre.1;
      wide = c.indent_width-width.ensures ∙ sym (width-part _ _ _ _ (line_of-from _ _ _ pre.0.line));
    }

pub list_detail-requires : goal.list_detail-requires
list_detail-requires c = c.requires.0.line

pub returns : goal.returns
returns c =
    let further = c.list_end-further.ensures in
    record { is = list-spanned _ _ _ _ _ c.list_detail.ensures further.run; known = further.known }
