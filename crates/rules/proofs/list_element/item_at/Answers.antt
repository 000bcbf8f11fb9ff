-- `rules::list_element::item_at` meets its contract: the item's further lines are those that `item_end` finds.
-- Assumes nothing.
use Rattle.std.proofs.Common.{sym, ap, ◌∙◌, arith}
use Rattle.text.specs.Parts.{lines_in}
use Rattle.text.proofs.Laws.LinesIn.{lines_in-length}
use Rattle.rules.specs.Scans.{run_by, item_run}
use Rattle.rules.specs.declared.lines.LineRun.{LineRun}
use Rattle.rules.proofs.Laws.LineOf.{line_of-order, line_of-from}
use Rattle.rules.proofs.Laws.NoLines.{knows-next}
use Rattle.rules.proofs.Laws.Scans.{item_lines-le}
use Rattle.rules.proofs.Laws.Items.{width-part}
use Rattle.rules.proofs.Laws.ListElements.{item-spanned}
use Rattle.rules.proofs.list_element.item_at.Goals as goal

pub indent_width-width-requires : goal.indent_width-width-requires
indent_width-width-requires c =
    let o = line_of-order _ _ _ c.requires.0.line in
    let limit = c.requires.1 in
    omega arith

pub item_end-further-requires : goal.item_end-further-requires
item_end-further-requires c =
    let pre = c.requires in
    let o = line_of-order _ _ _ pre.0.line in
    record { order = o.4; text = o.5; limit = pre.1; known = knows-next _ _ _ _ _ pre.0.line pre.0.known }

pub overflow_add-result : goal.overflow_add-result
unfolding item_run run_by
overflow_add-result c =
    let s = c.args.text.now in
    let l = c.args.line in
    let e = c.args.scope.end in
    let o = line_of-order _ _ _ c.requires.0.line in
    let lines = ap (λ (x : LineRun). x.lines) c.item_end-further.ensures.run in
    omega (arith, lines, item_lines-le c.indent_width-width.result 0 (lines_in s l.end e), lines_in-length s l.end e o.4 o.5)

pub left_start-requires : goal.left_start-requires
left_start-requires c = c.requires.0.line

pub returns : goal.returns
returns c =
    let line = c.requires.0.line in
    let further = c.item_end-further.ensures in
    let wide = c.indent_width-width.ensures ∙ sym (width-part _ _ _ _ (line_of-from _ _ _ line)) in
    record { is = item-spanned _ _ _ line _ wide _ further.run _ c.left_start.ensures; known = further.known }
