-- `rules::list::item_end` meets its contract: the lines after those that stand alone are counted on from these.
-- Assumes nothing.
use mathlib.Core.Path.{◌∙◌}
use native.Mathlib.Omega.{arith}
use Rattle.text.proofs.Laws.LinesIn.{within-lines_in}
use Rattle.rules.specs.Scans.{item_run}
use Rattle.rules.proofs.Laws.NoLines.{knows_more}
use Rattle.rules.proofs.Laws.ScanRuns.{run_by-on, item-knows, item-lines, item-total}
use Rattle.rules.proofs.list.item_end.Goals as goal

pub returns-in-Whole : goal.returns-in-Whole
returns-in-Whole c =
    let run = c.in-Whole.ensures in
    record { run = run; known = item-knows _ _ _ _ _ run _ _ c.requires.known }

pub item_rest-further-requires : goal.item_rest-further-requires
item_rest-further-requires c =
    let end = c.in-Begun.ensures.end in
    let lines = c.in-Begun.begun.lines in
    let pre = c.requires in
    record {
      order = rw end (within-lines_in _ _ _ pre.order pre.text lines);
      text = pre.text;
      limit = pre.limit;
      known = rw end (knows_more _ _ _ _ _ pre.known lines);
    }

-- no more are counted than there are bytes
pub overflow_add-result : goal.overflow_add-result
overflow_add-result c =
    let pre = c.requires in
    let all = item-total _ _ _ _ _ _ pre.order pre.text c.in-Begun.ensures.item in
    let lines = item-lines _ _ _ _ _ c.item_rest-further.ensures.run in
    omega (arith, pre.limit)

pub returns-in-Begun : goal.returns-in-Begun
unfolding item_run
returns-in-Begun c =
    let rest = c.item_rest-further.ensures in
    record { run = run_by-on _ _ _ _ _ _ rest.run ∙ c.in-Begun.ensures.item; known = rest.known }
