-- `rules::list::lines_together` meets its contract: a line whose first byte is none that rules 3 to 5 want stands alone, and what is known stays.
-- Assumes nothing.
use mathlib.Core.Path.{◌∙◌}
use native.Mathlib.Omega.{arith}
use borrow.Author.Rules.{rules}
use Rattle.rules.proofs.Laws.LineOf.{after-end, line_of, line_span-start}
use Rattle.rules.proofs.Laws.NoLines.{knows_line}
use Rattle.rules.proofs.Laws.ScanRuns.{body-within, line-alone}
use Rattle.rules.proofs.list.lines_together.Goals as goal

pub bounds-text-body : goal.bounds-text-body
bounds-text-body c =
    let pre = c.requires in
    let within = body-within _ _ _ _ pre.some pre.text pre.body pre.nonblank in
    omega arith

pub together_end-requires : goal.together_end-requires
together_end-requires c =
    let pre = c.requires in
    let start = line_span-start _ _ _ _ c.line_at.ensures in
    record { line = line_of _ _ _ _ pre.some pre.text c.line_at.ensures; known = rw start pre.known }

pub line_end-requires : goal.line_end-requires
line_end-requires c =
    let pre = c.requires in
    let within = body-within _ _ _ _ pre.some pre.text pre.body pre.nonblank in
    omega arith

pub returns-in-35 : goal.returns-in-35
returns-in-35 c = rw (line_span-start _ _ _ _ c.line_at.ensures) at c.together_end.ensures

pub returns-in_default : goal.returns-in_default
returns-in_default c =
    let pre = c.requires in
    let end = c.line_end.ensures ∙ after-end _ _ _ _ pre.body in
    let alone = line-alone _ _ _ _ pre.some pre.text pre.body pre.nonblank in
    record {
      run = alone (search rules) (search rules) (search rules) _ end;
      known = rw end (knows_line _ _ _ _ _ pre.known);
    }
