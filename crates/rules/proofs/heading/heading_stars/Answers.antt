-- `rules::heading::heading_stars` meets its contract: the laws of the byte after the stars.
-- Assumes nothing.
use Rattle.std.proofs.Common.{sym}
use Rattle.rules.proofs.Laws.Headings.{heading_stars-here, heading_stars-other, heading_stars-end}
use Rattle.rules.proofs.heading.heading_stars.Goals as goal
use Rattle.rules.proofs.heading.heading_stars.Goals.{else-end-to-via-then-end-to+else-text-end-eq32, else-end-to-via-else-end-to}

pub returns-then-text-end-eq32 : goal.returns-then-text-end-eq32
returns-then-text-end-eq32 c = sym (heading_stars-here _ _ _ _ c.run_end-end.ensures c.if-end-to.true c.if-text-end-eq32.true)

pub returns-else-end-to : goal.returns-else-end-to
returns-else-end-to c =
    elim c.else-end-to.branch [
      | else-end-to-via-then-end-to+else-text-end-eq32 w ↦ sym (heading_stars-other _ _ _ _ c.run_end-end.ensures w.if-end-to.true w.if-text-end-eq32.false)
      | else-end-to-via-else-end-to w ↦ sym (heading_stars-end _ _ _ _ c.run_end-end.ensures c.requires.1 w.if-end-to.false)
    ]
