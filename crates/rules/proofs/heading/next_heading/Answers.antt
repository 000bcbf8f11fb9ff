-- `rules::heading::next_heading` meets its contract: a line that is no heading line is passed over, up to the next star at a line's start.
-- Assumes nothing.
use Rattle.std.proofs.Common.{sym, ◌∙◌, arith}
use Rattle.rules.proofs.Laws.Headings.{up_to-here, up_to-none, up_to-over, next_line-end}
use Rattle.rules.proofs.Laws.NextHeading.{next_line-star}
use Rattle.text.proofs.Laws.LinesIn.{next_line-here}
use Rattle.rules.proofs.heading.next_heading.Goals as goal
use Rattle.rules.proofs.heading.next_heading.Goals.{else-stars-gt0-via-then-stars-gt0+else-stars-most, else-stars-gt0-via-else-stars-gt0}

pub returns-then-stars-most : goal.returns-then-stars-most
returns-then-stars-most c =
    sym (next_line-here _ _ _ (up_to-here _ _ _ c.heading_stars-stars.ensures c.if-stars-gt0.true c.if-stars-most.true)) ∙ c.loop-at.invariant.1

pub loop-at-preserved : goal.loop-at-preserved
loop-at-preserved c =
    let star = c.next_star_line-at.ensures in
    elim c.else-stars-gt0.branch [
      | else-stars-gt0-via-then-stars-gt0+else-stars-most w ↦ (
        star.to,
        sym (next_line-star _ _ _ _ (up_to-over _ _ _ c.heading_stars-stars.ensures w.if-stars-most.false) star) ∙ c.loop-at.invariant.1,
      )
      | else-stars-gt0-via-else-stars-gt0 w ↦ (
        star.to,
        sym (next_line-star _ _ _ _ (up_to-none _ _ _ c.heading_stars-stars.ensures w.if-stars-gt0.false) star) ∙ c.loop-at.invariant.1,
      )
    ]

pub returns : goal.returns
returns c = sym (next_line-end _ _ _ c.loop-at.invariant.0 (omega arith)) ∙ c.loop-at.invariant.1
