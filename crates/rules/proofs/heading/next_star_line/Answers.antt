-- `rules::heading::next_star_line` meets its contract: a block in which the star is looked for adds to the bytes passed.
-- Assumes nothing.
use Rattle.std.proofs.Common.{arith}
use Rattle.rules.proofs.Laws.NextHeading.{no_star_line-append, no_star_line-block}
use Rattle.rules.proofs.heading.next_star_line.Goals as goal
use Rattle.rules.proofs.heading.next_star_line.Goals.{then-has_byte+else-k-lt64, else-has_byte}

pub returns-then-k-lt64 : goal.returns-then-k-lt64
returns-then-k-lt64 c =
    let s = c.args.text.now in
    let i = c.loop-i.i in
    let k = c.star_line_in-k.result in
    record {
      from = omega arith;
      to = omega arith;
      none =
          no_star_line-append s _ i _ c.loop-i.invariant.2
          (no_star_line-block s i k (λ j l. c.star_line_in-k.ensures.1 j (omega arith) l));
      here = λ h. c.star_line_in-k.ensures.0 c.if-k-lt64.true;
    }

pub loop-i-preserved : goal.loop-i-preserved
loop-i-preserved c =
    let s = c.args.text.now in
    let i = c.loop-i.i in (
      omega arith,
      omega arith,
      no_star_line-append s _ i _ c.loop-i.invariant.2 (no_star_line-block s i 64
          (elim c.if-has_byte.branch [
            | then-has_byte+else-k-lt64 w ↦ λ k l. w.star_line_in-k.ensures.1 k l (omega arith)
            | else-has_byte w ↦ λ k l star. c.has_byte.ensures w.if-has_byte.false k l star.0
          ])),
    )
