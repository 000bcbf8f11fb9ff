-- `rules::item::indent_width` meets its contract: a byte counts 8 or 1, and nothing is left at the end.
-- Assumes nothing.
use Rattle.std.proofs.Common.{ap, arith}
use Rattle.text.proofs.Laws.Parts.{part_slice}
use Rattle.rules.specs.Items.{width_of}
use Rattle.rules.proofs.Laws.Items.{width_of-nil, width_of-tab, width_of-other}
use Rattle.rules.proofs.item.indent_width.Goals as goal
use Rattle.rules.proofs.item.indent_width.Goals.{then-b-eq9, else-b-eq9}

pub loop-b-preserved : goal.loop-b-preserved
loop-b-preserved c =
    let i = c.loop-b.b-index in
    let h = c.loop-b-test.true in
    elim c.if-b-eq9.branch [
      | then-b-eq9 w ↦ omega (arith, width_of-tab _ i h w.if-b-eq9.true)
      | else-b-eq9 w ↦ omega (arith, width_of-other _ i h w.if-b-eq9.false)
    ]

pub returns : goal.returns
returns c =
    let nil = width_of-nil _ c.loop-b.b-index c.loop-b-test.false in
    omega (arith, ap width_of (part_slice c.args.text.now _ _ c.requires.0))
