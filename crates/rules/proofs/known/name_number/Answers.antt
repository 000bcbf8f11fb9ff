-- `rules::known::name_number` meets its contract: one byte more is taken into the number, and none is left at the end.
-- Assumes nothing.
use Rattle.std.proofs.Common.{sym, ap, refl, ◌∙◌, arith}
use Rattle.text.proofs.Laws.Parts.{part_slice}
use Rattle.rules.specs.Known.{name_number}
use Rattle.rules.proofs.Laws.Known.{number-end, number_step}
use Rattle.rules.proofs.known.name_number.Goals as goal

pub loop-b-init : goal.loop-b-init
unfolding name_number
loop-b-init c = (omega arith, refl)

pub loop-b-preserved : goal.loop-b-preserved
loop-b-preserved c =
    (omega arith, rw c.lower.ensures (sym (number_step _ c.loop-b.b-index c.loop-b.n c.loop-b-test.true)) ∙ c.loop-b.invariant.1)

pub returns : goal.returns
returns c =
    let inv = c.loop-b.invariant in (
      sym (number-end _ c.loop-b.b-index c.loop-b.n c.loop-b-test.false) ∙ inv.1 ∙ ap name_number (part_slice _ _ _ c.requires.0),
      inv.0,
    )
