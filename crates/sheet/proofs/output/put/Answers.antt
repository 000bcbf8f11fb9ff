-- `sheet::output::put` meets its contract: each turn lays one byte more, and at the end all are laid.
use mathlib.Core.Path.{refl, ap, ◌∙◌}
use lib.Seq.{take_all}
use Rattle.sheet.specs.Output.{laid}
use Rattle.sheet.proofs.Laws.Output.{laid_none, laid-turn}
use Rattle.sheet.proofs.output.put.Goals as goal

pub loop-i-init : goal.loop-i-init
loop-i-init c = laid_none _ _ c.args.bytes.now

pub loop-i-preserved : goal.loop-i-preserved
loop-i-preserved c = rw c.loop-i.invariant (laid-turn _ _ _ c.loop-i.i c.loop-i-test.true c.requires)

pub returns : goal.returns
returns c = record { output = c.loop-i.invariant ∙ ap (laid _ _) (take_all _ _ c.loop-i-test.false); next = refl }
