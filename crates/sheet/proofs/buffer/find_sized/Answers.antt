-- `sheet::buffer::find_sized` meets its contract: the bytes of the length, then those that it counts.
use mathlib.Core.Path.{refl}
use native.Mathlib.Omega.{arith}
use Rattle.sheet.proofs.Laws.Buffer.{sized-cut, sized-yes, sized-no}
use Rattle.sheet.proofs.buffer.find_sized.Goals as goal

pub returns-then-size-at : goal.returns-then-size-at
returns-then-size-at c = sized-cut _ _ _ c.requires.0 (omega arith)

pub returns-then-size-from : goal.returns-then-size-from
returns-then-size-from c = sized-no _ _ _ (omega arith) _ c.low_first-n.ensures.0 (omega arith)

pub returns : goal.returns
returns c = (refl, omega arith, omega arith, omega arith, sized-yes _ _ _ (omega arith) _ c.low_first-n.ensures.0 (omega arith))
