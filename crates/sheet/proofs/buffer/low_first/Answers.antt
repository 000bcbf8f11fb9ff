-- `sheet::buffer::low_first` meets its contract: each turn takes in the byte before those it has.
use mathlib.Core.Path.{◌≡◌}
use Prim.Native.Nat.{◌+◌, ◌-◌}
use native.Mathlib.Omega.{arith}
use Rattle.sheet.proofs.Laws.Buffer.{low-none, low_turn, reach-none, reach-more, reach-fits}
use Rattle.sheet.proofs.buffer.low_first.Goals as goal

pub loop-i-init : goal.loop-i-init
loop-i-init c = let w = c.args.width in let k : w - w ≡ 0 = omega arith in (omega arith, low-none _ _ _ (omega arith), rw k reach-none)

pub overflow_mul-n : goal.overflow_mul-n
overflow_mul-n c = omega (arith, reach-fits (c.args.width - c.loop-i.i) (omega arith))

pub overflow_add-n-in-loop-i : goal.overflow_add-n-in-loop-i
overflow_add-n-in-loop-i c =
    let i = c.loop-i.i in
    omega (arith, reach-fits (c.args.width - i) (omega arith), c.type_inv.buffer (c.args.at + (i - 1)))

pub loop-i-preserved : goal.loop-i-preserved
loop-i-preserved c =
    let a = c.args in
    let i = c.loop-i.i in
    let p : a.at + (i - 1) + 1 ≡ a.at + i = omega arith in
    let w : a.width - (i - 1) ≡ a.width - i + 1 = omega arith in (
      omega arith,
      low_turn _ (a.at + (i - 1)) _ (omega arith) (omega arith) _ (rw p c.loop-i.invariant.1),
      rw (w, reach-more (a.width - i)) (omega (arith, c.type_inv.buffer (a.at + (i - 1)))),
    )
