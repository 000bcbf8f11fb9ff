-- `sheet::output::put_between` meets its contract: one piece after another.
use mathlib.Core.List.{◌++◌}
use Prim.Native.Nat.{◌+◌, ◌≤◌}
use native.Mathlib.Omega.{arith}
use lib.ListN.{length, length-append}
use Rattle.sheet.proofs.Laws.Output.{puts-append}
use Rattle.sheet.proofs.output.put_between.Goals as goal

pub returns : goal.returns
returns c =
    let a = c.args in
    let room : a.at + length a.first.now + length a.bytes.now + length a.last.now ≤ length a.out.now =
    omega (arith, length-append a.first.now (a.bytes.now ++ a.last.now), length-append a.bytes.now a.last.now) in
    puts-append c.put-to.ensures
    (puts-append c.put-to-2.ensures c.put.ensures (omega (arith, c.put-to.ensures.next)))
    (omega arith)
