-- `dates::parts::time_with` meets its contract.
-- Assumes nothing.
use Prim.Native.Nat.{◌+◌}
use native.Mathlib.Omega.{arith}
use Rattle.text.proofs.Laws.Parts.{part-take}
use Rattle.dates.specs.Stamps.{time_with}
use Rattle.dates.proofs.Laws.Reads.{take_part}
use Rattle.dates.proofs.parts.time_with.Goals as goal

pub returns : goal.returns
unfolding time_with
returns c =
    let at-digits-value = c in
    let start = at-digits-value in
    let s = start.args.text.now in
    let h = part-take s start.args.digits start.args.at start.args.to (omega arith) in
    let from = start.args.at + start.args.digits + 1 in
    let to = start.args.at + start.args.digits + 3 in
    let m = take_part s start.args.at start.args.to (start.args.digits + 1) 2 from to (omega arith) (omega arith) (omega arith) in
    rw (h, m, at-digits-value.digits_value.ensures, c.digits_value-2.ensures)
