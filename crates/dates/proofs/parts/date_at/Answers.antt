-- `dates::parts::date_at` meets its contract.
-- Assumes nothing.
use Prim.Native.Nat.{◌+◌}
use native.Mathlib.Omega.{arith}
use Rattle.text.proofs.Laws.Parts.{part-take}
use Rattle.dates.proofs.Laws.Reads.{take_part}
use Rattle.dates.proofs.parts.date_at.Goals as goal

pub returns : goal.returns
returns c =
    let at-digits-value2 = c in
    let at-digits-value = at-digits-value2 in
    let start = at-digits-value in
    let s = start.args.text.now in
    let at = start.args.at in
    let to = start.args.to in
    let y = part-take s 4 at to (omega arith) in
    let m = take_part s at to 5 2 (at + 5) (at + 7) (omega arith) (omega arith) (omega arith) in
    let d = take_part s at to 8 2 (at + 8) (at + 10) (omega arith) (omega arith) (omega arith) in
    rw (y, m, d, at-digits-value.digits_value.ensures, at-digits-value2.digits_value-2.ensures, c.digits_value-3.ensures)
