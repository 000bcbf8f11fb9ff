-- `sheet::sheet::put_value` meets its contract: a space, then the value.
use mathlib.Core.Path.{◌≡◌}
use mathlib.Core.List.{List, ◌∷◌}
use Prim.Native.Nat.{ℕ, ◌+◌, ◌≤◌, ◌<◌}
use native.Mathlib.Omega.{arith}
use lib.ListN.{length}
use Rattle.text.specs.Parts.{part}
use Rattle.text.proofs.Laws.Parts.{part_length, part_slice}
use Rattle.sheet.specs.Sheet.{spaced}
use Rattle.sheet.proofs.Laws.Output.{puts-nil, puts-append}
use Rattle.sheet.proofs.Laws.Sizes.{spaced-none, spaced-some}
use Rattle.sheet.proofs.sheet.put_value.Goals as goal

pub returns-then-end-value : goal.returns-then-end-value
returns-then-end-value c =
    let a = c.args in
    let v = part_length a.buffer.now a.value a.end c.requires.1 in
    rw (spaced-none (part a.buffer.now a.value a.end) (omega arith)) (puts-nil _ _)

-- a value that is not empty, and the room for it
full : (x : List ℕ) (a e at room : ℕ) → e ≤ length x → a < e → at + length (spaced (part x a e)) ≤ room →
    (spaced (part x a e) ≡ 32 ∷ part x a e) × (at + 1 + length (part x a e) ≤ room)
full x a e at room h i k =
    let n = part_length x a e h in
    let s = spaced-some (part x a e) (omega arith) in
    let there : at + length (32 ∷ part x a e) ≤ room = rw s at k in
    (s, omega arith)

pub put-to-requires : goal.put-to-requires
put-to-requires c =
    let a = c.args in
    omega (arith, (full a.buffer.now a.value a.end a.at (length a.out.now) c.requires.1 c.if-end-value.false c.requires.2).1)

pub put-requires : goal.put-requires
put-requires c =
    let a = c.args in
    rw (part_slice a.buffer.now a.value a.end c.requires.0)
    (omega (
      arith,
      (full a.buffer.now a.value a.end a.at (length a.out.now) c.requires.1 c.if-end-value.false c.requires.2).1,
      c.put-to.ensures.next,
    ))

pub returns : goal.returns
returns c =
    let a = c.args in
    let f = full a.buffer.now a.value a.end a.at (length a.out.now) c.requires.1 c.if-end-value.false c.requires.2 in
    rw f.0 (puts-append c.put-to.ensures (rw (part_slice _ _ _ c.requires.0) at c.put.ensures) (omega (arith, f.1)))
