-- `sheet::sheet::put_pair` meets its contract: the key between its colons, the value, byte 10.
use mathlib.Core.List.{List, [], ◌∷◌, ◌++◌}
use Prim.Native.Nat.{ℕ, ◌+◌, ◌-◌, ◌≤◌}
use native.Mathlib.Omega.{arith}
use lib.ListN.{length, take, drop}
use Rattle.text.specs.Runs.{word}
use Rattle.text.specs.Parts.{part}
use Rattle.text.proofs.Laws.Parts.{part_slice}
use Rattle.sheet.specs.Order.{Pair}
use Rattle.sheet.specs.Sheet.{marked_key, spaced, pair_line}
use Rattle.sheet.specs.Output.{Puts}
use Rattle.sheet.specs.Spans.{pair_of}
use Rattle.sheet.proofs.Laws.Output.{puts-append}
use Rattle.sheet.proofs.Laws.Sizes.{marked_key-length, pair_line-length}
use Rattle.sheet.proofs.sheet.put_pair.Goals as goal

-- there is room for each piece
room : (p : Pair) (at n : ℕ) → at + length (pair_line p) ≤ n → at + length (marked_key p.key) + length (spaced p.value) + 1 ≤ n
room p at n h = omega (arith, marked_key-length p.key, pair_line-length p)

-- the key is laid
key : {d d' : List ℕ} {a n : ℕ} (x : List ℕ) (p e : ℕ) → p ≤ e → Puts d a ((58 ∷ []) ++ (take (e - p) (drop p x) ++ (58 ∷ []))) d' n →
    Puts d a (marked_key (part x p e)) d' n
unfolding marked_key word
key x p e h k = rw (part_slice x p e h) at k

pub put_between-end-requires : goal.put_between-end-requires
unfolding marked_key word
put_between-end-requires c =
    let a = c.args in
    rw (part_slice a.buffer.now a.pair.from a.pair.to c.requires.0.key)
    (omega (arith, room (pair_of a.buffer.now a.pair) a.at (length a.out.now) c.requires.1))

pub put_value-end-requires : goal.put_value-end-requires
put_value-end-requires c =
    let a = c.args in
    let k = key _ _ _ c.requires.0.key c.put_between-end.ensures in (
      c.requires.0.value,
      c.requires.0.inside,
      omega (arith, room (pair_of a.buffer.now a.pair) a.at (length a.out.now) c.requires.1, k.next),
    )

pub put-requires : goal.put-requires
put-requires c =
    let a = c.args in
    let k = key _ _ _ c.requires.0.key c.put_between-end.ensures in
    omega (arith, room (pair_of a.buffer.now a.pair) a.at (length a.out.now) c.requires.1, k.next, c.put_value-end.ensures.next)

pub returns : goal.returns
unfolding pair_line word
returns c =
    let a = c.args in
    let r = room (pair_of a.buffer.now a.pair) a.at (length a.out.now) c.requires.1 in
    let k = key _ _ _ c.requires.0.key c.put_between-end.ensures in
    puts-append k (puts-append c.put_value-end.ensures c.put.ensures (omega (arith, r, k.next))) (omega (arith, r))
