-- `sheet::sheet::put_sheet` meets its contract: the title's line, the drawer's first, the pairs' and the drawer's last.
use mathlib.Core.List.{List, [], ◌∷◌, ◌++◌}
use Prim.Native.Nat.{ℕ, ◌+◌, ◌-◌, ◌≤◌}
use native.Mathlib.Omega.{arith}
use lib.ListN.{length, take, drop}
use Rattle.text.specs.Runs.{word}
use Rattle.text.specs.Parts.{part}
use Rattle.text.proofs.Laws.Parts.{part_slice}
use Rattle.sheet.specs.Order.{Order}
use Rattle.sheet.specs.Buffer.{text_width}
use Rattle.sheet.specs.Sheet.{title_line, pair_lines, open_line, close_line, join, sheet}
use Rattle.sheet.specs.Output.{Puts}
use Rattle.sheet.specs.Spans.{order_at}
use Rattle.sheet.proofs.Laws.Output.{puts-append}
use Rattle.sheet.proofs.Laws.Sizes.{title_line-length, open_line-length, sheet-is, sheet-length}
use Rattle.sheet.proofs.sheet.put_sheet.Goals as goal

-- there is room for each piece
room : (o : Order) (n : ℕ) → length (sheet o) ≤ n → length (title_line o.title) + 13 + length (join (pair_lines o.pairs)) + 6 ≤ n
room o n h = omega (arith, title_line-length o.title, sheet-length o)

-- the title is laid
title : {d d' : List ℕ} {a n : ℕ} (x : List ℕ) (p e : ℕ) → p ≤ e → Puts d a ((42 ∷ 32 ∷ []) ++ (take (e - p) (drop p x) ++ (10 ∷ []))) d' n →
    Puts d a (title_line (part x p e)) d' n
unfolding title_line word
title x p e h k = rw (part_slice x p e h) at k

pub put_between-to-requires : goal.put_between-to-requires
unfolding title_line word
put_between-to-requires c =
    let a = c.args in
    rw (part_slice a.buffer.now text_width a.layout.title c.requires.0.from)
    (omega (arith, room (order_at a.buffer.now a.layout) (length a.out.now) c.requires.1))

pub put-to-requires : goal.put-to-requires
put-to-requires c =
    let a = c.args in
    let t = title a.buffer.now text_width a.layout.title c.requires.0.from c.put_between-to.ensures in
    omega (arith, room (order_at a.buffer.now a.layout) (length a.out.now) c.requires.1, t.next)

pub put_pairs-to-requires : goal.put_pairs-to-requires
put_pairs-to-requires c =
    let a = c.args in
    let t = title a.buffer.now text_width a.layout.title c.requires.0.from c.put_between-to.ensures in (
      c.requires.0.pairs,
      omega (arith, room (order_at a.buffer.now a.layout) (length a.out.now) c.requires.1, t.next, c.put-to.ensures.next),
    )

pub put-requires : goal.put-requires
put-requires c =
    let a = c.args in
    let t = title a.buffer.now text_width a.layout.title c.requires.0.from c.put_between-to.ensures in
    omega (
      arith,
      room (order_at a.buffer.now a.layout) (length a.out.now) c.requires.1,
      t.next,
      c.put-to.ensures.next,
      c.put_pairs-to.ensures.next,
    )

-- and the drawer's first line
opened : {d d' : List ℕ} {a n : ℕ} →
    Puts d a (58 ∷ 80 ∷ 82 ∷ 79 ∷ 80 ∷ 69 ∷ 82 ∷ 84 ∷ 73 ∷ 69 ∷ 83 ∷ 58 ∷ 10 ∷ []) d' n → Puts d a open_line d' n
unfolding open_line word
opened k = k

pub returns : goal.returns
unfolding close_line word
returns c =
    let a = c.args in
    let o = order_at a.buffer.now a.layout in
    let r = room o (length a.out.now) c.requires.1 in
    let t = title a.buffer.now text_width a.layout.title c.requires.0.from c.put_between-to.ensures in
    let p = opened c.put-to.ensures in
    rw (sheet-is o)
    (puts-append t
    (puts-append p (puts-append c.put_pairs-to.ensures c.put.ensures (omega (arith, r, t.next, p.next, open_line-length)))
    (omega (arith, r, t.next, open_line-length)))
    (omega (arith, r)))
