-- `intake::book::put_added` meets its contract: the sheet stands at the front of what is lent, or after the byte 10 there.
use mathlib.Core.Path.{◌≡◌, ap, ◌∙◌}
use mathlib.Core.Bool.{Bool, false}
use mathlib.Core.List.{List}
use Prim.Native.Nat.{ℕ, ◌+◌, ◌-◌, ◌<◌, ◌≤◌}
use native.Mathlib.Omega.{arith}
use lib.ListN.{length, set, length-set}
use borrow.Rule.Slice.PartMut.{put_mid}
use Rattle.sheet.proofs.Laws.Output.{laid-lent, laid-first}
use Rattle.intake.specs.Book.{added_to}
use Rattle.intake.proofs.book.put_added.Goals as goal

-- There is room for the byte 10 and the sheet after it.
room : (x y : List ℕ) (e : Bool) → e ≡ false → length (added_to e x) ≤ length y → length x < length y
unfolding added_to
room x y e f h = let k = rw f at h in omega (arith, k)

-- So there is past the byte 10.
past : (x y : List ℕ) (e : Bool) → e ≡ false → length (added_to e x) ≤ length y → length x + 1 ≤ length (set y 0 10)
past x y e f h = omega (arith, room x y e f h, length-set y 0 10)

pub put_sheet-requires : goal.put_sheet-requires
unfolding added_to
put_sheet-requires c = let p = c.requires in (p.0, rw c.if-ended.true at p.1)

pub bounds-free-0 : goal.bounds-free-0
bounds-free-0 c = omega (arith, room _ _ _ c.if-ended.false c.requires.1)

pub slice_bounds-put_sheet-count : goal.slice_bounds-put_sheet-count
slice_bounds-put_sheet-count c = omega (arith, past _ _ _ c.if-ended.false c.requires.1)

pub slice_bounds-put_sheet-start : goal.slice_bounds-put_sheet-start
slice_bounds-put_sheet-start c = omega (arith, past _ _ _ c.if-ended.false c.requires.1)

pub put_sheet-requires-else-ended : goal.put_sheet-requires-else-ended
put_sheet-requires-else-ended c = (c.requires.0, omega (arith, past _ _ _ c.if-ended.false c.requires.1))

pub returns-then-ended : goal.returns-then-ended
unfolding added_to
returns-then-ended c = rw c.if-ended.true c.put_sheet.ensures.output

pub returns-else-ended : goal.returns-else-ended
unfolding added_to
returns-else-ended c =
    let free = c.args.free.now in
    let some = room _ _ _ c.if-ended.false c.requires.1 in
    rw c.if-ended.false
    (ap (put_mid 1 (length (set free 0 10) - 1) (set free 0 10)) c.put_sheet-else-ended.ensures.output
    ∙ laid-lent (set free 0 10) 1 _ (omega (arith, some, length-set free 0 10)) ∙ laid-first free 10 _ (omega (arith, some)))
