-- `rules::item::may_be_item` meets its contract: a body whose first byte is outside the range of signs has no bullet where it has no second byte, or
-- one outside the range of digits and marks.
-- Assumes nothing.
use mathlib.Core.Logic.{◌⊎◌, inl, inr}
use Prim.Native.Nat.{ℕ, ◌≤◌, ◌<◌}
use borrow.Author.Tests.{leb-false}
use Rattle.rules.proofs.Laws.ItemFirst.{Outside, item-one-byte, item-two-bytes}
use Rattle.rules.proofs.item.may_be_item.Goals as goal

-- past the first test
outside : (b : ℕ) → ((42 ≤ b) × (45 < b)) ⊎ (b < 42) → Outside 42 45 b
outside b (inl h) = inl h.1
outside b (inr h) = inr h

pub returns-then-to-body : goal.returns-then-to-body
returns-then-to-body c p h z =
    let pre = c.requires in item-one-byte _ _ _ _ h pre.0 pre.1 (outside _ c.else-first-ge42.either) c.if-to-body.true

pub returns-then-second-ge41 : goal.returns-then-second-ge41
returns-then-second-ge41 c p h z =
    let pre = c.requires in item-two-bytes _ _ _ _ h pre.0 pre.1 (outside _ c.else-first-ge42.either) c.if-to-body.false (inl (leb-false _ _ z))

pub returns-else-second-ge41 : goal.returns-else-second-ge41
returns-else-second-ge41 c p h z =
    let pre = c.requires in item-two-bytes _ _ _ _ h pre.0 pre.1 (outside _ c.else-first-ge42.either) c.if-to-body.false (inr c.if-second-ge41.false)
