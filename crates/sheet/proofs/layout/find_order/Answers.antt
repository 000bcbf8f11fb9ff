-- `sheet::layout::find_order` meets its contract: the title, the count byte and the pairs in turn.
use mathlib.Core.Path.{◌≡◌, refl, sym, ◌∙◌}
use mathlib.Core.Option.{some}
use mathlib.Core.List.{List}
use Prim.Native.Nat.{ℕ, ◌+◌, ◌≤◌, ◌<◌}
use native.Mathlib.Omega.{arith}
use lib.ListN.{length, drop}
use Rattle.text.specs.Parts.{part}
use Rattle.std.specs.declared.option.Option.TheVariants.{Some}
use Rattle.sheet.specs.declared.buffer.Part.{Part}
use Rattle.sheet.specs.Buffer.{text_width, cut_as, sized}
use Rattle.sheet.specs.Spans.{reach, SizedAt}
use Rattle.sheet.proofs.Laws.Layout.{order_in-titleless, order_in-countless, order_in-many, order_in-cut, order_in-yes}
use Rattle.sheet.proofs.layout.find_order.Goals as goal

-- the title, from byte 2 on
title : (x : List ℕ) (r : Part) → SizedAt text_width x 0 (Some r) →
    (text_width ≤ r.to) × (r.to < text_width + reach text_width) × (r.to ≤ length x) × (sized text_width x ≡ some (cut_as (part x text_width r.to) (drop r.to x)))
title x r f = let s : r.from ≡ text_width = omega arith in (omega arith, omega arith, f.3, rw s at f.4)

pub returns-in_err-title : goal.returns-in_err-title
returns-in_err-title c = rw c.from_residual.ensures (order_in-titleless _ c.in_err-title.ensures)

pub returns-then-buffer-title : goal.returns-then-buffer-title
returns-then-buffer-title c = let t = title _ _ c.in_ok-title.ensures in order_in-countless _ _ t.3 t.2 c.if-buffer-title.true

pub returns-then-count-gt-PAIR_LIMIT : goal.returns-then-count-gt-PAIR_LIMIT
returns-then-count-gt-PAIR_LIMIT c =
    order_in-many _ _ (title _ _ c.in_ok-title.ensures).3 c.if-buffer-title.false _ refl c.if-count-gt-PAIR_LIMIT.true

pub returns-then-not-are_pairs : goal.returns-then-not-are_pairs
returns-then-not-are_pairs c =
    order_in-cut _ _ (title _ _ c.in_ok-title.ensures).3 c.if-buffer-title.false _ refl c.if-count-gt-PAIR_LIMIT.false
    (sym c.are_pairs.ensures ∙ c.if-not-are_pairs.true)

pub returns : goal.returns
unfolding reach
returns c =
    let t = title _ _ c.in_ok-title.ensures in
    let pairs = sym c.are_pairs.ensures ∙ c.if-not-are_pairs.false in (
      record { from = omega arith; to = c.if-buffer-title.false; short = omega arith; few = c.if-count-gt-PAIR_LIMIT.false; pairs = pairs },
      order_in-yes _ _ t.3 c.if-buffer-title.false _ refl c.if-count-gt-PAIR_LIMIT.false pairs,
    )
