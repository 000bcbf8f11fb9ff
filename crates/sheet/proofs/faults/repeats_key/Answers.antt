-- `sheet::faults::repeats_key` meets its contract: a pair whose key is among those left ends the search, and any other passes it on.
use mathlib.Core.Path.{sym, ◌∙◌}
use Prim.Native.Nat.{◌-◌}
use native.Mathlib.Omega.{arith}
use Rattle.text.proofs.Laws.Parts.{part_slice}
use Rattle.sheet.proofs.Laws.Pairs.{pairs_first, pairs-left, repeats-none, repeats-here, repeats-skip}
use Rattle.sheet.proofs.faults.repeats_key.Goals as goal

pub pair_at-pair-requires : goal.pair_at-pair-requires
pair_at-pair-requires c = pairs_first _ _ _ c.loop-left.invariant.0 (omega arith)

pub has_key-requires : goal.has_key-requires
has_key-requires c = pairs-left _ _ _ _ c.loop-left.invariant.0 (omega arith) _ c.pair_at-pair.ensures

pub returns-then-has_key : goal.returns-then-has_key
returns-then-has_key c =
    let l = c.loop-left in
    let asked = rw (part_slice _ _ _ c.pair_at-pair.ensures.spans.key) at c.has_key.ensures in
    sym (repeats-here _ _ _ (c.loop-left.left - 1) l.invariant.0 (omega arith) _ c.pair_at-pair.ensures (sym asked ∙ c.if-has_key.true)) ∙ l.invariant.1

pub loop-left-preserved : goal.loop-left-preserved
loop-left-preserved c =
    let l = c.loop-left in
    let asked = rw (part_slice _ _ _ c.pair_at-pair.ensures.spans.key) at c.has_key.ensures in (
      pairs-left _ _ _ _ l.invariant.0 (omega arith) _ c.pair_at-pair.ensures,
      sym (repeats-skip _ _ _ _ l.invariant.0 (omega arith) _ c.pair_at-pair.ensures (sym asked ∙ c.if-has_key.false)) ∙ l.invariant.1,
    )

pub returns : goal.returns
returns c = sym (repeats-none _ _ _ (omega arith)) ∙ c.loop-left.invariant.1
