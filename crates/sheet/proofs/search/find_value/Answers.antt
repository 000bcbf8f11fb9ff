-- `sheet::search::find_value` meets its contract: a pair with the key ends the search, and any other passes it on.
use mathlib.Core.Path.{refl, sym, ◌∙◌}
use Prim.Native.Nat.{◌+◌, ◌-◌}
use native.Mathlib.Omega.{arith}
use native.Mathlib.Numerals.{unary_clauses}
use Rattle.sheet.proofs.Laws.Pairs.{pairs_first, pairs-left, value_for-none, value_for-here, value_for-skip}
use Rattle.sheet.proofs.search.find_value.Goals as goal

pub loop-init : goal.loop-init
loop-init c = simp unary_clauses (c.requires, refl)

pub pair_at-pair-requires : goal.pair_at-pair-requires
pair_at-pair-requires c = pairs_first _ _ _ c.loop.invariant.0 (omega arith)

pub returns-then-is_word : goal.returns-then-is_word
returns-then-is_word c =
    let l = c.loop in
    let p = c.pair_at-pair.ensures in
    let here = value_for-here _ _ _ (c.args.count - (l.counter + 1)) l.invariant.0 (omega arith) _ p _ (sym c.is_word.ensures ∙ c.if-is_word.true) in
    (p.spans.value, p.spans.inside, l.invariant.1 ∙ here)

pub loop-preserved : goal.loop-preserved
loop-preserved c =
    let l = c.loop in
    let p = c.pair_at-pair.ensures in (
      pairs-left _ _ _ _ l.invariant.0 (omega arith) _ p,
      l.invariant.1 ∙ value_for-skip _ _ _ _ l.invariant.0 (omega arith) _ p _ (sym c.is_word.ensures ∙ c.if-is_word.false),
    )

pub returns : goal.returns
returns c = c.loop.invariant.1 ∙ value_for-none _ _ _ _ (omega arith)
