-- `sheet::faults::some_pair` meets its contract: a pair that passes ends the search, and any other passes it on.
use mathlib.Core.Path.{refl, sym, ◌∙◌}
use Prim.Native.Nat.{◌+◌, ◌-◌}
use native.Mathlib.Omega.{arith}
use native.Mathlib.Numerals.{unary_clauses}
use Rattle.sheet.proofs.Laws.Pairs.{pairs_first, pairs-left, some-none, some-here, some-skip}
use Rattle.sheet.proofs.faults.some_pair.Goals as goal

pub loop-init : goal.loop-init
loop-init g c = simp unary_clauses (c.requires.0, λ f h. refl)

pub pair_at-pair-requires : goal.pair_at-pair-requires
pair_at-pair-requires g c = pairs_first _ _ _ c.loop.invariant.0 (omega arith)

pub returns-then-test : goal.returns-then-test
returns-then-test g c = λ f h.
    let p = c.pair_at-pair.ensures in
    let passes = sym (h _ _ p.spans c.test.ensures) ∙ c.if-test.true in
    sym (some-here _ _ _ (c.args.count - (c.loop.counter + 1)) c.loop.invariant.0 (omega arith) _ p f passes) ∙ c.loop.invariant.1 f h

pub loop-preserved : goal.loop-preserved
loop-preserved g c =
    let p = c.pair_at-pair.ensures in (
      pairs-left _ _ _ _ c.loop.invariant.0 (omega arith) _ p,
      λ f h.
          sym (some-skip _ _ _ _ c.loop.invariant.0 (omega arith) _ p f (sym (h _ _ p.spans c.test.ensures) ∙ c.if-test.false)) ∙ c.loop.invariant.1 f h,
    )

pub returns : goal.returns
returns g c = λ f h. sym (some-none _ _ _ f (omega arith)) ∙ c.loop.invariant.1 f h
