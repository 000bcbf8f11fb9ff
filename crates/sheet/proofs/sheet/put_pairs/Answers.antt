-- `sheet::sheet::put_pairs` meets its contract: the lines left are the next pair's and the others.
use mathlib.Core.Path.{◌≡◌, refl, ap, ◌∙◌}
use mathlib.Core.List.{List, ◌++◌}
use Prim.Native.Nat.{ℕ, ◌+◌, ◌-◌, ◌≤◌}
use native.Mathlib.Omega.{arith}
use native.Mathlib.Numerals.{unary_clauses}
use lib.ListN.{length, length-append}
use Rattle.sheet.specs.declared.pairs.PairSpan.{PairSpan}
use Rattle.sheet.specs.Sheet.{pair_line, pair_lines, join}
use Rattle.sheet.specs.Spans.{HasPairs, PairAt, pair_of, pairs_at}
use Rattle.sheet.proofs.Laws.Output.{puts-nil, puts-append}
use Rattle.sheet.proofs.Laws.Pairs.{pairs_first, pairs-left}
use Rattle.sheet.proofs.Laws.Sizes.{lines_none, lines_step}
use Rattle.sheet.proofs.sheet.put_pairs.Goals as goal

pub loop-init : goal.loop-init
loop-init c = simp unary_clauses (c.requires.0, refl, c.requires.1, λ d e h. h)

pub pair_at-pair-requires : goal.pair_at-pair-requires
pair_at-pair-requires c = pairs_first _ _ _ c.loop.invariant.0 (omega arith)

-- the lines left are this pair's and the others
left : (x : List ℕ) (here n m : ℕ) (to size : ℕ) → HasPairs x here n → n ≡ m + 1 → (r : PairSpan) → PairAt x here r →
    to + length (join (pair_lines (pairs_at x here n))) ≤ size →
    let rest = join (pair_lines (pairs_at x r.end m)) in
    (join (pair_lines (pairs_at x here n)) ≡ pair_line (pair_of x r) ++ rest) × (to + length (pair_line (pair_of x r)) + length rest ≤ size)
left x here n m to size h i r p k =
    let step = lines_step x here n m h i r p in
    (step, omega (arith, ap length step, length-append (pair_line (pair_of x r)) (join (pair_lines (pairs_at x r.end m)))))

pub put_pair-to-requires : goal.put_pair-to-requires
put_pair-to-requires c =
    let l = c.loop in
    let f = left _ _ _ (c.args.count - (l.counter + 1)) l.to _ l.invariant.0 (omega arith) _ c.pair_at-pair.ensures l.invariant.2 in
    (c.pair_at-pair.ensures.spans, omega (arith, f.1))

pub loop-preserved : goal.loop-preserved
loop-preserved c =
    let l = c.loop in
    let f = left _ _ _ (c.args.count - (l.counter + 1)) l.to _ l.invariant.0 (omega arith) _ c.pair_at-pair.ensures l.invariant.2 in (
      pairs-left _ _ _ _ l.invariant.0 (omega arith) _ c.pair_at-pair.ensures,
      c.put_pair-to.auto.out ∙ l.invariant.1,
      omega (arith, f.1, c.put_pair-to.auto.out, c.put_pair-to.ensures.next),
      λ d e h. l.invariant.3 d e (rw f.0 (puts-append c.put_pair-to.ensures h (omega (arith, f.1)))),
    )

pub returns : goal.returns
returns c = c.loop.invariant.3 _ _ (rw (lines_none _ _ (c.args.count - c.loop.counter) (omega arith)) (puts-nil _ _))
