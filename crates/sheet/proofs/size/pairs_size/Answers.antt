-- `sheet::size::pairs_size` meets its contract: the lines left are the next pair's and the others.
use mathlib.Core.Path.{ap}
use Prim.Native.Nat.{◌+◌, ◌-◌}
use native.Mathlib.Omega.{arith}
use native.Mathlib.Numerals.{unary_clauses}
use lib.ListN.{length, length-append}
use Rattle.sheet.specs.Sheet.{pair_line, pair_lines, join}
use Rattle.sheet.specs.Spans.{pair_of, pairs_at}
use Rattle.sheet.proofs.Laws.Pairs.{pairs_first, pairs-left}
use Rattle.sheet.proofs.Laws.Sizes.{lines_none, lines_step}
use Rattle.sheet.proofs.size.pairs_size.Goals as goal

pub loop-init : goal.loop-init
loop-init c = simp unary_clauses (c.requires.0, c.requires.1, omega arith, omega arith)

pub pair_at-pair-requires : goal.pair_at-pair-requires
pair_at-pair-requires c = pairs_first _ _ _ c.loop.invariant.0 (omega arith)

pub loop-preserved : goal.loop-preserved
loop-preserved c =
    let l = c.loop in
    let x = c.args.buffer.now in
    let r = c.pair_at-pair.result in
    let m = c.args.count - (l.counter + 1) in
    let step = lines_step x l.at _ m l.invariant.0 (omega arith) r c.pair_at-pair.ensures in
    let more = length-append (pair_line (pair_of x r)) (join (pair_lines (pairs_at x r.end m))) in
    (pairs-left _ _ _ _ l.invariant.0 (omega arith) _ c.pair_at-pair.ensures, omega arith, omega arith, omega (arith, ap length step, more))

pub returns : goal.returns
returns c = let l = c.loop in (omega (arith, ap length (lines_none c.args.buffer.now l.at (c.args.count - l.counter) (omega arith))), omega arith)
