-- `sheet::pairs::pair_at` meets its contract: where a pair stands, its lengths lead to its parts.
use native.Mathlib.Omega.{arith}
use Rattle.sheet.specs.Spans.{reach}
use Rattle.sheet.proofs.Laws.Spans.{has_pair-key, has_pair-value, has_pair-end, has_pair-is}
use Rattle.sheet.proofs.pairs.pair_at.Goals as goal

pub overflow_add-from : goal.overflow_add-from
overflow_add-from c = let a = c.args in omega (arith, has_pair-key a.buffer.now a.at c.requires)

pub low_first-requires : goal.low_first-requires
low_first-requires c = let a = c.args in omega (arith, has_pair-key a.buffer.now a.at c.requires)

pub overflow_add-to : goal.overflow_add-to
overflow_add-to c = let a = c.args in omega (arith, has_pair-value a.buffer.now a.at c.requires c.low_first.result c.low_first.ensures.0)

pub overflow_add-value : goal.overflow_add-value
overflow_add-value c = let a = c.args in omega (arith, has_pair-value a.buffer.now a.at c.requires c.low_first.result c.low_first.ensures.0)

pub low_first-requires-2 : goal.low_first-requires-2
low_first-requires-2 c = let a = c.args in omega (arith, has_pair-value a.buffer.now a.at c.requires c.low_first.result c.low_first.ensures.0)

pub overflow_add-result : goal.overflow_add-result
overflow_add-result c =
    let a = c.args in
    omega (
      arith,
      has_pair-end a.buffer.now a.at c.requires c.low_first.result c.low_first.ensures.0 c.low_first-2.result c.low_first-2.ensures.0,
    )

pub returns : goal.returns
unfolding reach
returns c =
    let key = c.low_first.ensures in
    let value = c.low_first-2.ensures in
    record {
      spans = record {
        key = omega arith;
        between = omega arith;
        value = omega arith;
        inside = has_pair-end _ _ c.requires _ key.0 _ value.0;
        key-short = omega arith;
        value-short = omega arith;
      };
      is = has_pair-is _ _ c.requires _ key.0 _ value.0;
    }
