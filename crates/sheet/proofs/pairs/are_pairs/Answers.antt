-- `sheet::pairs::are_pairs` meets its contract: a pair that stands passes the search on, and one that does not ends it.
use mathlib.Core.Path.{refl, sym, ◌∙◌}
use native.Mathlib.Omega.{arith}
use native.Mathlib.Numerals.{unary_clauses}
use Rattle.sheet.proofs.Laws.Spans.{pair_in-keyless, pair_in-cut, pair_in-yes}
use Rattle.sheet.proofs.Laws.Pairs.{are_pairs-none, are_pairs-no, are_pairs-step}
use Rattle.sheet.proofs.pairs.are_pairs.Goals as goal

pub loop-init : goal.loop-init
loop-init c = simp unary_clauses (c.requires, refl)

pub returns-in_default : goal.returns-in_default
returns-in_default c = sym (are_pairs-no _ _ _ (omega arith) (pair_in-keyless _ c.in_default.ensures)) ∙ c.loop.invariant.1

pub returns-in_default-find_sized : goal.returns-in_default-find_sized
returns-in_default-find_sized c =
    sym (are_pairs-no _ _ _ (omega arith) (pair_in-cut _ _ c.in-Some.ensures.4 c.in_default-find_sized.ensures)) ∙ c.loop.invariant.1

pub loop-preserved : goal.loop-preserved
loop-preserved c = (
  c.in-Some-find_sized.ensures.3,
  sym (are_pairs-step _ _ _ _ (omega arith) _ _ (pair_in-yes _ _ _ c.in-Some.ensures.4 c.in-Some-find_sized.ensures.4) refl) ∙ c.loop.invariant.1,
)

pub returns : goal.returns
returns c = sym (are_pairs-none _ _ _ (omega arith) c.loop.invariant.0) ∙ c.loop.invariant.1
