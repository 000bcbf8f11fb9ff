-- `dates::parts::digits_value` meets its contract: each byte is one step of `value_from`.
-- Assumes nothing.
use Rattle.std.proofs.Common.{refl, sym, ◌∙◌, arith}
use Rattle.text.proofs.Laws.Parts.{part_slice}
use Rattle.dates.specs.Reads.{value}
use Rattle.dates.proofs.Laws.Reads.{value-nil, value-cons, value-bound, value-small}
use Rattle.dates.proofs.parts.digits_value.Goals as goal

pub loop-b-init : goal.loop-b-init
unfolding value
loop-b-init c = (omega arith, refl)

pub overflow_mul-v : goal.overflow_mul-v
overflow_mul-v c = let b = value-small _ _ c.loop-b.invariant.0 (omega arith) in omega arith

pub overflow_add-v : goal.overflow_add-v
overflow_add-v c = let b = value-small _ _ c.loop-b.invariant.0 (omega arith) in omega arith

pub loop-b-preserved : goal.loop-b-preserved
loop-b-preserved c =
    let d = c.digit_value.ensures in
    (value-bound _ _ _ c.loop-b.invariant.0 d.1, rw d.0 (sym (value-cons _ _ _ c.loop-b-test.true) ∙ c.loop-b.invariant.1))

pub returns : goal.returns
returns c = sym (value-nil _ _ _ c.loop-b-test.false) ∙ c.loop-b.invariant.1 ∙ rw (part_slice _ _ _ c.requires.0)
