-- What a read does keeps the loop's invariant in `orgtable::input::read_input`, and the last one tells what the input came to. From Input.
-- Assumes nothing.
use Rattle.std.proofs.Common.{◌-◌, sym, ◌∙◌, length, arith}
use Rattle.std.specs.Prelude.{Some}
use Rattle.std.proofs.lemmas.Slice.{take-put_mid_below}
use Rattle.orgtable.proofs.Laws.Input.{moves, input-within, input-holds, consumes-more, length-rest, take-moved}
use Rattle.orgtable.proofs.input.read_input.Goals as goal

pub returns-in_default-clause-within : goal.returns-in_default-clause-within
returns-in_default-clause-within g c = input-within _ _ _ _ c.input_of.ensures (omega arith)

pub returns-in_default-clause-bytes : goal.returns-in_default-clause-bytes
returns-in_default-clause-bytes g c =
    let at = c.loop-used in
    let rest = length-rest at.buffer at.used in
    let front = take-put_mid_below at.used (length at.buffer - at.used) at.buffer c.read.new.buf at.used (omega arith) at.invariant.0 in
    input-holds _ _ _ _ _ _ _ _ _ _ c.input_of.ensures c.step_of-step.ensures c.read.auto.buf (omega arith) (λ k e. absurd (c.in_default.not-Ok (Some k) e))
    (omega arith) (rw front at.invariant.1) c.read.ensures.bound c.read.ensures.bytes

pub returns-in_default-more-clause-within : goal.returns-in_default-more-clause-within
returns-in_default-more-clause-within g c = input-within _ _ _ _ c.input_of-in_default-more.ensures (omega arith)

pub returns-in_default-more-clause-bytes : goal.returns-in_default-more-clause-bytes
returns-in_default-more-clause-bytes g c =
    let at = c.loop-used in
    let rest = length-rest at.buffer at.used in
    let front = take-put_mid_below at.used (length at.buffer - at.used) at.buffer c.read.new.buf at.used (omega arith) at.invariant.0 in
    input-holds _ _ _ _ _ _ _ _ _ _ c.input_of-in_default-more.ensures (sym c.in-Ok.is ∙ c.step_of-step.ensures) c.read.auto.buf (omega arith)
    (λ k e. absurd (c.in_default-more.not-Some k (cc))) (omega arith) (rw front at.invariant.1) c.read.ensures.bound
    c.read.ensures.bytes

pub overflow_add-used : goal.overflow_add-used
overflow_add-used g c =
    let at = c.loop-used in
    let rest = length-rest at.buffer at.used in
    let m = moves _ _ _ _ _ c.step_of-step.ensures c.in-Ok.is c.in-Some.is c.read.ensures.bound in
    omega arith

pub loop-used-smaller : goal.loop-used-smaller
loop-used-smaller g c =
    let rest = length-rest c.loop-used.buffer c.loop-used.used in
    let m = moves _ _ _ _ _ c.step_of-step.ensures c.in-Ok.is c.in-Some.is c.read.ensures.bound in
    omega arith

pub loop-used-preserved : goal.loop-used-preserved
loop-used-preserved g c =
    let at = c.loop-used in
    let rest = length-rest at.buffer at.used in
    let m = moves _ _ _ _ _ c.step_of-step.ensures c.in-Ok.is c.in-Some.is c.read.ensures.bound in
    let front = take-moved at.buffer c.read.new.buf at.used (length at.buffer - at.used) c.in-Some.count (omega arith) (omega arith) in
    (omega arith, rw front (consumes-more _ _ _ _ _ at.invariant.1 (rw m.0 at c.read.ensures.bytes).0))

pub returns-clause-within : goal.returns-clause-within
returns-clause-within g c = input-within _ _ _ _ c.input_of-2.ensures (omega arith)

pub returns-clause-bytes : goal.returns-clause-bytes
returns-clause-bytes g c =
    let at = c.loop-used in
    input-holds _ _ _ _ _ _ _ _ _ _ c.input_of-2.ensures c.step_of-past.ensures c.read-2.auto.buf (omega arith) (λ k e. c.loop-used-test.false)
    (omega arith) at.invariant.1 c.read-2.ensures.bound c.read-2.ensures.bytes
