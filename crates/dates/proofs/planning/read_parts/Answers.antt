-- `dates::planning::read_parts` meets its contract, by a law for each way on and out.
-- Assumes nothing.
use Rattle.std.proofs.Common.{◌-◌, length, sym, ap, ◌∙◌, arith}
use mathlib.Core.Option.{some}
use Rattle.text.specs.Parts.{part}
use Rattle.text.proofs.Laws.Parts.{part_length}
use Rattle.dates.specs.Planning.{planning_in}
use Rattle.dates.specs.declared.planning.Planning.{Planning}
use Rattle.dates.proofs.Laws.Planning.{planning-missing, planning-end, planning-last, planning-other, planning-more, put-placed, placed-in, stamps_in-end}
use Rattle.dates.proofs.planning.read_parts.Goals as goal

pub loop-at-init : goal.loop-at-init
unfolding planning_in
loop-at-init c =
    let s = c.args.text.now in
    let to = c.args.to in
    let from = c.args.from in
    let n = part_length s from to c.requires.1 in
    (omega arith, omega arith, omega arith, omega arith, (length (part s from to), (omega arith, rw (stamps_in-end s to))))

pub returns-in_err-part : goal.returns-in_err-part
returns-in_err-part c =
    let inv = c.loop-at.invariant in
    rw c.from_residual.ensures (record { is = sym inv.4.1.1 ∙ planning-missing _ _ _ _ inv.4.0 c.in_err-part.ensures.0; within = tt })

pub returns-then-part-to : goal.returns-then-part-to
returns-then-part-to c =
    let s = c.args.text.now in
    let to = c.args.to in
    let inv = c.loop-at.invariant in
    let part = c.in_ok-part.ensures in
    let k = c.in_ok-part.part.keyword in
    let q = c.in_ok-part.part.stamp in
    let last = planning-last _ _ _ _ _ _ _ part.0 inv.4.0 (omega (arith, inv.4.1.0)) c.in_default.ensures (omega arith) in
    record {
      is = sym inv.4.1.1 ∙ last ∙ rw c.put-places.ensures (ap (λ (x : Planning). some x) (put-placed s to k q c.loop-at.places));
      within = rw c.put-places.ensures (placed-in s to k q c.loop-at.places part.1.0 inv.3);
    }

pub returns-else-part-to : goal.returns-else-part-to
returns-else-part-to c =
    let inv = c.loop-at.invariant in
    let part = c.in_ok-part.ensures in
    let other =
    planning-other _ _ _ _ _ _ _ part.0 inv.4.0 (omega (arith, inv.4.1.0)) c.in_default.ensures (omega (arith, part.1)) inv.2 in
    record { is = sym inv.4.1.1 ∙ other; within = tt }

pub loop-at-preserved : goal.loop-at-preserved
loop-at-preserved c =
    let s = c.args.text.now in
    let to = c.args.to in
    let inv = c.loop-at.invariant in
    let part = c.in_ok-part.ensures in
    let k = c.in_ok-part.part.keyword in
    let q = c.in_ok-part.part.stamp in
    let g = c.in-Some.ensures in
    let more = planning-more _ _ _ _ _ _ _ part.0 inv.4.0 (omega (arith, inv.4.1.0)) _ g in (
      omega (arith, part.1),
      omega arith,
      omega arith,
      rw c.put-places.ensures (placed-in s to k q c.loop-at.places part.1.0 inv.3),
      (
        inv.4.0 - 1,
        (
          omega (arith, inv.4.1.0, part.1),
          rw (c.put-places.ensures, ← put-placed s to k q c.loop-at.places) (sym more ∙ inv.4.1.1),
        ),
      ),
    )

pub returns : goal.returns
returns c =
    let inv = c.loop-at.invariant in
    record { is = sym inv.4.1.1 ∙ planning-end _ _ _ _ inv.4.0 c.loop-at-test.false; within = tt }
