-- `dates::parts::has_shape` meets its contract: each byte of the shape is one step of `shaped`.
-- Assumes nothing.
use Rattle.std.proofs.Common.{◌+◌, sym, ◌∙◌, arith}
use native.Mathlib.Nat.{add_assoc}
use Rattle.text.proofs.Laws.Parts.{part_length}
use Rattle.dates.proofs.Laws.Reads.{shaped-short, shaped-nil, shaped-cons}
use Rattle.dates.proofs.parts.has_shape.Goals as goal

pub returns-then-to-from : goal.returns-then-to-from
returns-then-to-from c =
    let whole = part_length c.args.text.now c.args.from c.args.to c.requires.1 in
    sym (shaped-short _ _ (omega arith))

pub returns-then-not-fits : goal.returns-then-not-fits
returns-then-not-fits c =
    let a = c.args in
    let step =
    shaped-cons a.text.now a.shape.now (a.from + c.loop-j.j) a.to c.loop-j.j
    c.loop-j-test.true (omega arith) (omega arith) in
    sym (step ∙ rw (sym c.if-not-fits.ensures)) ∙ c.loop-j.invariant

pub loop-j-preserved : goal.loop-j-preserved
loop-j-preserved c =
    let a = c.args in
    let step =
    shaped-cons a.text.now a.shape.now (a.from + c.loop-j.j) a.to c.loop-j.j
    c.loop-j-test.true (omega arith) (omega arith) in
    rw (← add_assoc _ _ 1) (sym (step ∙ rw (sym c.if-not-fits.ensures))) ∙ c.loop-j.invariant

pub returns : goal.returns
returns c = sym (shaped-nil _ c.args.shape.now _ _ c.loop-j.j c.loop-j-test.false) ∙ c.loop-j.invariant
