-- `dates::parts::read_time` meets its contract: each shape has its bytes.
-- Assumes nothing.
use Rattle.std.proofs.Common.{◌-◌, ◌≤◌, sym, arith}
use Rattle.text.specs.Runs.{word}
use Rattle.text.proofs.Laws.Parts.{part-drop}
use Rattle.dates.specs.Stamps.{time}
use Rattle.dates.proofs.Laws.Reads.{shaped-room}
use Rattle.dates.proofs.parts.read_time.Goals as goal

pub time_with-requires : goal.time_with-requires
unfolding word
time_with-requires c =
    let p = sym c.if-has_shape.ensures in
    let r : 5 ≤ c.args.to - c.args.at = shaped-room _ _ _ (word "00:00") c.requires.1 p in
    omega arith

pub returns-then-has_shape : goal.returns-then-has_shape
unfolding time word
returns-then-has_shape c =
    let p = sym c.if-has_shape.ensures in
    let r : 5 ≤ c.args.to - c.args.at = shaped-room _ _ _ (word "00:00") c.requires.1 p in
    record { is = rw (p, part-drop, c.time_with.ensures); within = omega arith }

pub time_with-requires-then-has_shape-2 : goal.time_with-requires-then-has_shape-2
unfolding word
time_with-requires-then-has_shape-2 c =
    let p = sym c.if-has_shape-2.ensures in
    let r : 4 ≤ c.args.to - c.args.at = shaped-room _ _ _ (word "0:00") c.requires.1 p in
    omega arith

pub returns-then-has_shape-2 : goal.returns-then-has_shape-2
unfolding time word
returns-then-has_shape-2 c =
    let p = sym c.if-has_shape-2.ensures in
    let r : 4 ≤ c.args.to - c.args.at = shaped-room _ _ _ (word "0:00") c.requires.1 p in
    record { is = rw (sym c.if-has_shape.ensures, p, part-drop, c.time_with-then-has_shape-2.ensures); within = omega arith }

pub returns : goal.returns
unfolding time word
returns c = record { is = rw (sym c.if-has_shape.ensures, sym c.if-has_shape-2.ensures); within = tt }
