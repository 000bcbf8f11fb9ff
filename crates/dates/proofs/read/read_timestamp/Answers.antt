-- `dates::read::read_timestamp` meets its contract: a bracket in turn.
-- Assumes nothing.
use Rattle.std.proofs.Common.{◌-◌, ◌≤◌, sym, arith}
use Rattle.text.specs.Runs.{word}
use Rattle.dates.specs.Stamps.{timestamp}
use Rattle.dates.proofs.Laws.Reads.{begins-room}
use Rattle.dates.proofs.read.read_timestamp.Goals as goal

pub read_bracketed-requires : goal.read_bracketed-requires
unfolding word
read_bracketed-requires c =
    let r : 1 ≤ c.args.to - c.args.at = begins-room _ _ _ (word "<") c.requires.1 (sym c.if-begins_with.ensures) in
    omega arith

pub returns-then-begins_with : goal.returns-then-begins_with
unfolding timestamp word
returns-then-begins_with c =
    let b = c.read_bracketed.ensures in
    record { is = rw (sym c.if-begins_with.ensures) b.is; from = b.from; to = b.to }

pub read_bracketed-requires-then-begins_with-2 : goal.read_bracketed-requires-then-begins_with-2
unfolding word
read_bracketed-requires-then-begins_with-2 c =
    let r : 1 ≤ c.args.to - c.args.at = begins-room _ _ _ (word "[") c.requires.1 (sym c.if-begins_with-2.ensures) in
    omega arith

pub returns-then-begins_with-2 : goal.returns-then-begins_with-2
unfolding timestamp word
returns-then-begins_with-2 c =
    let b = c.read_bracketed-then-begins_with-2.ensures in
    record { is = rw (sym c.if-begins_with.ensures, sym c.if-begins_with-2.ensures) b.is; from = b.from; to = b.to }

pub returns : goal.returns
unfolding timestamp word
returns c = record { is = rw (sym c.if-begins_with.ensures, sym c.if-begins_with-2.ensures); from = omega arith; to = omega arith }
