-- `dates::planning::read_keyword` meets its contract: a word in turn.
-- Assumes nothing.
use Rattle.std.proofs.Common.{◌-◌, ◌≤◌, sym, arith}
use Rattle.text.specs.Runs.{word}
use Rattle.text.proofs.Laws.Parts.{part-drop}
use Rattle.dates.specs.Planning.{keyword}
use Rattle.dates.proofs.Laws.Reads.{begins-room}
use Rattle.dates.proofs.planning.read_keyword.Goals as goal

pub returns-then-begins_with : goal.returns-then-begins_with
unfolding keyword word
returns-then-begins_with c =
    let p = sym c.if-begins_with.ensures in
    let r : 7 ≤ c.args.to - c.args.at = begins-room _ _ _ (word "closed:") c.requires.1 p in
    (record { is = rw (p, part-drop); within = omega arith }, omega arith)

pub returns-then-begins_with-2 : goal.returns-then-begins_with-2
unfolding keyword word
returns-then-begins_with-2 c =
    let p = sym c.if-begins_with-2.ensures in
    let r : 9 ≤ c.args.to - c.args.at = begins-room _ _ _ (word "deadline:") c.requires.1 p in
    (record { is = rw (sym c.if-begins_with.ensures, p, part-drop); within = omega arith }, omega arith)

pub returns-then-begins_with-3 : goal.returns-then-begins_with-3
unfolding keyword word
returns-then-begins_with-3 c =
    let p = sym c.if-begins_with-3.ensures in
    let r : 10 ≤ c.args.to - c.args.at = begins-room _ _ _ (word "scheduled:") c.requires.1 p in
    (record { is = rw (sym c.if-begins_with.ensures, sym c.if-begins_with-2.ensures, p, part-drop); within = omega arith }, omega arith)

pub returns : goal.returns
unfolding keyword word
returns c = (record { is = rw (sym c.if-begins_with.ensures, sym c.if-begins_with-2.ensures, sym c.if-begins_with-3.ensures); within = tt }, tt)
