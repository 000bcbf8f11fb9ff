-- `dates::repeats::read_mark` meets its contract: a word in turn.
-- Assumes nothing.
use Rattle.std.proofs.Common.{◌-◌, ◌≤◌, sym, arith}
use Rattle.text.specs.Runs.{word}
use Rattle.text.proofs.Laws.Parts.{part-drop}
use Rattle.dates.specs.Stamps.{mark}
use Rattle.dates.proofs.Laws.Reads.{begins-room}
use Rattle.dates.proofs.repeats.read_mark.Goals as goal

pub returns-then-begins_with : goal.returns-then-begins_with
unfolding mark word
returns-then-begins_with c =
    let p = sym c.if-begins_with.ensures in
    let r : 2 ≤ c.args.to - c.args.at = begins-room _ _ _ (word "++") c.requires.1 p in
    record { is = rw (p, part-drop); within = omega arith }

pub returns-then-begins_with-2 : goal.returns-then-begins_with-2
unfolding mark word
returns-then-begins_with-2 c =
    let p = sym c.if-begins_with-2.ensures in
    let r : 1 ≤ c.args.to - c.args.at = begins-room _ _ _ (word "+") c.requires.1 p in
    record { is = rw (sym c.if-begins_with.ensures, p, part-drop); within = omega arith }

pub returns-then-begins_with-3 : goal.returns-then-begins_with-3
unfolding mark word
returns-then-begins_with-3 c =
    let p = sym c.if-begins_with-3.ensures in
    let r : 2 ≤ c.args.to - c.args.at = begins-room _ _ _ (word ".+") c.requires.1 p in
    record { is = rw (sym c.if-begins_with.ensures, sym c.if-begins_with-2.ensures, p, part-drop); within = omega arith }

pub returns : goal.returns
unfolding mark word
returns c = record { is = rw (sym c.if-begins_with.ensures, sym c.if-begins_with-2.ensures, sym c.if-begins_with-3.ensures); within = tt }
