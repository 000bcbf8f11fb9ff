-- `rules::item::item_start` meets its contract: past the blank bytes, the counter set and the check box, each on the line where the one before ends.
-- Assumes nothing.
use Rattle.std.proofs.Common.{◌≡◌, refl}
use Rattle.text.specs.Bytes.{is_blank}
use Rattle.text.specs.Parts.{line_in}
use Rattle.rules.specs.Bullets.{OnLine}
use Rattle.rules.specs.Items.{after_set, after_box, past}
use Rattle.rules.proofs.Laws.Bullets.{after_run-line, on_line-run, stay-to, past-line, marks_line}
use Rattle.rules.proofs.item.item_start.Goals as goal
use Rattle.rules.proofs.item.item_start.Goals.{After-run_end-a, After-run_end-b}

-- past the blank bytes, and past a counter set
blank : (c : After-run_end-a) → OnLine c.args.text.now c.args.after c.args.end c.run_end-a.result
unfolding is_blank
blank c = on_line-run _ _ _ is_blank refl _ c.run_end-a.ensures c.requires.0 c.requires.1

set : (c : After-run_end-b) →
    let s = c.args.text.now in
    let a = c.run_end-a.result in
    let b = c.run_end-b.result in
    let e = c.args.end in
    (past after_set (line_in s a e) ≡ line_in s b e) × OnLine s a e b
unfolding is_blank
set c =
    let k = c.requires.1 in
    let o = on_line-run _ _ _ is_blank refl _ c.run_end-a.ensures c.requires.0 k in
    past-line _ _ _ o.to k after_set _ c.after_set.ensures _ c.unwrap_or-set_end.ensures _ c.run_end-b.ensures

pub after_set-requires : goal.after_set-requires
after_set-requires c = ((blank c).to, c.requires.1)

pub run_end-b-requires : goal.run_end-b-requires
run_end-b-requires c =
    let k = c.requires.1 in
    let o = blank (goal.at.run_end-b-requires c).After-run_end-a in
    (stay-to _ _ _ o.to k after_set _ c.after_set.ensures _ c.unwrap_or-set_end.ensures, k)

pub after_box-requires : goal.after_box-requires
after_box-requires c = ((set c).1.to, c.requires.1)

pub run_end-requires : goal.run_end-requires
run_end-requires c =
    let k = c.requires.1 in
    let o = (set (goal.at.run_end-requires c).After-run_end-b).1 in
    (stay-to _ _ _ o.to k after_box _ c.after_box.ensures _ c.unwrap_or-box_end.ensures, k)

pub returns : goal.returns
unfolding is_blank
returns c =
    let x = set (goal.at.returns c).After-run_end-b in
    let box = past-line _ _ _ x.1.to c.requires.1 after_box _ c.after_box.ensures _ c.unwrap_or-box_end.ensures _ c.run_end.ensures in
    marks_line _ _ _ _ _ _ (blank (goal.at.returns c).After-run_end-a) (after_run-line _ _ _ is_blank refl _ c.run_end-a.ensures) x box
