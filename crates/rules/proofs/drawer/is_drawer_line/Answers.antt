-- `rules::drawer::is_drawer_line` meets its contract: the name stands between the colons of the body.
-- Assumes nothing.
use Rattle.std.proofs.Common.{◌+◌, ◌≤◌, length, sym, arith}
use Rattle.text.specs.Runs.{word}
use Rattle.rules.proofs.Laws.LineOf.{line_of-order}
use Rattle.rules.proofs.Laws.Names.{between_colons-some}
use Rattle.rules.proofs.Laws.LineTests.{is_drawer_line-none, is_drawer_line-no, is_drawer_line-yes}
use Rattle.rules.proofs.drawer.is_drawer_line.Goals as goal
use Rattle.rules.proofs.drawer.is_drawer_line.Goals.{Else-not-is_between_colons}

pub is_between_colons-requires : goal.is_between_colons-requires
is_between_colons-requires c = let o = line_of-order _ _ _ c.requires in (o.1, omega arith)

pub returns-then-not-is_between_colons : goal.returns-then-not-is_between_colons
returns-then-not-is_between_colons c = sym (is_drawer_line-none _ _ _ c.requires (sym c.if-not-is_between_colons.ensures))

-- the colons stand apart
order : (c : Else-not-is_between_colons) → (c.args.line.from + 3 ≤ c.args.line.to) × (c.args.line.to ≤ length c.args.text.now)
order c =
    let o = line_of-order _ _ _ c.requires in
    let b = between_colons-some _ _ _ (omega arith) (sym c.if-not-is_between_colons.ensures) in
    (omega arith, omega arith)

pub overflow_add-from : goal.overflow_add-from
overflow_add-from c = omega (arith, order c)

pub overflow_sub-end : goal.overflow_sub-end
overflow_sub-end c = omega (arith, order c)

pub run_end-requires : goal.run_end-requires
run_end-requires c = omega (arith, order c)

pub overflow_sub-end-2 : goal.overflow_sub-end-2
overflow_sub-end-2 c = omega (arith, order (goal.at.overflow_sub-end-2 c).Else-not-is_between_colons)

pub returns-then-run_end-end : goal.returns-then-run_end-end
returns-then-run_end-end c =
    sym (is_drawer_line-no _ _ _ c.requires (sym c.if-not-is_between_colons.ensures) (rw c.run_end.ensures at c.if-run_end-end.true))

pub overflow_sub-end-3 : goal.overflow_sub-end-3
overflow_sub-end-3 c = omega (arith, order (goal.at.overflow_sub-end-3 c).Else-not-is_between_colons)

pub is_word-requires : goal.is_word-requires
is_word-requires c = omega (arith, order (goal.at.is_word-requires c).Else-not-is_between_colons)

pub returns : goal.returns
unfolding word
returns c =
    rw c.is_word.ensures
    (sym (is_drawer_line-yes _ _ _ c.requires (sym c.if-not-is_between_colons.ensures) (rw c.run_end.ensures at c.if-run_end-end.false)))
