-- `rules::opener::search_from_line` meets its contract: the line opens a drawer or names a block, and the closer of that is sought.
-- Assumes nothing.
use mathlib.Core.Path.{◌≡◌, sym, ◌∙◌}
use mathlib.Core.Bool.{false}
use Prim.Native.Nat.{◌≤◌}
use native.Mathlib.Omega.{arith}
use Rattle.text.specs.Runs.{word}
use Rattle.text.specs.Parts.{line_in}
use Rattle.text.proofs.Laws.Parts.{part_slice}
use Rattle.rules.specs.LineTests.{is_drawer_line}
use Rattle.rules.proofs.Laws.LineOf.{line_of-order, line_of-end}
use Rattle.rules.proofs.Laws.Blocks.{block-name, closer-bytes}
use Rattle.rules.proofs.Laws.Openers.{opener-drawer, opener-none, opener-block}
use Rattle.rules.proofs.opener.search_from_line.Goals as goal
use Rattle.rules.proofs.opener.search_from_line.Goals.{Else-is_drawer_line}

pub find_end-requires : goal.find_end-requires
find_end-requires c = let o = line_of-order _ _ _ c.requires in omega arith

pub returns-then-is_drawer_line : goal.returns-then-is_drawer_line
returns-then-is_drawer_line c =
    c.find_end.ensures ∙ rw (line_of-end _ _ _ c.requires) (opener-drawer _ _ _ (sym c.is_drawer_line.ensures ∙ c.if-is_drawer_line.true))

-- ---- it opens no drawer

other : (c : Else-is_drawer_line) → let args = c.args in is_drawer_line (line_in args.text.now args.line.start args.to) ≡ false
other c = sym c.is_drawer_line.ensures ∙ c.if-is_drawer_line.false

pub returns-in_default : goal.returns-in_default
returns-in_default c =
    c.no_search.ensures ∙ opener-none _ _ _ (other (goal.at.returns-in_default c).Else-is_drawer_line) c.in_default.ensures

pub find_closer-requires : goal.find_closer-requires
unfolding word
find_closer-requires c =
    let o = line_of-order _ _ _ c.requires in
    let n = c.in-Some.ensures in
    let le : c.in-Some.name ≤ c.in-Some.end = omega (arith, n.some) in
    (o.4, o.5, rw (part_slice _ _ _ le) (closer-bytes _ _ _ c.requires _ _ n))

pub returns : goal.returns
unfolding word
returns c =
    let n = c.in-Some.ensures in
    let some = block-name _ _ _ c.requires _ _ n in
    let le : c.in-Some.name ≤ c.in-Some.end = omega (arith, n.some) in
    rw (part_slice _ _ _ le) at c.find_closer.ensures
    ∙ rw (← n.is, line_of-end _ _ _ c.requires) (opener-block _ _ _ (other (goal.at.returns c).Else-is_drawer_line) some)
