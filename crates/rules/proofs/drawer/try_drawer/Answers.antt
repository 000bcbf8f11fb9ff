-- `rules::drawer::try_drawer` meets its contract: where an `:END:` line may follow, the first line opens a drawer, and the closer says the rest.
-- Assumes nothing.
use Rattle.std.proofs.Common.{sym, ◌∙◌, arith}
use borrow.Author.Tests.{not-true}
use Rattle.text.specs.Runs.{word}
use Rattle.text.specs.Parts.{lines_in}
use Rattle.text.proofs.Laws.LinesIn.{lines_in-length}
use Rattle.rules.proofs.Laws.LineOf.{line_of-order}
use Rattle.rules.proofs.Laws.LineRules.{lines_before-below, closer-count}
use Rattle.rules.proofs.Laws.Closers.{searched-closer}
use Rattle.rules.proofs.Laws.NoLines.{knows-next}
use Rattle.rules.proofs.Laws.Drawers.{drawer-no, drawer-closer, drawer-none}
use Rattle.rules.proofs.drawer.try_drawer.Goals as goal
use Rattle.rules.proofs.drawer.try_drawer.Goals.{then-not-scope-via-then-not-scope, then-not-scope-via-else-not-scope+then-not-is_drawer_line}

pub returns-then-not-scope : goal.returns-then-not-scope
returns-then-not-scope c =
    let pre = c.requires in
    elim c.then-not-scope.branch [
      | then-not-scope-via-then-not-scope w ↦
          drawer-none _ _ _ pre.line ((knows-next _ _ _ _ _ pre.line pre.known).ends (not-true _ w.if-not-scope.true))
      | then-not-scope-via-else-not-scope+then-not-is_drawer_line w ↦
          drawer-no _ _ _ pre.line (sym w.is_drawer_line.ensures ∙ w.if-not-is_drawer_line.true)
    ]

pub find_end-requires : goal.find_end-requires
find_end-requires c = let o = line_of-order _ _ _ c.requires.line in (o.4, o.5)

pub returns-in_err-closer : goal.returns-in_err-closer
returns-in_err-closer c =
    c.from_residual.ensures
    ∙ drawer-closer _ _ _ c.requires.line (sym c.is_drawer_line.ensures ∙ c.if-not-is_drawer_line.false) _
    (sym c.in_err-closer.was ∙ searched-closer _ _ _ _ _ c.find_end.ensures)

pub of_lines_between-requires : goal.of_lines_between-requires
of_lines_between-requires c =
    let s = c.args.text.now in
    let l = c.args.line in
    let e = c.args.scope.end in
    let o = line_of-order _ _ _ c.requires.line in
    let ls = lines_in s l.end e in
    let closer = sym c.in_ok-closer.was ∙ searched-closer _ _ _ _ _ c.find_end.ensures in
    omega (
      arith,
      closer-count l.end ls _ (lines_before-below (word ":end:") ls) _ closer,
      lines_in-length s l.end e o.4 o.5,
    )

pub returns : goal.returns
returns c =
    rw c.of_lines_between.ensures
    (drawer-closer _ _ _ c.requires.line (sym c.is_drawer_line.ensures ∙ c.if-not-is_drawer_line.false) _
    (sym c.in_ok-closer.was ∙ searched-closer _ _ _ _ _ c.find_end.ensures))
