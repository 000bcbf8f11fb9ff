-- `rules::ahead::ends_after` meets its contract: where no `:END:` line stands from the line on, none stands after it, and else the search tells.
-- Assumes nothing.
use Rattle.std.proofs.Common.{sym, ◌∙◌, arith}
use borrow.Author.Tests.{not-true}
use Rattle.rules.proofs.Laws.LineOf.{line_of-order}
use Rattle.rules.proofs.Laws.Closers.{searched-closer}
use Rattle.rules.proofs.Laws.NoLines.{knows-next}
use Rattle.rules.proofs.Laws.Drawers.{closer-nothing}
use Rattle.rules.proofs.ahead.ends_after.Goals as goal

pub returns-then-not-scope : goal.returns-then-not-scope
returns-then-not-scope c z =
    let pre = c.requires in
    (knows-next _ _ _ _ _ pre.line pre.known).ends (not-true _ c.if-not-scope.true)

pub find_end-search-requires : goal.find_end-search-requires
find_end-search-requires c = let o = line_of-order _ _ _ c.requires.line in omega arith

pub returns : goal.returns
returns c z =
    closer-nothing _ _ _ _ (sym (rw (searched-closer _ _ _ _ _ c.find_end-search.ensures) at c.is_some.ensures) ∙ z)
