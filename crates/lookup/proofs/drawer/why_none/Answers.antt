-- `lookup::drawer::why_none` meets its contract: the lines before the closer are those before its start.
-- Assumes nothing.
use mathlib.Core.Path.{sym, ◌∙◌}
use native.Mathlib.Omega.{arith}
use Rattle.rules.proofs.Laws.Closers.{searched-closer}
use Rattle.lookup.proofs.Laws.DrawersFound.{why-open, closer-lines, why-other}
use Rattle.lookup.proofs.drawer.why_none.Goals as goal

pub returns-in-None : goal.returns-in-None
returns-in-None c = why-open _ _ _ (sym c.in-None.is ∙ searched-closer _ _ _ _ _ c.find_end.ensures)

pub first_other-requires : goal.first_other-requires
first_other-requires c =
    omega (arith, closer-lines _ _ _ c.requires.0 c.requires.1 _ _ _ (sym c.in-Some.is ∙ searched-closer _ _ _ _ _ c.find_end.ensures))

pub returns-in-Some : goal.returns-in-Some
returns-in-Some c =
    why-other _ _ _ c.requires.0 c.requires.1 _ _ _ (sym c.in-Some.is ∙ searched-closer _ _ _ _ _ c.find_end.ensures)
    _ c.first_other.ensures
