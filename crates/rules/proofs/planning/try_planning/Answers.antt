-- `rules::planning::try_planning` meets its contract: the place and the line decide.
-- Assumes nothing.
use Rattle.std.proofs.Common.{sym, ◌∙◌}
use mathlib.Core.Bool.{and-false}
use Rattle.rules.specs.Places.{allows_planning}
use Rattle.rules.proofs.Laws.Rules.{planning-no, planning-yes}
use Rattle.rules.proofs.planning.try_planning.Goals as goal
use Rattle.rules.proofs.planning.try_planning.Goals.{then-not-allows_planning-via-then-not-allows_planning, then-not-allows_planning-via-else-not-allows_planning+then-not-is_planning}

pub returns-then-not-allows_planning : goal.returns-then-not-allows_planning
returns-then-not-allows_planning c =
    let place = sym c.allows_planning.ensures in
    planning-no _ _ _ c.requires.line _ (elim c.then-not-allows_planning.branch [
      | then-not-allows_planning-via-then-not-allows_planning w ↦ rw (place ∙ w.if-not-allows_planning.true)
      | then-not-allows_planning-via-else-not-allows_planning+then-not-is_planning w ↦
          rw (sym w.is_planning.ensures ∙ w.if-not-is_planning.true) (and-false (allows_planning c.args.scope.place))
    ])

pub returns : goal.returns
returns c =
    let place = sym c.allows_planning.ensures ∙ c.if-not-allows_planning.false in
    rw c.of_line.ensures (planning-yes _ _ _ c.requires.line _ (rw (place, sym c.is_planning.ensures) c.if-not-is_planning.false))
