-- `rules::planning::is_planning` meets its contract: the body is the part from `line.from` to `line.to`.
-- Assumes nothing.
use Rattle.std.proofs.Common.{arith}
use Rattle.rules.proofs.Laws.LineOf.{line_of-order}
use Rattle.rules.proofs.Laws.LineTests.{is_planning-part}
use Rattle.rules.proofs.planning.is_planning.Goals as goal

pub is_planning-requires : goal.is_planning-requires
is_planning-requires c = omega (arith, line_of-order _ _ _ c.requires)

pub returns : goal.returns
returns c = rw (is_planning-part _ _ _ c.requires) c.is_planning.ensures
