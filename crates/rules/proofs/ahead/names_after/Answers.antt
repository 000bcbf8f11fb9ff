-- `rules::ahead::names_after` meets its contract: the names that may close a block from the line on may after it, and others are collected there.
-- Assumes nothing.
use Rattle.std.proofs.Common.{arith}
use Rattle.rules.proofs.Laws.LineOf.{line_of-order}
use Rattle.rules.proofs.Laws.NoLines.{knows-next}
use Rattle.rules.proofs.ahead.names_after.Goals as goal

pub returns-then-names-eq-ALL_NAMES : goal.returns-then-names-eq-ALL_NAMES
returns-then-names-eq-ALL_NAMES c = let pre = c.requires in (knows-next _ _ _ _ _ pre.line pre.known).names

pub begins_with-requires : goal.begins_with-requires
begins_with-requires c = let o = line_of-order _ _ _ c.requires.line in (o.1, omega arith)

pub closing_names-requires : goal.closing_names-requires
closing_names-requires c = let o = line_of-order _ _ _ c.requires.line in omega arith

pub opened_name-requires : goal.opened_name-requires
opened_name-requires c = c.requires.line

pub returns-in_default : goal.returns-in_default
returns-in_default c = let pre = c.requires in (knows-next _ _ _ _ _ pre.line pre.known).names

pub has_name-requires : goal.has_name-requires
has_name-requires c = let n = c.in-Some.ensures in omega (arith, n.some, n.end)

pub returns-then-not-has_name : goal.returns-then-not-has_name
returns-then-not-has_name c = let pre = c.requires in (knows-next _ _ _ _ _ pre.line pre.known).names

pub closing_names-requires-2 : goal.closing_names-requires-2
closing_names-requires-2 c = let o = line_of-order _ _ _ c.requires.line in omega arith
