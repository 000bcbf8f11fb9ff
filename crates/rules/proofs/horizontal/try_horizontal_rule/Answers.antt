-- `rules::horizontal::try_horizontal_rule` meets its contract: a law for each way out.
-- Assumes nothing.
use Rattle.std.proofs.Common.{arith}
use Rattle.rules.proofs.Laws.LineOf.{line_of-order}
use Rattle.rules.proofs.Laws.Rules.{horizontal_rule-short, horizontal_rule-other, horizontal_rule-yes}
use Rattle.rules.proofs.horizontal.try_horizontal_rule.Goals as goal

pub overflow_sub-line : goal.overflow_sub-line
overflow_sub-line c = (line_of-order _ _ _ c.requires.line).1

pub returns-then-line-lt5 : goal.returns-then-line-lt5
returns-then-line-lt5 c = horizontal_rule-short _ _ _ c.requires.line (omega arith)

pub run_end-requires : goal.run_end-requires
run_end-requires c = let o = line_of-order _ _ _ c.requires.line in omega arith

pub returns-then-run_end-line : goal.returns-then-run_end-line
returns-then-run_end-line c = horizontal_rule-other _ _ _ c.requires.line _ c.run_end.ensures c.if-run_end-line.true

pub returns : goal.returns
returns c =
    rw c.of_line.ensures (horizontal_rule-yes _ _ _ c.requires.line _ c.run_end.ensures (omega arith) c.if-run_end-line.false)
