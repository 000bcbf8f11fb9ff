-- `rules::list::together_end` meets its contract: what a rule finds, where its kind is no higher than a table's; else the line alone, after which
-- what is known is worked out.
-- Assumes nothing.
use Rattle.rules.proofs.Laws.EarlyRules.{rule-together, rule-alone, no-rule-alone}
use Rattle.rules.proofs.Laws.NoLines.{knows-rule}
use Rattle.rules.proofs.Laws.Together.{together-line}
use Rattle.rules.proofs.list.together_end.Goals as goal
use Rattle.rules.proofs.list.together_end.Goals.{in-Some+else-e-le-TABLE, in_default}

pub returns-then-e-le-TABLE : goal.returns-then-e-le-TABLE
returns-then-e-le-TABLE c =
    let holds = c.in-Some.ensures in
    record { run = rule-together _ _ _ _ _ holds c.if-e-le-TABLE.true; known = knows-rule _ _ _ _ _ c.requires.known _ _ holds }

pub returns : goal.returns
returns c =
    record {
      run = together-line _ _ _ c.requires.line (
          elim c.match-find_rule.branch [
            | in-Some+else-e-le-TABLE w ↦ rule-alone _ _ _ _ _ w.in-Some.ensures w.if-e-le-TABLE.false
            | in_default w ↦ no-rule-alone _ _ _ _ w.in_default.ensures
          ]
          );
      known = record { ends = c.ends_after.ensures; names = c.names_after.ensures };
    }
