-- The invariant of `rules::element::paragraph_lines`: the further lines from `at` on, counted on from n, are those asked for, and what is known is
-- true of the lines from `at` on. The measure is the bytes from `at` on.
-- Assumes nothing.
use Rattle.std.proofs.Common.{◌≡◌, ◌-◌, ◌≤◌}
use Rattle.rules.specs.Known.{Knows}
use Rattle.rules.specs.Findings.{paragraph_run}
use Rattle.rules.proofs.element.paragraph_lines.Given as goal

abbrev pub invariant-loop-at : goal.invariant-loop-at
invariant-loop-at l = record {
  order : l.at ≤ l.to;
  known : Knows l.text l.at l.to l.ends l.names;
  run : paragraph_run l.text l.at l.to l.n ≡ paragraph_run l.text l.from l.to 0;
  few : l.n ≤ l.at;
}

abbrev pub decreases-loop-at : goal.decreases-loop-at
decreases-loop-at l = l.to - l.at
