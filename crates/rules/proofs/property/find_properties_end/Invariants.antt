-- `rules::property::find_properties_end`: the closer from `at` on, n lines further, is the closer asked for. The measure is the bytes from `at` on.
-- Assumes nothing.
use Rattle.std.proofs.Common.{◌≡◌, ◌-◌, ◌≤◌, length}
use Rattle.rules.proofs.Laws.Findings.{further}
use Rattle.rules.proofs.Laws.Properties.{properties_end}
use Rattle.rules.proofs.property.find_properties_end.Given as goal

abbrev pub invariant-loop-at : goal.invariant-loop-at
invariant-loop-at l =
    (l.at ≤ l.to) × (l.to ≤ length l.text) × (l.n ≤ l.at) × (further l.n (properties_end l.text l.at l.to) ≡ properties_end l.text l.from l.to)

abbrev pub decreases-loop-at : goal.decreases-loop-at
decreases-loop-at l = l.to - l.at
