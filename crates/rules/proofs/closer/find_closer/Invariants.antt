-- `rules::closer::find_closer`. Over lines: the first closer from `at` on, n lines further, is the one asked for, and as many lines are compared from
-- there on as are still to be counted; the measure is the bytes from `at` on. Within a line: j bytes of the closer stand at the body's first byte.
-- Assumes nothing.
use Rattle.std.proofs.Common.{◌≡◌, ◌+◌, ◌-◌, ◌≤◌, ◌++◌}
use Rattle.rules.proofs.Laws.Findings.{further}
use Rattle.rules.proofs.Laws.Closers.{Matched, closer_in, compared_in}
use Rattle.rules.proofs.closer.find_closer.Given as goal

abbrev pub invariant-lines : goal.invariant-lines
invariant-lines l =
    (l.at ≤ l.to)
    × (l.n ≤ l.at)
    × (further l.n (closer_in (l.first ++ l.second) l.text l.at l.to) ≡ closer_in (l.first ++ l.second) l.text l.from l.to)
    × (l.compared ≤ l.n)
    × (l.compared + compared_in (l.first ++ l.second) l.text l.at l.to ≡ compared_in (l.first ++ l.second) l.text l.from l.to)

abbrev pub decreases-lines : goal.decreases-lines
decreases-lines l = l.to - l.at

abbrev pub invariant-loop-j : goal.invariant-loop-j
invariant-loop-j l = Matched (l.first ++ l.second) l.text l.at l.to (l.body + l.j) l.j

abbrev pub decreases-loop-j : goal.decreases-loop-j
decreases-loop-j l = l.to - l.body - l.j
