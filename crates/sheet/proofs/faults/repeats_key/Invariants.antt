-- `sheet::faults::repeats_key`: one of the keys comes again where one of those left does.
use mathlib.Core.Path.{◌≡◌}
use Rattle.sheet.specs.Faults.{repeats}
use Rattle.sheet.specs.Spans.{HasPairs, pairs_at}
use Rattle.sheet.proofs.faults.repeats_key.Given as goal

abbrev pub invariant-loop-left : goal.invariant-loop-left
invariant-loop-left l = HasPairs l.buffer l.at l.left × (repeats (pairs_at l.buffer l.at l.left) ≡ repeats (pairs_at l.buffer l.from l.count))
