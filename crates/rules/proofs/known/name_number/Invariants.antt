-- `rules::known::name_number`: the number of the bytes left, counted on from n, is the number asked for.
-- Assumes nothing.
use Rattle.std.proofs.Common.{◌≡◌, ◌<◌, drop}
use Rattle.rules.specs.Known.{number_from, name_number}
use Rattle.rules.proofs.known.name_number.Given as goal

abbrev pub invariant-loop-b : goal.invariant-loop-b
invariant-loop-b l = (l.n < 63) × (number_from l.n (drop l.b-index l.b-items) ≡ name_number l.b-items)
