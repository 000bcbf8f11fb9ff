-- `dates::parts::digits_value` meets its contract. The invariant: the value so far, with what is left, is the value asked; it has as many digits
-- as bytes were read.
-- Assumes nothing.
use Rattle.std.proofs.Common.{◌≡◌, ◌<◌, ◌^◌, drop}
use Rattle.dates.specs.Reads.{value_from, value}
use Rattle.dates.proofs.parts.digits_value.Given as goal

abbrev pub invariant-loop-b : goal.invariant-loop-b
invariant-loop-b l = (l.v < 10 ^ l.b-index) × (value_from l.v (drop l.b-index l.b-items) ≡ value l.b-items)
