-- `dates::parts::has_shape` meets its contract: a part shorter than the shape is not of it.
-- The invariant: what is left of the part begins like what is left of the shape just where the part begins like the shape.
-- Assumes nothing.
use Rattle.std.proofs.Common.{◌≡◌, ◌+◌, drop}
use Rattle.text.specs.Parts.{part}
use Rattle.dates.specs.Reads.{shaped}
use Rattle.dates.proofs.parts.has_shape.Given as goal

abbrev pub invariant-loop-j : goal.invariant-loop-j
invariant-loop-j l = shaped (drop l.j l.shape) (part l.text (l.from + l.j) l.to) ≡ shaped l.shape (part l.text l.from l.to)
