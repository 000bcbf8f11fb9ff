-- The cases of specs/Pinned are right, by computation.
use mathlib.Core.Path.{refl}
use Rattle.text.specs.Cases.{Right}
use Rattle.orgtable.specs.Pinned.{decimal_cases, OpenDecimalCases}

pub decimals-pinned : Right decimal_cases
unfolding OpenDecimalCases
decimals-pinned = refl
