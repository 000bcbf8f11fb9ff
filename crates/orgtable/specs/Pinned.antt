-- Decimal numbers of one to twenty digits, worked out by hand.
use Rattle.std.specs.Prelude.{List, [], ◌∷◌, ℕ}
use Prim.Native.String.{String}
use Rattle.text.specs.Runs.{word}
use Rattle.text.specs.Cases.{Case, case, OpenCases}
use Rattle.orgtable.specs.Printed.{decimal, OpenPrinted}

-- a number is written so
infix 100 ◌written◌
unfoldable pub ◌written◌ : ℕ → String → Case
n written w = case w (decimal n) (word w)

unfoldable pub decimal_cases : List Case
decimal_cases =
    0 written "0"
    ∷ 9 written "9"
    ∷ 10 written "10"
    ∷ 65536 written "65536"
    ∷ 18446744073709551615 written "18446744073709551615"
    ∷ []

-- opens these cases and what they are cases of
unfoldable pub OpenDecimalCases : Type 1
unfolding OpenCases OpenPrinted ◌written◌ decimal_cases
OpenDecimalCases = Type 0
