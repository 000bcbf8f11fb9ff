-- A request that is in the book  [02 order 6].
use Rattle.std.specs.Prelude.{Bool, false, ◌&&◌, ◌||◌, List, ℕ, zero, suc, length, eqb}
use Rattle.text.specs.Number
use Rattle.text.specs.Runs.{equal}
use Rattle.lookup.specs.Lookup.{lookup, number, part_of}
use Rattle.intake.specs.Required.{request_key, OpenRequired}

-- key k, looked up at byte p of text s, gives exactly the bytes v
unfoldable pub looks_up : List ℕ → List ℕ → List ℕ → ℕ → Bool
looks_up s k v p = let r = lookup s p k in eqb (number r) Number.done && equal (part_of r s) v

-- a test passes at a number below n
unfoldable pub some_below : ℕ → (ℕ → Bool) → Bool
some_below zero f = false
some_below (suc n) f = some_below n f || f n

-- 19: `REQUEST` already looks the value up, byte for byte, at some heading: at some byte, since where no heading line starts nothing is found.
unfoldable pub seen : List ℕ → List ℕ → Bool
unfolding looks_up some_below
seen s v = some_below (length s) (looks_up s request_key v)

-- opens the definitions of this file, of those of this crate that it stands on, and of sheet, for computed examples
unfoldable pub OpenSeen : Type 1
unfolding OpenRequired looks_up some_below seen
OpenSeen = Type 0
