-- Line numbers  [02 order 7].
use Rattle.std.specs.Prelude.{Bool, true, false, List, [], ◌∷◌, ℕ, suc, take}
use Rattle.text.specs.Bytes.{is_newline, OpenBytes}

-- how many of some bytes pass a test
unfoldable pub count : (ℕ → Bool) → List ℕ → ℕ
count f [] = 0
count f (b ∷ x) = elim (f b) [ true ↦ suc (count f x) | false ↦ count f x ]

-- how many bytes 10 stand before byte p
unfoldable pub line_number : List ℕ → ℕ → ℕ
line_number s p = count is_newline (take p s)

-- opens the definitions of this file and of those it stands on, for computed examples
unfoldable pub OpenLineNumbers : Type 1
unfolding OpenBytes count line_number
OpenLineNumbers = Type 0
