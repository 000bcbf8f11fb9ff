-- The sheet of an order  [02 order 5]: every line with byte 10 and no indentation.
use Rattle.std.specs.Prelude.{List, [], ◌∷◌, ◌++◌, ℕ}
use Rattle.text.specs.Runs.{word}
use Rattle.text.specs.Lines.{Line}
use Rattle.sheet.specs.Order.{Pair, Order}

-- one star, a space and the title
unfoldable pub title_line : List ℕ → Line
title_line t = word "* " ++ (t ++ word "\n")

-- `:`, the key, `:`
unfoldable pub marked_key : List ℕ → List ℕ
marked_key k = word ":" ++ (k ++ word ":")

-- a space and the value, unless the value is empty
unfoldable pub spaced : List ℕ → List ℕ
spaced [] = []
spaced (b ∷ v) = 32 ∷ b ∷ v

unfoldable pub pair_line : Pair → Line
unfolding marked_key spaced
pair_line p = marked_key p.key ++ (spaced p.value ++ word "\n")

unfoldable pub pair_lines : List Pair → List Line
pair_lines [] = []
pair_lines (p ∷ ps) = pair_line p ∷ pair_lines ps

unfoldable pub open_line : Line
open_line = word ":PROPERTIES:\n"

unfoldable pub close_line : Line
close_line = word ":END:\n"

unfoldable pub sheet_lines : Order → List Line
sheet_lines o = title_line o.title ∷ open_line ∷ (pair_lines o.pairs ++ (close_line ∷ []))

-- lines one after another
unfoldable pub join : List Line → List ℕ
join [] = []
join (l ∷ ls) = l ++ join ls

unfoldable pub sheet : Order → List ℕ
unfolding join
sheet o = join (sheet_lines o)

-- opens the definitions of this file, for computed examples
unfoldable pub OpenSheet : Type 1
unfolding title_line marked_key spaced pair_line pair_lines open_line close_line sheet_lines join sheet
OpenSheet = Type 0
