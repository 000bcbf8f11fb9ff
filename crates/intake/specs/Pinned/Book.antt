-- A book: its bytes in use, and what is written after them.
use Rattle.std.specs.Prelude.{true, false, List, [], ◌∷◌, ◌++◌, ℕ, replicate}
use Prim.Native.String.{String}
use Rattle.text.specs.Runs.{word}
use Rattle.text.specs.Cases.{Case, case}
use Rattle.sheet.specs.Pinned.Forms.{truths}
use Rattle.intake.specs.Book.{book_of, text, is_overused, added_to, added, extended, OpenBook}
use Rattle.intake.specs.Pinned.Forms.{book_parts, OpenForms}

-- the text in use of a book, and whether its bytes in use are too many
infix 100 ◌used◌is◌over◌
unfoldable pub ◌used◌is◌over◌ : String → ℕ → String → ℕ → Case
w used n is s over o = let b = book_of (word w) n in case w (truths (is_overused b ∷ []) ++ text b) (o ∷ word s)

unfoldable pub text_cases : List Case
text_cases =
    "" used 0 is "" over 0
    ∷ "" used 1 is "" over 1
    ∷ "abc" used 0 is "" over 0
    ∷ "abc" used 2 is "ab" over 0
    ∷ "abc" used 3 is "abc" over 0
    ∷ "abc" used 4 is "abc" over 1
    ∷ []

-- over 65,536, in a buffer that is longer
unfoldable pub over_cases : List Case
over_cases =
    let overuses : ℕ → List ℕ = λ n. truths (is_overused (book_of (replicate 65537 97) n) ∷ []) in
    case "65,536" (overuses 65536) (0 ∷ []) ∷ case "65,537" (overuses 65537) (1 ∷ []) ∷ []

-- some bytes as they are written after a text: with one byte 10 first if its last line lacks it
unfoldable pub added_case : String → String → Case
added_case s w = case s (added (word s) (word "xy")) (word w)

unfoldable pub added_cases : List Case
added_cases =
    added_case "" "xy"
    ∷ added_case "a" "\nxy"
    ∷ added_case "a\n" "xy"
    ∷ added_case "\n" "xy"
    ∷ added_case "a\nb" "\nxy"
    ∷ added_case "a\n\n" "xy"
    ∷ added_case "a\r" "\nxy"
    ∷ case "ended" (added_to true (word "x")) (word "x")
    ∷ case "not ended" (added_to false (word "x")) (word "\nx")
    ∷ []

-- written into the part after the bytes in use
infix 100 ◌used◌with◌is◌used◌
unfoldable pub ◌used◌with◌is◌used◌ : String → ℕ → String → String → ℕ → Case
w used n with x is y used m = case w (book_parts (extended (book_of (word w) n) (word x))) (m ∷ word y)

unfoldable pub extended_cases : List Case
extended_cases =
    "abcdef" used 2 with "XYZ" is "abXYZf" used 5
    ∷ "abcdef" used 0 with "X" is "Xbcdef" used 1
    ∷ "abcdef" used 4 with "XY" is "abcdXY" used 6
    ∷ "abcdef" used 3 with "" is "abcdef" used 3
    ∷ []

-- opens these cases and what they are cases of
unfoldable pub OpenBookCases : Type 1
unfolding OpenForms OpenBook ◌used◌is◌over◌ text_cases over_cases added_case added_cases ◌used◌with◌is◌used◌ extended_cases
OpenBookCases = Type 0
