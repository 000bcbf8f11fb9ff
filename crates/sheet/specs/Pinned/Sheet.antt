-- The sheet's bytes, and bytes laid over others.
use Rattle.std.specs.Prelude.{◌≡◌, List, [], ◌∷◌, map, ℕ}
use Prim.Native.String.{String}
use Rattle.text.specs.Runs.{word}
use Rattle.text.specs.Cases.{Case, case}
use Rattle.sheet.specs.Sheet.{sheet_lines, join, sheet, OpenSheet}
use Rattle.sheet.specs.Output.{laid, Puts}
use Rattle.sheet.specs.Pinned.Forms.{told, order_of, OpenForms}

-- the lines of an order's sheet; lines one after another
unfoldable pub lines_case : String → List String → List String → Case
lines_case t ws ls = case t (told (sheet_lines (order_of t ws))) (told (map word ls))

unfoldable pub join_case : List String → String → Case
join_case ls w = case w (join (map word ls)) (word w)

-- the sheet of an order
infix 100 ◌with◌writes◌
unfoldable pub ◌with◌writes◌ : String → List String → String → Case
t with ws writes w = case w (sheet (order_of t ws)) (word w)

unfoldable pub sheet_cases : List Case
sheet_cases =
    lines_case "To" ("VIN" ∷ "7" ∷ "A" ∷ "" ∷ []) ("* To\n" ∷ ":PROPERTIES:\n" ∷ ":VIN: 7\n" ∷ ":A:\n" ∷ ":END:\n" ∷ [])
    ∷ lines_case "" [] ("* \n" ∷ ":PROPERTIES:\n" ∷ ":END:\n" ∷ [])
    ∷ join_case [] ""
    ∷ join_case ("a\n" ∷ "" ∷ "b" ∷ "cd\n" ∷ []) "a\nbcd\n"
    ∷ "" with [] writes "* \n:PROPERTIES:\n:END:\n"
    ∷ "T" with ("VIN" ∷ "7" ∷ []) writes "* T\n:PROPERTIES:\n:VIN: 7\n:END:\n"
    -- an empty value; a value that starts with a colon, a star, is one byte
    ∷ "T" with ("A" ∷ "" ∷ []) writes "* T\n:PROPERTIES:\n:A:\n:END:\n"
    ∷ "* T" with ("A" ∷ ":x" ∷ []) writes "* * T\n:PROPERTIES:\n:A: :x\n:END:\n"
    ∷ "T" with ("a:b" ∷ "* x" ∷ []) writes "* T\n:PROPERTIES:\n:a:b: * x\n:END:\n"
    -- pairs in turn, whatever their keys
    ∷ "a b" with ("C" ∷ "x y" ∷ "A" ∷ ":" ∷ "B" ∷ "" ∷ []) writes "* a b\n:PROPERTIES:\n:C: x y\n:A: :\n:B:\n:END:\n"
    ∷ []

-- bytes laid over others from byte a on
unfoldable pub laid_case : String → ℕ → String → String → Case
laid_case d a x w = case w (laid (word d) a (word x)) (word w)

unfoldable pub laid_cases : List Case
laid_cases =
    laid_case "abcdef" 0 "XY" "XYcdef"
    ∷ laid_case "abcdef" 1 "XYZ" "aXYZef"
    ∷ laid_case "abcdef" 4 "XY" "abcdXY"
    ∷ laid_case "abcdef" 3 "" "abcdef"
    ∷ laid_case "abcdef" 6 "" "abcdef"
    ∷ laid_case "ab" 0 "XY" "XY"
    ∷ []

-- whatever is left of some bytes by others laid over them from byte a on, it is those bytes, and they end at that byte
infix 100 ◌put◌at◌leaves◌to◌
abbrev pub ◌put◌at◌leaves◌to◌ : String → String → ℕ → String → ℕ → Type 0
d put x at a leaves w to n = (d' : List ℕ) (e : ℕ) → Puts (word d) a (word x) d' e → (d' ≡ word w) × (e ≡ n)

-- opens these cases and what they are cases of
unfoldable pub OpenSheetCases : Type 1
unfolding OpenForms OpenSheet lines_case join_case ◌with◌writes◌ sheet_cases laid laid_case laid_cases
OpenSheetCases = Type 0
