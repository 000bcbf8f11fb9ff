-- The state after some bytes of a book: how many, and what the unfinished line has been so far.
use Rattle.std.specs.Prelude.{List, [], ◌∷◌, ◌++◌, map, ℕ}
use Prim.Native.String.{String}
use Rattle.text.specs.Runs.{word}
use Rattle.text.specs.Cases.{Case, case}
use Rattle.stream.specs.State.{last_line, unfinished, finished_part, stars_so_far, title_so_far, state_with, state_of, new_stream, with_end, OpenState}
use Rattle.stream.specs.Pinned.Forms.{stream, state_parts, OpenForms}

-- the last of some lines
unfoldable pub last_case : List String → String → Case
last_case ws w = case w (last_line (map word ws)) (word w)

unfoldable pub last_cases : List Case
last_cases =
    last_case [] ""
    ∷ last_case ("a\n" ∷ []) "a\n"
    ∷ last_case ("a\n" ∷ "bc" ∷ []) "bc"
    ∷ last_case ("a\n" ∷ "b\n" ∷ "\n" ∷ "* c" ∷ []) "* c"
    ∷ []

-- a text: its finished lines, and its unfinished one; 256, which is no byte, stands between them
infix 100 ◌finishes◌leaves◌
unfoldable pub ◌finishes◌leaves◌ : String → String → String → Case
w finishes a leaves b = case w (finished_part (word w) ++ 256 ∷ unfinished (word w)) (word a ++ 256 ∷ word b)

unfoldable pub finished_cases : List Case
finished_cases =
    "" finishes "" leaves ""
    ∷ "a" finishes "" leaves "a"
    ∷ "a\n" finishes "a\n" leaves ""
    ∷ "\n" finishes "\n" leaves ""
    ∷ "a\nbc" finishes "a\n" leaves "bc"
    ∷ "a\nb\n" finishes "a\nb\n" leaves ""
    ∷ "a\n\n* b" finishes "a\n\n" leaves "* b"
    ∷ "ab\r" finishes "" leaves "ab\r"
    ∷ []

-- an unfinished line: its stars and its title so far
infix 100 ◌stars◌title◌
unfoldable pub ◌stars◌title◌ : String → ℕ → ℕ → Case
w stars n title m = case w (stars_so_far (word w) ∷ title_so_far (word w) ∷ []) (n ∷ m ∷ [])

unfoldable pub so_far_cases : List Case
so_far_cases =
    -- no byte, or stars alone, which may become a heading line's
    "" stars 0 title 0
    ∷ "*" stars 1 title 0
    ∷ "***" stars 3 title 0
    -- a heading line
    ∷ "* " stars 1 title 0
    ∷ "*** " stars 3 title 0
    ∷ "** Ab" stars 2 title 2
    ∷ "*  A b \t\r" stars 1 title 4
    ∷ "*  \t\r" stars 1 title 0
    ∷ "* *" stars 1 title 1
    -- any other line
    ∷ "x" stars 0 title 0
    ∷ "xyz" stars 0 title 0
    ∷ " * A" stars 0 title 0
    ∷ "*A" stars 0 title 0
    ∷ "*\tA" stars 0 title 0
    ∷ "**Abc" stars 0 title 0
    ∷ "**x* A" stars 0 title 0
    ∷ []

-- the state after a text
infix 100 ◌is◌
unfoldable pub ◌is◌ : String → List ℕ → Case
w is ns = case w (state_parts (state_of (word w))) ns

unfoldable pub state_cases : List Case
state_cases =
    "" is (0 ∷ 0 ∷ 0 ∷ 0 ∷ 0 ∷ [])
    ∷ "*" is (1 ∷ 1 ∷ 1 ∷ 0 ∷ 0 ∷ [])
    ∷ "* " is (2 ∷ 2 ∷ 1 ∷ 0 ∷ 0 ∷ [])
    ∷ "** Abc " is (7 ∷ 7 ∷ 2 ∷ 3 ∷ 0 ∷ [])
    ∷ "* A\n" is (4 ∷ 0 ∷ 0 ∷ 0 ∷ 0 ∷ [])
    ∷ "* A\n*" is (5 ∷ 1 ∷ 1 ∷ 0 ∷ 0 ∷ [])
    ∷ "x\n* A\n** Bcd \t" is (14 ∷ 8 ∷ 2 ∷ 3 ∷ 0 ∷ [])
    ∷ "* A\nxy" is (6 ∷ 2 ∷ 0 ∷ 0 ∷ 0 ∷ [])
    ∷ "* A\n**x" is (7 ∷ 3 ∷ 0 ∷ 0 ∷ 0 ∷ [])
    ∷ "x\n\n" is (3 ∷ 0 ∷ 0 ∷ 0 ∷ 0 ∷ [])
    ∷ case "9 bytes, ** A" (state_parts (state_with 9 (word "** A"))) (9 ∷ 4 ∷ 2 ∷ 1 ∷ 0 ∷ [])
    ∷ case "new" (state_parts new_stream) (0 ∷ 0 ∷ 0 ∷ 0 ∷ 0 ∷ [])
    -- the end declared: the rest as before
    ∷ case "end" (state_parts (with_end (stream 9 5 2 1 0))) (9 ∷ 5 ∷ 2 ∷ 1 ∷ 1 ∷ [])
    ∷ case "end once more" (state_parts (with_end (stream 9 5 2 1 1))) (9 ∷ 5 ∷ 2 ∷ 1 ∷ 1 ∷ [])
    ∷ case "end of a new one" (state_parts (with_end new_stream)) (0 ∷ 0 ∷ 0 ∷ 0 ∷ 1 ∷ [])
    ∷ []

-- opens these cases and what they are cases of
unfoldable pub OpenStateCases : Type 1
unfolding OpenForms OpenState last_case last_cases ◌finishes◌leaves◌ finished_cases ◌stars◌title◌ so_far_cases ◌is◌ state_cases
OpenStateCases = Type 0
