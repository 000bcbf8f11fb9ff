-- What a byte more makes of a state, what more bytes make of it, and the headings that they finish.
use Rattle.std.specs.Prelude.{List, [], ◌∷◌, ◌++◌, ℕ}
use Prim.Native.String.{String}
use Rattle.text.specs.Runs.{word}
use Rattle.text.specs.Cases.{Case, case}
use Rattle.stream.specs.declared.state.Stream.{Stream}
use Rattle.stream.specs.Steps.{in_heading, last_heading, next_line, stars_then, title_then, stepped, finished_by, fed, finished, OpenSteps}
use Rattle.stream.specs.Pinned.Forms.{stream, state_parts, heading_parts, truth, OpenForms}

-- an unfinished line, in words, at a state: whether it is a heading line, and the heading where it is finished as it stands
infix 100 ◌at◌heads◌gives◌
unfoldable pub ◌at◌heads◌gives◌ : String → Stream → ℕ → List ℕ → Case
w at c heads n gives ns = case w (truth (in_heading c) ∷ heading_parts (last_heading c)) (n ∷ ns)

unfoldable pub line_cases : List Case
line_cases =
    -- stars, and more than stars
    "* " at stream 2 2 1 0 0 heads 1 gives (0 ∷ 1 ∷ 0 ∷ [])
    ∷ "*** " at stream 10 4 3 0 0 heads 1 gives (6 ∷ 3 ∷ 0 ∷ [])
    ∷ "** abc" at stream 10 6 2 3 0 heads 1 gives (4 ∷ 2 ∷ 3 ∷ [])
    ∷ "65,536 bytes" at stream 65536 65536 1 65534 0 heads 1 gives (0 ∷ 1 ∷ 65534 ∷ [])
    -- stars alone, none, no byte
    ∷ "*" at stream 10 1 1 0 0 heads 0 gives []
    ∷ "****" at stream 10 4 4 0 0 heads 0 gives []
    ∷ "abcd" at stream 10 4 0 0 0 heads 0 gives []
    ∷ "a" at stream 10 1 0 0 0 heads 0 gives []
    ∷ "" at stream 10 0 0 0 0 heads 0 gives []
    ∷ "" at stream 0 0 0 0 0 heads 0 gives []
    ∷ []

-- the stars after byte b, where the line has been of l bytes, s of them stars
unfoldable pub stars_then_case : String → ℕ → ℕ → ℕ → ℕ → Case
stars_then_case w l s b n = case w (stars_then (stream 30 l s 0 0) b ∷ []) (n ∷ [])

unfoldable pub stars_then_cases : List Case
stars_then_cases =
    -- at the line's front: a star, and any other byte
    stars_then_case "" 0 0 42 1
    ∷ stars_then_case "" 0 0 32 0
    ∷ stars_then_case "" 0 0 9 0
    ∷ stars_then_case "" 0 0 120 0
    -- after stars alone: a star, byte 32, any other byte
    ∷ stars_then_case "*" 1 1 42 2
    ∷ stars_then_case "***" 3 3 42 4
    ∷ stars_then_case "*" 1 1 32 1
    ∷ stars_then_case "***" 3 3 32 3
    ∷ stars_then_case "***" 3 3 120 0
    ∷ stars_then_case "***" 3 3 9 0
    ∷ stars_then_case "***" 3 3 13 0
    ∷ stars_then_case "***" 3 3 31 0
    ∷ stars_then_case "***" 3 3 33 0
    ∷ stars_then_case "***" 3 3 41 0
    ∷ stars_then_case "***" 3 3 43 0
    ∷ stars_then_case "***" 3 3 0 0
    -- in a heading line
    ∷ stars_then_case "** " 3 2 42 2
    ∷ stars_then_case "** " 3 2 32 2
    ∷ stars_then_case "** " 3 2 120 2
    ∷ stars_then_case "**       " 9 2 42 2
    -- in any other line
    ∷ stars_then_case "a" 1 0 42 0
    ∷ stars_then_case "a" 1 0 32 0
    ∷ stars_then_case "abcd" 4 0 120 0
    ∷ []

-- the title after byte b, where it has been of t bytes
unfoldable pub title_then_case : String → ℕ → ℕ → ℕ → ℕ → ℕ → Case
title_then_case w l s t b n = case w (title_then (stream 30 l s t 0) b ∷ []) (n ∷ [])

unfoldable pub title_then_cases : List Case
title_then_cases =
    -- right after the stars' space: a non-blank byte, and a blank one
    title_then_case "* " 2 1 0 120 1
    ∷ title_then_case "*** " 4 3 0 120 1
    ∷ title_then_case "*** " 4 3 0 32 0
    ∷ title_then_case "*** " 4 3 0 42 1
    -- after a title
    ∷ title_then_case "*** ab" 6 3 2 120 3
    ∷ title_then_case "*** ab" 6 3 2 32 2
    ∷ title_then_case "*** ab" 6 3 2 9 2
    ∷ title_then_case "*** ab" 6 3 2 13 2
    ∷ title_then_case "*** ab" 6 3 2 11 3
    ∷ title_then_case "*** ab" 6 3 2 12 3
    ∷ title_then_case "*** ab" 6 3 2 0 3
    ∷ title_then_case "*** ab" 6 3 2 255 3
    -- byte 10 is neither blank nor non-blank
    ∷ title_then_case "*** ab" 6 3 2 10 2
    -- blank bytes between count once a non-blank byte follows
    ∷ title_then_case "*** ab   " 9 3 2 120 6
    ∷ title_then_case "*** ab   " 9 3 2 32 2
    ∷ title_then_case "***      " 9 3 0 120 6
    -- no heading line: stars alone, none
    ∷ title_then_case "***" 3 3 0 120 0
    ∷ title_then_case "***" 3 3 0 32 0
    ∷ title_then_case "abcde" 5 0 0 120 0
    ∷ title_then_case "" 0 0 0 120 0
    ∷ []

-- the state after a byte, and the heading that it finishes
infix 100 ◌at◌and◌is◌gives◌
unfoldable pub ◌at◌and◌is◌gives◌ : String → Stream → ℕ → List ℕ → List ℕ → Case
w at c and b is ns gives hs = case w (state_parts (stepped c b) ++ heading_parts (finished_by c b)) (ns ++ hs)

unfoldable pub step_cases : List Case
step_cases =
    -- byte 10 ends a line: a heading line, stars alone, any other, an empty one
    "*** ab" at stream 30 6 3 2 0 and 10 is (31 ∷ 0 ∷ 0 ∷ 0 ∷ 0 ∷ []) gives (24 ∷ 3 ∷ 2 ∷ [])
    ∷ "* " at stream 2 2 1 0 0 and 10 is (3 ∷ 0 ∷ 0 ∷ 0 ∷ 0 ∷ []) gives (0 ∷ 1 ∷ 0 ∷ [])
    ∷ "***" at stream 30 3 3 0 0 and 10 is (31 ∷ 0 ∷ 0 ∷ 0 ∷ 0 ∷ []) gives []
    ∷ "abc" at stream 30 3 0 0 0 and 10 is (31 ∷ 0 ∷ 0 ∷ 0 ∷ 0 ∷ []) gives []
    ∷ "" at stream 30 0 0 0 0 and 10 is (31 ∷ 0 ∷ 0 ∷ 0 ∷ 0 ∷ []) gives []
    -- any other byte finishes nothing
    ∷ "" at stream 0 0 0 0 0 and 42 is (1 ∷ 1 ∷ 1 ∷ 0 ∷ 0 ∷ []) gives []
    ∷ "***" at stream 30 3 3 0 0 and 42 is (31 ∷ 4 ∷ 4 ∷ 0 ∷ 0 ∷ []) gives []
    ∷ "***" at stream 30 3 3 0 0 and 32 is (31 ∷ 4 ∷ 3 ∷ 0 ∷ 0 ∷ []) gives []
    ∷ "***" at stream 30 3 3 0 0 and 120 is (31 ∷ 4 ∷ 0 ∷ 0 ∷ 0 ∷ []) gives []
    ∷ "*** ab" at stream 30 6 3 2 0 and 120 is (31 ∷ 7 ∷ 3 ∷ 3 ∷ 0 ∷ []) gives []
    ∷ "*** ab" at stream 30 6 3 2 0 and 32 is (31 ∷ 7 ∷ 3 ∷ 2 ∷ 0 ∷ []) gives []
    ∷ "*** ab" at stream 30 6 3 2 0 and 13 is (31 ∷ 7 ∷ 3 ∷ 2 ∷ 0 ∷ []) gives []
    ∷ "*** ab" at stream 30 6 3 2 0 and 11 is (31 ∷ 7 ∷ 3 ∷ 3 ∷ 0 ∷ []) gives []
    ∷ "abcde" at stream 30 5 0 0 0 and 42 is (31 ∷ 6 ∷ 0 ∷ 0 ∷ 0 ∷ []) gives []
    ∷ case "next line" (state_parts (next_line (stream 30 6 3 2 0))) (31 ∷ 0 ∷ 0 ∷ 0 ∷ 0 ∷ [])
    -- a byte declares no end, and takes back none
    ∷ "*** ab" at stream 30 6 3 2 1 and 120 is (31 ∷ 7 ∷ 3 ∷ 3 ∷ 1 ∷ []) gives []
    ∷ "*** ab" at stream 30 6 3 2 1 and 10 is (31 ∷ 0 ∷ 0 ∷ 0 ∷ 1 ∷ []) gives (24 ∷ 3 ∷ 2 ∷ [])
    ∷ []

-- some bytes more
infix 100 ◌then◌is◌gives◌
unfoldable pub ◌then◌is◌gives◌ : Stream → String → List ℕ → List ℕ → Case
c then w is ns gives hs = case w (state_parts (fed c (word w)) ++ heading_parts (finished c (word w))) (ns ++ hs)

unfoldable pub bytes_cases : List Case
bytes_cases =
    -- none: the state as before
    stream 0 0 0 0 0 then "" is (0 ∷ 0 ∷ 0 ∷ 0 ∷ 0 ∷ []) gives []
    ∷ stream 30 6 3 2 0 then "" is (30 ∷ 6 ∷ 3 ∷ 2 ∷ 0 ∷ []) gives []
    -- from the text's front
    ∷ stream 0 0 0 0 0 then "* A\n" is (4 ∷ 0 ∷ 0 ∷ 0 ∷ 0 ∷ []) gives (0 ∷ 1 ∷ 1 ∷ [])
    ∷ stream 0 0 0 0 0 then "x\n** Ab  c \t\r" is (13 ∷ 11 ∷ 2 ∷ 5 ∷ 0 ∷ []) gives []
    ∷ stream 0 0 0 0 0 then "* A\n** Bc\nx\n*** \n* D" is (20 ∷ 3 ∷ 1 ∷ 1 ∷ 0 ∷ []) gives (0 ∷ 1 ∷ 1 ∷ 4 ∷ 2 ∷ 2 ∷ 12 ∷ 3 ∷ 0 ∷ [])
    ∷ stream 0 0 0 0 0 then "***\n*\tx\n *  A\n" is (14 ∷ 0 ∷ 0 ∷ 0 ∷ 0 ∷ []) gives []
    -- from inside stars, from after the stars' space, inside a title, in another line
    ∷ stream 30 2 2 0 0 then "* A\n*" is (35 ∷ 1 ∷ 1 ∷ 0 ∷ 0 ∷ []) gives (28 ∷ 3 ∷ 1 ∷ [])
    ∷ stream 30 2 2 0 0 then "\n* A\n" is (35 ∷ 0 ∷ 0 ∷ 0 ∷ 0 ∷ []) gives (31 ∷ 1 ∷ 1 ∷ [])
    ∷ stream 30 3 2 0 0 then " A \n" is (34 ∷ 0 ∷ 0 ∷ 0 ∷ 0 ∷ []) gives (27 ∷ 2 ∷ 2 ∷ [])
    ∷ stream 30 6 3 2 0 then "  \r\n" is (34 ∷ 0 ∷ 0 ∷ 0 ∷ 0 ∷ []) gives (24 ∷ 3 ∷ 2 ∷ [])
    ∷ stream 30 5 0 0 0 then " A\n** B\n" is (38 ∷ 0 ∷ 0 ∷ 0 ∷ 0 ∷ []) gives (33 ∷ 2 ∷ 1 ∷ [])
    ∷ []

-- opens these cases and what they are cases of
unfoldable pub OpenStepCases : Type 1
unfolding
    OpenForms OpenSteps ◌at◌heads◌gives◌ line_cases stars_then_case stars_then_cases title_then_case title_then_cases
    ◌at◌and◌is◌gives◌ step_cases ◌then◌is◌gives◌ bytes_cases
OpenStepCases = Type 0
