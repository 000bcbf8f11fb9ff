-- The headings of a text: each heading line's start, stars and title length.
use Rattle.std.specs.Prelude.{List, [], ◌∷◌, map, ℕ}
use Prim.Native.String.{String}
use Rattle.text.specs.Runs.{word}
use Rattle.text.specs.Cases.{Case, case}
use Rattle.stream.specs.Headings.{title, heading_at, headings_from, headings, heading_size, numbers, OpenStreamHeadings}
use Rattle.stream.specs.Pinned.Forms.{heading, heading_parts, OpenForms}

-- a heading line and its title
infix 100 ◌titled◌
unfoldable pub ◌titled◌ : String → String → Case
w titled t = case w (title (word w)) (word t)

unfoldable pub title_cases : List Case
title_cases =
    "* A\n" titled "A"
    ∷ "* A" titled "A"
    ∷ "** Ab\n" titled "Ab"
    ∷ "*** A" titled "A"
    -- blank bytes at the end, 32, 9 and 13
    ∷ "* A \n" titled "A"
    ∷ "* A\t\n" titled "A"
    ∷ "* A\r\n" titled "A"
    ∷ "** a b \t\r" titled "a b"
    -- at the front they count, but for the stars' space
    ∷ "*  A\n" titled " A"
    ∷ "* \tA\n" titled "\tA"
    ∷ "* \rA" titled "\rA"
    ∷ "*  a  b \n" titled " a  b"
    -- other bytes count, 11, 12, 0 and 255 too, and so do stars
    ∷ "* A\u{b}\n" titled "A\u{b}"
    ∷ "* \u{c} \n" titled "\u{c}"
    ∷ "* \0\n" titled "\0"
    ∷ "* Ãÿ\r\n" titled "Ãÿ"
    ∷ "* ** b\n" titled "** b"
    ∷ "* *" titled "*"
    -- empty
    ∷ "* \n" titled ""
    ∷ "* " titled ""
    ∷ "**  \t\r\n" titled ""
    ∷ []

-- a heading line from byte 5 on
unfoldable pub at_cases : List Case
at_cases =
    case "** Abc\n" (heading_parts (heading_at 5 (word "** Abc\n") ∷ [])) (5 ∷ 2 ∷ 3 ∷ [])
    ∷ case "* " (heading_parts (heading_at 5 (word "* ") ∷ [])) (5 ∷ 1 ∷ 0 ∷ [])
    ∷ []

-- some lines from byte p on
infix 100 ◌from◌give◌
unfoldable pub ◌from◌give◌ : List String → ℕ → List ℕ → Case
ws from p give ns = case "lines" (heading_parts (headings_from p (map word ws))) ns

unfoldable pub from_cases : List Case
from_cases =
    [] from 7 give []
    ∷ ("x\n" ∷ []) from 7 give []
    ∷ ("* A\n" ∷ []) from 7 give (7 ∷ 1 ∷ 1 ∷ [])
    ∷ ("xy\n" ∷ "* A\n" ∷ "\n" ∷ "** B c" ∷ []) from 7 give (10 ∷ 1 ∷ 1 ∷ 15 ∷ 2 ∷ 3 ∷ [])
    ∷ []

-- a text and its headings
infix 100 ◌heads◌
unfoldable pub ◌heads◌ : String → List ℕ → Case
w heads ns = case w (heading_parts (headings (word w))) ns

unfoldable pub heads_cases : List Case
heads_cases =
    "* A\n" heads (0 ∷ 1 ∷ 1 ∷ [])
    ∷ "*** Ab c" heads (0 ∷ 3 ∷ 4 ∷ [])
    ∷ "*  a b \t\r\n" heads (0 ∷ 1 ∷ 4 ∷ [])
    ∷ "* Ã©\0\u{b}\n" heads (0 ∷ 1 ∷ 4 ∷ [])
    ∷ "* \n" heads (0 ∷ 1 ∷ 0 ∷ [])
    ∷ "* " heads (0 ∷ 1 ∷ 0 ∷ [])
    -- no heading line: no star, stars alone, no byte 32 after them, not from the first byte
    ∷ "" heads []
    ∷ "x\n" heads []
    ∷ "\n" heads []
    ∷ "*" heads []
    ∷ "***\n" heads []
    ∷ "*\tA\n" heads []
    ∷ "*\rA\n" heads []
    ∷ "**A\n" heads []
    ∷ " * A\n" heads []
    ∷ "\t* A\n" heads []
    ∷ "x* A\n" heads []
    -- byte 13 ends no line
    ∷ "x\r* A\n" heads []
    ∷ "* A\r* B\n" heads (0 ∷ 1 ∷ 5 ∷ [])
    -- several, in order
    ∷ "* A\n** Bc\nx\n*** \n* D" heads (0 ∷ 1 ∷ 1 ∷ 4 ∷ 2 ∷ 2 ∷ 12 ∷ 3 ∷ 0 ∷ 17 ∷ 1 ∷ 1 ∷ [])
    ∷ "\n\n* A\n*\n* B\n*" heads (2 ∷ 1 ∷ 1 ∷ 8 ∷ 1 ∷ 1 ∷ [])
    -- whatever they stand in
    ∷ "#+begin_src\n* A\n#+end_src\n" heads (12 ∷ 1 ∷ 1 ∷ [])
    ∷ []

-- three numbers each: start, stars, title length
unfoldable pub numbers_cases : List Case
numbers_cases =
    case "size" (heading_size ∷ []) (3 ∷ [])
    ∷ case "none" (numbers []) []
    ∷ case "one" (numbers (heading 5 2 7 ∷ [])) (5 ∷ 2 ∷ 7 ∷ [])
    ∷ case "two" (numbers (heading 5 2 7 ∷ heading 16 1 0 ∷ [])) (5 ∷ 2 ∷ 7 ∷ 16 ∷ 1 ∷ 0 ∷ [])
    ∷ []

-- opens these cases and what they are cases of
unfoldable pub OpenHeadingCases : Type 1
unfolding OpenForms OpenStreamHeadings ◌titled◌ title_cases at_cases ◌from◌give◌ from_cases ◌heads◌ heads_cases numbers_cases
OpenHeadingCases = Type 0
