-- Headings and sections: spans, parents and stars  [01 "Headings and sections first"].
use Rattle.std.specs.Prelude.{List, [], ◌∷◌}
use Rattle.text.specs.Cases.{Case}
use Rattle.table.specs.Records.{rec}
use Rattle.table.specs.Cases.{◌reads◌, ◌kinds◌, OpenTableCases}

-- where all is blank there is no section; else it starts at the first non-blank line, and ends at the next heading line
unfoldable pub section_cases : List Case
section_cases =
    "\n \t\r\n" reads (rec 1 0 5 0 5 0 0 0 ∷ [])
    ∷ "\n x\n\n" reads (rec 1 0 5 0 5 0 0 0 ∷ rec 3 1 5 1 5 0 0 1 ∷ rec 16 1 5 1 4 1 0 1 ∷ [])
    ∷ "* a\n\n" reads (rec 1 0 5 0 5 0 0 0 ∷ rec 2 0 5 4 5 0 1 0 ∷ [])
    ∷ "x\n* a\n\ny\n\n* b\n" reads
    (rec 1 0 14 0 14 0 0 0
    ∷ rec 3 0 2 0 2 0 0 0
    ∷ rec 16 0 2 0 2 1 0 0
    ∷ rec 2 2 10 6 10 0 1 1
    ∷ rec 3 7 10 7 10 3 0 3
    ∷ rec 16 7 10 7 9 4 0 3
    ∷ rec 2 10 14 14 14 0 1 5
    ∷ [])
    ∷ []

-- a heading ends before the next with as many stars or fewer; its parent is the nearest earlier one with fewer
unfoldable pub heading_cases : List Case
heading_cases =
    "* a\n*** b\n** c\nx\n** d\n* e\n** f" reads
    (rec 1 0 30 0 30 0 0 0
    ∷ rec 2 0 22 4 22 0 1 0
    ∷ rec 2 4 10 10 10 1 3 1
    ∷ rec 2 10 17 15 17 1 2 2
    ∷ rec 3 15 17 15 17 3 0 3
    ∷ rec 16 15 17 15 17 4 0 3
    ∷ rec 2 17 22 22 22 1 2 4
    ∷ rec 2 22 30 26 30 0 1 5
    ∷ rec 2 26 30 30 30 7 2 6
    ∷ [])
    ∷ "** a\n*** b\n* c\n" reads (rec 1 0 15 0 15 0 0 0 ∷ rec 2 0 11 5 11 0 2 0 ∷ rec 2 5 11 11 11 1 3 1 ∷ rec 2 11 15 15 15 0 1 2 ∷ [])
    ∷ "**************************************** \n" reads (rec 1 0 42 0 42 0 0 0 ∷ rec 2 0 42 42 42 0 40 0 ∷ [])
    ∷ "*a\n *b\n**\n" kinds (1 ∷ 3 ∷ 16 ∷ [])
    ∷ "*a\n * b\n**\n" kinds (1 ∷ 3 ∷ 16 ∷ 17 ∷ 18 ∷ 16 ∷ 16 ∷ [])
    ∷ []

-- a heading line inside an open drawer or block is a heading
unfoldable pub open_cases : List Case
open_cases =
    ":a:\n* b\n:END:\n" kinds (1 ∷ 3 ∷ 16 ∷ 2 ∷ 3 ∷ 16 ∷ [])
    ∷ "* a\n:PROPERTIES:\n* b\n:END:\n" kinds (1 ∷ 2 ∷ 3 ∷ 16 ∷ 2 ∷ 3 ∷ 16 ∷ [])
    ∷ "#+begin_a\n* b\n#+end_a\n" kinds (1 ∷ 3 ∷ 16 ∷ 2 ∷ 3 ∷ 16 ∷ [])
    ∷ []

-- opens these cases and what they are cases of
unfoldable pub OpenHeadingCases : Type 1
unfolding OpenTableCases section_cases heading_cases open_cases
OpenHeadingCases = Type 0
