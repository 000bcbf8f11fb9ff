-- Elements and what they hold: spans with their blank lines, parents, ends and places  [01 "What starts at a line"].
use Rattle.std.specs.Prelude.{List, [], ◌∷◌}
use Rattle.text.specs.Cases.{Case}
use Rattle.table.specs.Records.{rec}
use Rattle.table.specs.Cases.{◌reads◌, ◌kinds◌, OpenTableCases}

-- blank lines after an element are the element's, those before a container's first element the container's own
unfoldable pub blank_cases : List Case
blank_cases =
    "#+begin_a\n\nx\n\n#+end_a\n\ny" reads
    (rec 1 0 24 0 24 0 0 0
    ∷ rec 3 0 24 0 24 0 0 0
    ∷ rec 8 0 23 10 14 1 3 0
    ∷ rec 16 11 14 11 13 2 0 2
    ∷ rec 16 23 24 23 24 1 0 6
    ∷ [])
    ∷ ":a:\n\n:END:\n" reads (rec 1 0 11 0 11 0 0 0 ∷ rec 3 0 11 0 11 0 0 0 ∷ rec 7 0 11 4 5 1 0 0 ∷ [])
    ∷ "# a\n\n: b\n\n-----\n\n#+k: v\n\n" reads
    (rec 1 0 25 0 25 0 0 0
    ∷ rec 3 0 25 0 25 0 0 0
    ∷ rec 12 0 5 0 4 1 0 0
    ∷ rec 13 5 10 5 9 1 0 2
    ∷ rec 14 10 17 10 15 1 0 4
    ∷ rec 15 17 25 22 23 1 0 6
    ∷ [])
    ∷ []

-- a property drawer holds its lines and a table its rows; a drawer and a greater block hold elements, a verbatim block none
unfoldable pub held_cases : List Case
held_cases =
    "* a\nCLOSED: [2026-11-16]\n:PROPERTIES:\n :B+:  \n:C: y z\n:END:\n\n" reads
    (rec 1 0 61 0 61 0 0 0
    ∷ rec 2 0 61 4 61 0 1 0
    ∷ rec 3 4 61 4 61 1 0 1
    ∷ rec 4 4 25 4 24 2 0 1
    ∷ rec 5 25 61 38 54 2 0 2
    ∷ rec 6 38 46 43 43 4 0 3
    ∷ rec 6 46 54 50 53 4 0 4
    ∷ [])
    ∷ "| a\n |- \n#+tblfm:\n\nx" reads
    (rec 1 0 20 0 20 0 0 0
    ∷ rec 3 0 20 0 20 0 0 0
    ∷ rec 10 0 19 0 9 1 0 0
    ∷ rec 11 0 4 0 3 2 0 0
    ∷ rec 11 4 9 5 7 2 1 1
    ∷ rec 16 19 20 19 20 1 0 4
    ∷ [])
    ∷ "|" reads (rec 1 0 1 0 1 0 0 0 ∷ rec 3 0 1 0 1 0 0 0 ∷ rec 10 0 1 0 1 1 0 0 ∷ rec 11 0 1 0 1 2 0 0 ∷ [])
    ∷ ":a:\n#+begin_b\nx\n#+end_b\ny\n:END:\n|\n" reads
    (rec 1 0 34 0 34 0 0 0
    ∷ rec 3 0 34 0 34 0 0 0
    ∷ rec 7 0 32 4 26 1 0 0
    ∷ rec 8 4 24 14 16 2 3 1
    ∷ rec 16 14 16 14 16 3 0 2
    ∷ rec 16 24 26 24 26 2 0 4
    ∷ rec 10 32 34 32 34 1 0 6
    ∷ rec 11 32 34 32 33 6 0 6
    ∷ [])
    ∷ "#+begin_src\n:a:\n:END:\n#+end_src\n\n" reads (rec 1 0 33 0 33 0 0 0 ∷ rec 3 0 33 0 33 0 0 0 ∷ rec 9 0 33 12 22 1 4 0 ∷ [])
    ∷ []

-- a closer is looked for before the container's end; the first one closes, even inside another block
unfoldable pub closer_cases : List Case
closer_cases =
    "#+begin_a\n:b:\n#+end_a\n:END:\n" kinds (1 ∷ 3 ∷ 8 ∷ 16 ∷ 16 ∷ [])
    ∷ ":a:\n#+begin_b\n:END:\n#+end_b\n" kinds (1 ∷ 3 ∷ 7 ∷ 16 ∷ 16 ∷ [])
    ∷ "#+begin_a\n#+begin_a\n#+end_a\n#+end_a\n" kinds (1 ∷ 3 ∷ 8 ∷ 16 ∷ 16 ∷ [])
    ∷ "#+begin_a\n|\n#+end_a\n#+tblfm:\n" kinds (1 ∷ 3 ∷ 8 ∷ 10 ∷ 11 ∷ 15 ∷ [])
    ∷ []

-- planning: only on the line right after a heading line, and dates all through
unfoldable pub planning_cases : List Case
planning_cases =
    "* a\nCLOSED: [2026-11-16]\nCLOSED: [2026-11-16]\n" kinds (1 ∷ 2 ∷ 3 ∷ 4 ∷ 16 ∷ [])
    ∷ "* a\n\nCLOSED: [2026-11-16]\n" kinds (1 ∷ 2 ∷ 3 ∷ 16 ∷ [])
    ∷ "CLOSED: [2026-11-16]\n" kinds (1 ∷ 3 ∷ 16 ∷ [])
    ∷ "* a\nCLOSED: [2026-11-16] DEADLINE: <2026-11-16>\nx\n" kinds (1 ∷ 2 ∷ 3 ∷ 4 ∷ 16 ∷ [])
    ∷ "* a\nSCHEDULED: ring him back\nx\n" kinds (1 ∷ 2 ∷ 3 ∷ 16 ∷ [])
    ∷ "* a\nSCHEDULED:\n|\n" kinds (1 ∷ 2 ∷ 3 ∷ 16 ∷ 10 ∷ 11 ∷ [])
    ∷ "* a\nCLOSED: [2026-11-16]x\n" kinds (1 ∷ 2 ∷ 3 ∷ 16 ∷ [])
    ∷ []

-- property drawer: right after a heading line or its planning line; as the zeroth section's first element or right after a comment that is
unfoldable pub drawer_cases : List Case
drawer_cases =
    "* a\n:PROPERTIES:\n:END:\n" kinds (1 ∷ 2 ∷ 3 ∷ 5 ∷ [])
    ∷ "* a\nCLOSED: [2026-11-16] DEADLINE: <2026-11-16>\n:PROPERTIES:\n:END:\n" kinds (1 ∷ 2 ∷ 3 ∷ 4 ∷ 5 ∷ [])
    ∷ "* a\nCLOSED: [2026-11-16]\n\n:PROPERTIES:\n:END:\n" kinds (1 ∷ 2 ∷ 3 ∷ 4 ∷ 7 ∷ [])
    ∷ "* a\nSCHEDULED: ring him back\n:PROPERTIES:\n:END:\n" kinds (1 ∷ 2 ∷ 3 ∷ 16 ∷ 7 ∷ [])
    ∷ "* a\nCLOSED: [2026-11-16]x\n:PROPERTIES:\n:END:\n" kinds (1 ∷ 2 ∷ 3 ∷ 16 ∷ 7 ∷ [])
    ∷ "* a\n# b\n:PROPERTIES:\n:END:\n" kinds (1 ∷ 2 ∷ 3 ∷ 12 ∷ 7 ∷ [])
    ∷ "\n:PROPERTIES:\n:END:\n:PROPERTIES:\n:END:\n" kinds (1 ∷ 3 ∷ 5 ∷ 7 ∷ [])
    ∷ "# a\n#\n:PROPERTIES:\n:A: x\n:END:\n" kinds (1 ∷ 3 ∷ 12 ∷ 5 ∷ 6 ∷ [])
    ∷ "# a\n\n:PROPERTIES:\n:END:\n" kinds (1 ∷ 3 ∷ 12 ∷ 7 ∷ [])
    ∷ "x\n:PROPERTIES:\n:END:\n" kinds (1 ∷ 3 ∷ 16 ∷ 7 ∷ [])
    ∷ "#+begin_a\n:PROPERTIES:\n:END:\n#+end_a\n" kinds (1 ∷ 3 ∷ 8 ∷ 7 ∷ [])
    ∷ []

-- opens these cases and what they are cases of
unfoldable pub OpenContainerCases : Type 1
unfolding OpenTableCases blank_cases held_cases closer_cases planning_cases drawer_cases
OpenContainerCases = Type 0
