-- Plain lists and items  [02 order 4].
use Rattle.std.specs.Prelude.{List, [], ◌∷◌}
use Rattle.text.specs.Cases.{Case}
use Rattle.table.specs.Records.{rec}
use Rattle.table.specs.Cases.{◌reads◌, OpenTableCases}

-- A bullet is `-`, `+`, an indented `*`, or a number or one letter with `.` or `)`, then a blank byte or line end.
unfoldable pub bullet_cases : List Case
bullet_cases =
    "- a\n" reads (rec 1 0 4 0 4 0 0 0 ∷ rec 3 0 4 0 4 0 0 0 ∷ rec 17 0 4 0 4 1 2 0 ∷ rec 18 0 4 2 4 2 0 0 ∷ rec 16 2 4 2 4 3 0 0 ∷ [])
    ∷ "+ a" reads (rec 1 0 3 0 3 0 0 0 ∷ rec 3 0 3 0 3 0 0 0 ∷ rec 17 0 3 0 3 1 2 0 ∷ rec 18 0 3 2 3 2 0 0 ∷ rec 16 2 3 2 3 3 0 0 ∷ [])
    ∷ " * a\n" reads (rec 1 0 5 0 5 0 0 0 ∷ rec 3 0 5 0 5 0 0 0 ∷ rec 17 0 5 0 5 1 2 0 ∷ rec 18 0 5 3 5 2 0 0 ∷ rec 16 3 5 3 5 3 0 0 ∷ [])
    ∷ "* a\n" reads (rec 1 0 4 0 4 0 0 0 ∷ rec 2 0 4 4 4 0 1 0 ∷ [])
    ∷ "*\n" reads (rec 1 0 2 0 2 0 0 0 ∷ rec 3 0 2 0 2 0 0 0 ∷ rec 16 0 2 0 2 1 0 0 ∷ [])
    ∷ " *" reads (rec 1 0 2 0 2 0 0 0 ∷ rec 3 0 2 0 2 0 0 0 ∷ rec 17 0 2 0 2 1 2 0 ∷ rec 18 0 2 2 2 2 0 0 ∷ [])
    ∷ "12. a\n" reads (rec 1 0 6 0 6 0 0 0 ∷ rec 3 0 6 0 6 0 0 0 ∷ rec 17 0 6 0 6 1 1 0 ∷ rec 18 0 6 4 6 2 0 0 ∷ rec 16 4 6 4 6 3 0 0 ∷ [])
    ∷ "b) a\n" reads (rec 1 0 5 0 5 0 0 0 ∷ rec 3 0 5 0 5 0 0 0 ∷ rec 17 0 5 0 5 1 1 0 ∷ rec 18 0 5 3 5 2 0 0 ∷ rec 16 3 5 3 5 3 0 0 ∷ [])
    ∷ "Z.\n" reads (rec 1 0 3 0 3 0 0 0 ∷ rec 3 0 3 0 3 0 0 0 ∷ rec 17 0 3 0 3 1 1 0 ∷ rec 18 0 3 2 3 2 0 0 ∷ [])
    ∷ "ab. a\n" reads (rec 1 0 6 0 6 0 0 0 ∷ rec 3 0 6 0 6 0 0 0 ∷ rec 16 0 6 0 6 1 0 0 ∷ [])
    ∷ "1.a\n" reads (rec 1 0 4 0 4 0 0 0 ∷ rec 3 0 4 0 4 0 0 0 ∷ rec 16 0 4 0 4 1 0 0 ∷ [])
    ∷ "-a\n" reads (rec 1 0 3 0 3 0 0 0 ∷ rec 3 0 3 0 3 0 0 0 ∷ rec 16 0 3 0 3 1 0 0 ∷ [])
    ∷ "1\n" reads (rec 1 0 2 0 2 0 0 0 ∷ rec 3 0 2 0 2 0 0 0 ∷ rec 16 0 2 0 2 1 0 0 ∷ [])
    ∷ "-\ta\n" reads (rec 1 0 4 0 4 0 0 0 ∷ rec 3 0 4 0 4 0 0 0 ∷ rec 17 0 4 0 4 1 2 0 ∷ rec 18 0 4 2 4 2 0 0 ∷ rec 16 2 4 2 4 3 0 0 ∷ [])
    ∷ "-\r\n" reads (rec 1 0 3 0 3 0 0 0 ∷ rec 3 0 3 0 3 0 0 0 ∷ rec 17 0 3 0 3 1 2 0 ∷ rec 18 0 3 2 3 2 0 0 ∷ [])
    ∷ "--\n" reads (rec 1 0 3 0 3 0 0 0 ∷ rec 3 0 3 0 3 0 0 0 ∷ rec 16 0 3 0 3 1 0 0 ∷ [])
    ∷ "-----\n" reads (rec 1 0 6 0 6 0 0 0 ∷ rec 3 0 6 0 6 0 0 0 ∷ rec 14 0 6 0 5 1 0 0 ∷ [])
    ∷ "- \n" reads (rec 1 0 3 0 3 0 0 0 ∷ rec 3 0 3 0 3 0 0 0 ∷ rec 17 0 3 0 3 1 2 0 ∷ rec 18 0 3 2 3 2 0 0 ∷ [])
    ∷ "-" reads (rec 1 0 1 0 1 0 0 0 ∷ rec 3 0 1 0 1 0 0 0 ∷ rec 17 0 1 0 1 1 2 0 ∷ rec 18 0 1 1 1 2 0 0 ∷ [])
    ∷ []

-- A list's detail is 1 if its first item has a number or letter bullet, else 2.
unfoldable pub detail_cases : List Case
detail_cases =
    "1. a\n- b\n" reads
    (rec 1 0 9 0 9 0 0 0
    ∷ rec 3 0 9 0 9 0 0 0
    ∷ rec 17 0 9 0 9 1 1 0
    ∷ rec 18 0 5 3 5 2 0 0
    ∷ rec 16 3 5 3 5 3 0 0
    ∷ rec 18 5 9 7 9 2 0 1
    ∷ rec 16 7 9 7 9 5 0 1
    ∷ [])
    ∷ "- a\n1. b\n" reads
    (rec 1 0 9 0 9 0 0 0
    ∷ rec 3 0 9 0 9 0 0 0
    ∷ rec 17 0 9 0 9 1 2 0
    ∷ rec 18 0 4 2 4 2 0 0
    ∷ rec 16 2 4 2 4 3 0 0
    ∷ rec 18 4 9 7 9 2 0 1
    ∷ rec 16 7 9 7 9 5 0 1
    ∷ [])
    ∷ "a) b\n2. c\n+ d\n" reads
    (rec 1 0 14 0 14 0 0 0
    ∷ rec 3 0 14 0 14 0 0 0
    ∷ rec 17 0 14 0 14 1 1 0
    ∷ rec 18 0 5 3 5 2 0 0
    ∷ rec 16 3 5 3 5 3 0 0
    ∷ rec 18 5 10 8 10 2 0 1
    ∷ rec 16 8 10 8 10 5 0 1
    ∷ rec 18 10 14 12 14 2 0 2
    ∷ rec 16 12 14 12 14 7 0 2
    ∷ [])
    ∷ []

-- An item's inner span runs from after bullet, counter set, check box (as present) and the blank bytes after them. Tags stay text.
unfoldable pub left_cases : List Case
left_cases =
    "- [@3] [X]  a\n" reads
    (rec 1 0 14 0 14 0 0 0
    ∷ rec 3 0 14 0 14 0 0 0
    ∷ rec 17 0 14 0 14 1 2 0
    ∷ rec 18 0 14 12 14 2 0 0
    ∷ rec 16 12 14 12 14 3 0 0
    ∷ [])
    ∷ "- [@b]\n" reads (rec 1 0 7 0 7 0 0 0 ∷ rec 3 0 7 0 7 0 0 0 ∷ rec 17 0 7 0 7 1 2 0 ∷ rec 18 0 7 6 7 2 0 0 ∷ [])
    ∷ "- [@12] a\n" reads
    (rec 1 0 10 0 10 0 0 0
    ∷ rec 3 0 10 0 10 0 0 0
    ∷ rec 17 0 10 0 10 1 2 0
    ∷ rec 18 0 10 8 10 2 0 0
    ∷ rec 16 8 10 8 10 3 0 0
    ∷ [])
    ∷ "- [@]a\n" reads (rec 1 0 7 0 7 0 0 0 ∷ rec 3 0 7 0 7 0 0 0 ∷ rec 17 0 7 0 7 1 2 0 ∷ rec 18 0 7 2 7 2 0 0 ∷ rec 16 2 7 2 7 3 0 0 ∷ [])
    ∷ "- [@3]a\n" reads
    (rec 1 0 8 0 8 0 0 0
    ∷ rec 3 0 8 0 8 0 0 0
    ∷ rec 17 0 8 0 8 1 2 0
    ∷ rec 18 0 8 2 8 2 0 0
    ∷ rec 16 2 8 2 8 3 0 0
    ∷ [])
    ∷ "- [ ] a\n" reads
    (rec 1 0 8 0 8 0 0 0
    ∷ rec 3 0 8 0 8 0 0 0
    ∷ rec 17 0 8 0 8 1 2 0
    ∷ rec 18 0 8 6 8 2 0 0
    ∷ rec 16 6 8 6 8 3 0 0
    ∷ [])
    ∷ "- [x] a\n" reads
    (rec 1 0 8 0 8 0 0 0
    ∷ rec 3 0 8 0 8 0 0 0
    ∷ rec 17 0 8 0 8 1 2 0
    ∷ rec 18 0 8 6 8 2 0 0
    ∷ rec 16 6 8 6 8 3 0 0
    ∷ [])
    ∷ "- [-]\n" reads (rec 1 0 6 0 6 0 0 0 ∷ rec 3 0 6 0 6 0 0 0 ∷ rec 17 0 6 0 6 1 2 0 ∷ rec 18 0 6 5 6 2 0 0 ∷ [])
    ∷ "- [x]a\n" reads (rec 1 0 7 0 7 0 0 0 ∷ rec 3 0 7 0 7 0 0 0 ∷ rec 17 0 7 0 7 1 2 0 ∷ rec 18 0 7 2 7 2 0 0 ∷ rec 16 2 7 2 7 3 0 0 ∷ [])
    ∷ "- [X] [@3] a\n" reads
    (rec 1 0 13 0 13 0 0 0
    ∷ rec 3 0 13 0 13 0 0 0
    ∷ rec 17 0 13 0 13 1 2 0
    ∷ rec 18 0 13 6 13 2 0 0
    ∷ rec 16 6 13 6 13 3 0 0
    ∷ [])
    ∷ "- [\t] [ ] a\n" reads
    (rec 1 0 12 0 12 0 0 0
    ∷ rec 3 0 12 0 12 0 0 0
    ∷ rec 17 0 12 0 12 1 2 0
    ∷ rec 18 0 12 6 12 2 0 0
    ∷ rec 16 6 12 6 12 3 0 0
    ∷ [])
    ∷ "- a :: b\n" reads
    (rec 1 0 9 0 9 0 0 0
    ∷ rec 3 0 9 0 9 0 0 0
    ∷ rec 17 0 9 0 9 1 2 0
    ∷ rec 18 0 9 2 9 2 0 0
    ∷ rec 16 2 9 2 9 3 0 0
    ∷ [])
    ∷ []

-- What is left on the first line begins a paragraph that goes on by rule 10. A line end left alone there counts as no blank line.
unfoldable pub first_line_cases : List Case
first_line_cases =
    "- a\n b\n" reads (rec 1 0 7 0 7 0 0 0 ∷ rec 3 0 7 0 7 0 0 0 ∷ rec 17 0 7 0 7 1 2 0 ∷ rec 18 0 7 2 7 2 0 0 ∷ rec 16 2 7 2 7 3 0 0 ∷ [])
    ∷ "- | r\n  | q\n" reads
    (rec 1 0 12 0 12 0 0 0
    ∷ rec 3 0 12 0 12 0 0 0
    ∷ rec 17 0 12 0 12 1 2 0
    ∷ rec 18 0 12 2 12 2 0 0
    ∷ rec 16 2 6 2 6 3 0 0
    ∷ rec 10 6 12 6 12 3 0 1
    ∷ rec 11 6 12 8 11 5 0 1
    ∷ [])
    ∷ "- #+begin_x\n  a\n  #+end_x\n" reads
    (rec 1 0 26 0 26 0 0 0
    ∷ rec 3 0 26 0 26 0 0 0
    ∷ rec 17 0 26 0 26 1 2 0
    ∷ rec 18 0 26 2 26 2 0 0
    ∷ rec 16 2 26 2 26 3 0 0
    ∷ [])
    ∷ "- # c\n  # d\n" reads
    (rec 1 0 12 0 12 0 0 0
    ∷ rec 3 0 12 0 12 0 0 0
    ∷ rec 17 0 12 0 12 1 2 0
    ∷ rec 18 0 12 2 12 2 0 0
    ∷ rec 16 2 6 2 6 3 0 0
    ∷ rec 12 6 12 6 12 3 0 1
    ∷ [])
    ∷ "- - a\n" reads (rec 1 0 6 0 6 0 0 0 ∷ rec 3 0 6 0 6 0 0 0 ∷ rec 17 0 6 0 6 1 2 0 ∷ rec 18 0 6 2 6 2 0 0 ∷ rec 16 2 6 2 6 3 0 0 ∷ [])
    ∷ "- :D:\n  :END:\n" reads
    (rec 1 0 14 0 14 0 0 0
    ∷ rec 3 0 14 0 14 0 0 0
    ∷ rec 17 0 14 0 14 1 2 0
    ∷ rec 18 0 14 2 14 2 0 0
    ∷ rec 16 2 14 2 14 3 0 0
    ∷ [])
    ∷ "- -----\n" reads
    (rec 1 0 8 0 8 0 0 0
    ∷ rec 3 0 8 0 8 0 0 0
    ∷ rec 17 0 8 0 8 1 2 0
    ∷ rec 18 0 8 2 8 2 0 0
    ∷ rec 16 2 8 2 8 3 0 0
    ∷ [])
    ∷ "-\n a\n" reads (rec 1 0 5 0 5 0 0 0 ∷ rec 3 0 5 0 5 0 0 0 ∷ rec 17 0 5 0 5 1 2 0 ∷ rec 18 0 5 1 5 2 0 0 ∷ rec 16 2 5 2 5 3 0 1 ∷ [])
    ∷ "-\n\n a\n" reads
    (rec 1 0 6 0 6 0 0 0
    ∷ rec 3 0 6 0 6 0 0 0
    ∷ rec 17 0 6 0 6 1 2 0
    ∷ rec 18 0 6 1 6 2 0 0
    ∷ rec 16 3 6 3 6 3 0 2
    ∷ [])
    ∷ "-\n\n\n a\n" reads
    (rec 1 0 7 0 7 0 0 0
    ∷ rec 3 0 7 0 7 0 0 0
    ∷ rec 17 0 4 0 2 1 2 0
    ∷ rec 18 0 2 1 2 2 0 0
    ∷ rec 16 4 7 4 7 1 0 3
    ∷ [])
    ∷ "- [ ]\n  | r\n" reads
    (rec 1 0 12 0 12 0 0 0
    ∷ rec 3 0 12 0 12 0 0 0
    ∷ rec 17 0 12 0 12 1 2 0
    ∷ rec 18 0 12 5 12 2 0 0
    ∷ rec 10 6 12 6 12 3 0 1
    ∷ rec 11 6 12 8 11 4 0 1
    ∷ [])
    ∷ []

-- Indentation counts 1 for a space, 8 for a tab. Items of one indentation in a row make a list.
unfoldable pub indentation_cases : List Case
indentation_cases =
    "\t- a\n        - b\n" reads
    (rec 1 0 17 0 17 0 0 0
    ∷ rec 3 0 17 0 17 0 0 0
    ∷ rec 17 0 17 0 17 1 2 0
    ∷ rec 18 0 5 3 5 2 0 0
    ∷ rec 16 3 5 3 5 3 0 0
    ∷ rec 18 5 17 15 17 2 0 1
    ∷ rec 16 15 17 15 17 5 0 1
    ∷ [])
    ∷ "\t- a\n       - b\n" reads
    (rec 1 0 16 0 16 0 0 0
    ∷ rec 3 0 16 0 16 0 0 0
    ∷ rec 17 0 5 0 5 1 2 0
    ∷ rec 18 0 5 3 5 2 0 0
    ∷ rec 16 3 5 3 5 3 0 0
    ∷ rec 17 5 16 5 16 1 2 1
    ∷ rec 18 5 16 14 16 5 0 1
    ∷ rec 16 14 16 14 16 6 0 1
    ∷ [])
    ∷ " - a\n- b\n" reads
    (rec 1 0 9 0 9 0 0 0
    ∷ rec 3 0 9 0 9 0 0 0
    ∷ rec 17 0 5 0 5 1 2 0
    ∷ rec 18 0 5 3 5 2 0 0
    ∷ rec 16 3 5 3 5 3 0 0
    ∷ rec 17 5 9 5 9 1 2 1
    ∷ rec 18 5 9 7 9 5 0 1
    ∷ rec 16 7 9 7 9 6 0 1
    ∷ [])
    ∷ "- a\n - b\n- c\n" reads
    (rec 1 0 13 0 13 0 0 0
    ∷ rec 3 0 13 0 13 0 0 0
    ∷ rec 17 0 13 0 13 1 2 0
    ∷ rec 18 0 9 2 9 2 0 0
    ∷ rec 16 2 4 2 4 3 0 0
    ∷ rec 17 4 9 4 9 3 2 1
    ∷ rec 18 4 9 7 9 5 0 1
    ∷ rec 16 7 9 7 9 6 0 1
    ∷ rec 18 9 13 11 13 2 0 2
    ∷ rec 16 11 13 11 13 8 0 2
    ∷ [])
    ∷ "  - a\n - b\n- c\n" reads
    (rec 1 0 15 0 15 0 0 0
    ∷ rec 3 0 15 0 15 0 0 0
    ∷ rec 17 0 6 0 6 1 2 0
    ∷ rec 18 0 6 4 6 2 0 0
    ∷ rec 16 4 6 4 6 3 0 0
    ∷ rec 17 6 11 6 11 1 2 1
    ∷ rec 18 6 11 9 11 5 0 1
    ∷ rec 16 9 11 9 11 6 0 1
    ∷ rec 17 11 15 11 15 1 2 2
    ∷ rec 18 11 15 13 15 8 0 2
    ∷ rec 16 13 15 13 15 9 0 2
    ∷ [])
    ∷ "- a\n  - b\n    - c\n  - d\n" reads
    (rec 1 0 24 0 24 0 0 0
    ∷ rec 3 0 24 0 24 0 0 0
    ∷ rec 17 0 24 0 24 1 2 0
    ∷ rec 18 0 24 2 24 2 0 0
    ∷ rec 16 2 4 2 4 3 0 0
    ∷ rec 17 4 24 4 24 3 2 1
    ∷ rec 18 4 18 8 18 5 0 1
    ∷ rec 16 8 10 8 10 6 0 1
    ∷ rec 17 10 18 10 18 6 2 2
    ∷ rec 18 10 18 16 18 8 0 2
    ∷ rec 16 16 18 16 18 9 0 2
    ∷ rec 18 18 24 22 24 5 0 3
    ∷ rec 16 22 24 22 24 11 0 3
    ∷ [])
    ∷ []

-- An item ends before a non-blank line indented no more than it, or at two blank lines together, which end all lists.
unfoldable pub end_cases : List Case
end_cases =
    "- a\nb\n" reads
    (rec 1 0 6 0 6 0 0 0
    ∷ rec 3 0 6 0 6 0 0 0
    ∷ rec 17 0 4 0 4 1 2 0
    ∷ rec 18 0 4 2 4 2 0 0
    ∷ rec 16 2 4 2 4 3 0 0
    ∷ rec 16 4 6 4 6 1 0 1
    ∷ [])
    ∷ " - a\n b\n" reads
    (rec 1 0 8 0 8 0 0 0
    ∷ rec 3 0 8 0 8 0 0 0
    ∷ rec 17 0 5 0 5 1 2 0
    ∷ rec 18 0 5 3 5 2 0 0
    ∷ rec 16 3 5 3 5 3 0 0
    ∷ rec 16 5 8 5 8 1 0 1
    ∷ [])
    ∷ " - a\n  b\nc\n" reads
    (rec 1 0 11 0 11 0 0 0
    ∷ rec 3 0 11 0 11 0 0 0
    ∷ rec 17 0 9 0 9 1 2 0
    ∷ rec 18 0 9 3 9 2 0 0
    ∷ rec 16 3 9 3 9 3 0 0
    ∷ rec 16 9 11 9 11 1 0 2
    ∷ [])
    ∷ "- a\n  - b\n c\n" reads
    (rec 1 0 13 0 13 0 0 0
    ∷ rec 3 0 13 0 13 0 0 0
    ∷ rec 17 0 13 0 13 1 2 0
    ∷ rec 18 0 13 2 13 2 0 0
    ∷ rec 16 2 4 2 4 3 0 0
    ∷ rec 17 4 10 4 10 3 2 1
    ∷ rec 18 4 10 8 10 5 0 1
    ∷ rec 16 8 10 8 10 6 0 1
    ∷ rec 16 10 13 10 13 3 0 2
    ∷ [])
    ∷ "- a\n\n- b\n" reads
    (rec 1 0 9 0 9 0 0 0
    ∷ rec 3 0 9 0 9 0 0 0
    ∷ rec 17 0 9 0 9 1 2 0
    ∷ rec 18 0 5 2 4 2 0 0
    ∷ rec 16 2 4 2 4 3 0 0
    ∷ rec 18 5 9 7 9 2 0 2
    ∷ rec 16 7 9 7 9 5 0 2
    ∷ [])
    ∷ "- a\n\n\n- b\n" reads
    (rec 1 0 10 0 10 0 0 0
    ∷ rec 3 0 10 0 10 0 0 0
    ∷ rec 17 0 6 0 4 1 2 0
    ∷ rec 18 0 4 2 4 2 0 0
    ∷ rec 16 2 4 2 4 3 0 0
    ∷ rec 17 6 10 6 10 1 2 3
    ∷ rec 18 6 10 8 10 5 0 3
    ∷ rec 16 8 10 8 10 6 0 3
    ∷ [])
    ∷ "- a\n\n  b\n" reads
    (rec 1 0 9 0 9 0 0 0
    ∷ rec 3 0 9 0 9 0 0 0
    ∷ rec 17 0 9 0 9 1 2 0
    ∷ rec 18 0 9 2 9 2 0 0
    ∷ rec 16 2 5 2 4 3 0 0
    ∷ rec 16 5 9 5 9 3 0 2
    ∷ [])
    ∷ "- a\n\n\n  b\n" reads
    (rec 1 0 10 0 10 0 0 0
    ∷ rec 3 0 10 0 10 0 0 0
    ∷ rec 17 0 6 0 4 1 2 0
    ∷ rec 18 0 4 2 4 2 0 0
    ∷ rec 16 2 4 2 4 3 0 0
    ∷ rec 16 6 10 6 10 1 0 3
    ∷ [])
    ∷ "- a\n  - b\n\n\n- c\n" reads
    (rec 1 0 16 0 16 0 0 0
    ∷ rec 3 0 16 0 16 0 0 0
    ∷ rec 17 0 12 0 10 1 2 0
    ∷ rec 18 0 10 2 10 2 0 0
    ∷ rec 16 2 4 2 4 3 0 0
    ∷ rec 17 4 10 4 10 3 2 1
    ∷ rec 18 4 10 8 10 5 0 1
    ∷ rec 16 8 10 8 10 6 0 1
    ∷ rec 17 12 16 12 16 1 2 4
    ∷ rec 18 12 16 14 16 8 0 4
    ∷ rec 16 14 16 14 16 9 0 4
    ∷ [])
    ∷ "- a\n  - b\n\n\n  c\n" reads
    (rec 1 0 16 0 16 0 0 0
    ∷ rec 3 0 16 0 16 0 0 0
    ∷ rec 17 0 12 0 10 1 2 0
    ∷ rec 18 0 10 2 10 2 0 0
    ∷ rec 16 2 4 2 4 3 0 0
    ∷ rec 17 4 10 4 10 3 2 1
    ∷ rec 18 4 10 8 10 5 0 1
    ∷ rec 16 8 10 8 10 6 0 1
    ∷ rec 16 12 16 12 16 1 0 4
    ∷ [])
    ∷ []

-- Blank lines before a next item, of this list or of one around it, are those of the item before it in that item's list. Otherwise they go to
-- the outermost list ending there.
unfoldable pub blank_item_cases : List Case
blank_item_cases =
    "- a\n  - b\n\n- c\n" reads
    (rec 1 0 15 0 15 0 0 0
    ∷ rec 3 0 15 0 15 0 0 0
    ∷ rec 17 0 15 0 15 1 2 0
    ∷ rec 18 0 11 2 10 2 0 0
    ∷ rec 16 2 4 2 4 3 0 0
    ∷ rec 17 4 10 4 10 3 2 1
    ∷ rec 18 4 10 8 10 5 0 1
    ∷ rec 16 8 10 8 10 6 0 1
    ∷ rec 18 11 15 13 15 2 0 3
    ∷ rec 16 13 15 13 15 8 0 3
    ∷ [])
    ∷ "- a\n  - b\n\n  - c\n\n- d\n" reads
    (rec 1 0 22 0 22 0 0 0
    ∷ rec 3 0 22 0 22 0 0 0
    ∷ rec 17 0 22 0 22 1 2 0
    ∷ rec 18 0 18 2 17 2 0 0
    ∷ rec 16 2 4 2 4 3 0 0
    ∷ rec 17 4 17 4 17 3 2 1
    ∷ rec 18 4 11 8 10 5 0 1
    ∷ rec 16 8 10 8 10 6 0 1
    ∷ rec 18 11 17 15 17 5 0 3
    ∷ rec 16 15 17 15 17 8 0 3
    ∷ rec 18 18 22 20 22 2 0 5
    ∷ rec 16 20 22 20 22 10 0 5
    ∷ [])
    ∷ "- a\n  - b\n\nc\n" reads
    (rec 1 0 13 0 13 0 0 0
    ∷ rec 3 0 13 0 13 0 0 0
    ∷ rec 17 0 11 0 10 1 2 0
    ∷ rec 18 0 10 2 10 2 0 0
    ∷ rec 16 2 4 2 4 3 0 0
    ∷ rec 17 4 10 4 10 3 2 1
    ∷ rec 18 4 10 8 10 5 0 1
    ∷ rec 16 8 10 8 10 6 0 1
    ∷ rec 16 11 13 11 13 1 0 3
    ∷ [])
    ∷ "- a\n\n" reads (rec 1 0 5 0 5 0 0 0 ∷ rec 3 0 5 0 5 0 0 0 ∷ rec 17 0 5 0 4 1 2 0 ∷ rec 18 0 4 2 4 2 0 0 ∷ rec 16 2 4 2 4 3 0 0 ∷ [])
    ∷ "- a\n  - b\n\n\n" reads
    (rec 1 0 12 0 12 0 0 0
    ∷ rec 3 0 12 0 12 0 0 0
    ∷ rec 17 0 12 0 10 1 2 0
    ∷ rec 18 0 10 2 10 2 0 0
    ∷ rec 16 2 4 2 4 3 0 0
    ∷ rec 17 4 10 4 10 3 2 1
    ∷ rec 18 4 10 8 10 5 0 1
    ∷ rec 16 8 10 8 10 6 0 1
    ∷ [])
    ∷ "- a\n  - b\n\n  c\n" reads
    (rec 1 0 15 0 15 0 0 0
    ∷ rec 3 0 15 0 15 0 0 0
    ∷ rec 17 0 15 0 15 1 2 0
    ∷ rec 18 0 15 2 15 2 0 0
    ∷ rec 16 2 4 2 4 3 0 0
    ∷ rec 17 4 11 4 10 3 2 1
    ∷ rec 18 4 10 8 10 5 0 1
    ∷ rec 16 8 10 8 10 6 0 1
    ∷ rec 16 11 15 11 15 3 0 3
    ∷ [])
    ∷ []

-- Of a block, drawer or table within an item only the first line counts, not the later ones, closer and `#+TBLFM:` lines included.
unfoldable pub item_held_cases : List Case
item_held_cases =
    "- a\n  #+begin_x\nb\n#+end_x\n  c\n" reads
    (rec 1 0 30 0 30 0 0 0
    ∷ rec 3 0 30 0 30 0 0 0
    ∷ rec 17 0 30 0 30 1 2 0
    ∷ rec 18 0 30 2 30 2 0 0
    ∷ rec 16 2 4 2 4 3 0 0
    ∷ rec 8 4 26 16 18 3 3 1
    ∷ rec 16 16 18 16 18 5 0 2
    ∷ rec 16 26 30 26 30 3 0 4
    ∷ [])
    ∷ "- a\n#+begin_x\n#+end_x\n" reads
    (rec 1 0 22 0 22 0 0 0
    ∷ rec 3 0 22 0 22 0 0 0
    ∷ rec 17 0 4 0 4 1 2 0
    ∷ rec 18 0 4 2 4 2 0 0
    ∷ rec 16 2 4 2 4 3 0 0
    ∷ rec 8 4 22 14 14 1 3 1
    ∷ [])
    ∷ "- a\n  :D:\nb\n\n\n:END:\n c\n" reads
    (rec 1 0 23 0 23 0 0 0
    ∷ rec 3 0 23 0 23 0 0 0
    ∷ rec 17 0 23 0 23 1 2 0
    ∷ rec 18 0 23 2 23 2 0 0
    ∷ rec 16 2 4 2 4 3 0 0
    ∷ rec 7 4 20 10 14 3 0 1
    ∷ rec 16 10 14 10 12 5 0 2
    ∷ rec 16 20 23 20 23 3 0 6
    ∷ [])
    ∷ "- a\n  | r\n| q\n#+TBLFM: x\n  b\n" reads
    (rec 1 0 29 0 29 0 0 0
    ∷ rec 3 0 29 0 29 0 0 0
    ∷ rec 17 0 29 0 29 1 2 0
    ∷ rec 18 0 29 2 29 2 0 0
    ∷ rec 16 2 4 2 4 3 0 0
    ∷ rec 10 4 25 4 14 3 0 1
    ∷ rec 11 4 10 6 9 5 0 1
    ∷ rec 11 10 14 10 13 5 0 2
    ∷ rec 16 25 29 25 29 3 0 4
    ∷ [])
    ∷ "- a\n  #+begin_src\n- b\n\n\n#+end_src\n- c\n" reads
    (rec 1 0 38 0 38 0 0 0
    ∷ rec 3 0 38 0 38 0 0 0
    ∷ rec 17 0 38 0 38 1 2 0
    ∷ rec 18 0 34 2 34 2 0 0
    ∷ rec 16 2 4 2 4 3 0 0
    ∷ rec 9 4 34 18 24 3 4 1
    ∷ rec 18 34 38 36 38 2 0 6
    ∷ rec 16 36 38 36 38 6 0 6
    ∷ [])
    ∷ "- a\n  - b\n   :D:\n:END:\n  - c\n" reads
    (rec 1 0 29 0 29 0 0 0
    ∷ rec 3 0 29 0 29 0 0 0
    ∷ rec 17 0 29 0 29 1 2 0
    ∷ rec 18 0 29 2 29 2 0 0
    ∷ rec 16 2 4 2 4 3 0 0
    ∷ rec 17 4 29 4 29 3 2 1
    ∷ rec 18 4 23 8 23 5 0 1
    ∷ rec 16 8 10 8 10 6 0 1
    ∷ rec 7 10 23 17 17 6 0 2
    ∷ rec 18 23 29 27 29 5 0 4
    ∷ rec 16 27 29 27 29 9 0 4
    ∷ [])
    ∷ "- a\n  | r\n\n| q\n" reads
    (rec 1 0 15 0 15 0 0 0
    ∷ rec 3 0 15 0 15 0 0 0
    ∷ rec 17 0 11 0 10 1 2 0
    ∷ rec 18 0 10 2 10 2 0 0
    ∷ rec 16 2 4 2 4 3 0 0
    ∷ rec 10 4 10 4 10 3 0 1
    ∷ rec 11 4 10 6 9 5 0 1
    ∷ rec 10 11 15 11 15 1 0 3
    ∷ rec 11 11 15 11 14 7 0 3
    ∷ [])
    ∷ []

-- A closer within an item is sought up to the end of the section, block or drawer around its lists.
unfoldable pub sought_cases : List Case
sought_cases =
    "- a\n  #+begin_x\nb\n" reads
    (rec 1 0 18 0 18 0 0 0
    ∷ rec 3 0 18 0 18 0 0 0
    ∷ rec 17 0 16 0 16 1 2 0
    ∷ rec 18 0 16 2 16 2 0 0
    ∷ rec 16 2 16 2 16 3 0 0
    ∷ rec 16 16 18 16 18 1 0 2
    ∷ [])
    ∷ "- a\n  #+begin_x\n- b\n  #+end_x\n" reads
    (rec 1 0 30 0 30 0 0 0
    ∷ rec 3 0 30 0 30 0 0 0
    ∷ rec 17 0 30 0 30 1 2 0
    ∷ rec 18 0 30 2 30 2 0 0
    ∷ rec 16 2 4 2 4 3 0 0
    ∷ rec 8 4 30 16 20 3 3 1
    ∷ rec 17 16 20 16 20 5 2 2
    ∷ rec 18 16 20 18 20 6 0 2
    ∷ rec 16 18 20 18 20 7 0 2
    ∷ [])
    ∷ "#+begin_x\n- a\n  :D:\n#+end_x\n:END:\n" reads
    (rec 1 0 34 0 34 0 0 0
    ∷ rec 3 0 34 0 34 0 0 0
    ∷ rec 8 0 28 10 20 1 3 0
    ∷ rec 17 10 20 10 20 2 2 1
    ∷ rec 18 10 20 12 20 3 0 1
    ∷ rec 16 12 20 12 20 4 0 1
    ∷ rec 16 28 34 28 34 1 0 4
    ∷ [])
    ∷ "- a\n  :D:\n* H\n:END:\n" reads
    (rec 1 0 20 0 20 0 0 0
    ∷ rec 3 0 10 0 10 0 0 0
    ∷ rec 17 0 10 0 10 1 2 0
    ∷ rec 18 0 10 2 10 2 0 0
    ∷ rec 16 2 10 2 10 3 0 0
    ∷ rec 2 10 20 14 20 0 1 2
    ∷ rec 3 14 20 14 20 5 0 3
    ∷ rec 16 14 20 14 20 6 0 3
    ∷ [])
    ∷ ":D:\n- a\n  :E:\n  :END:\n:END:\n" reads
    (rec 1 0 28 0 28 0 0 0
    ∷ rec 3 0 28 0 28 0 0 0
    ∷ rec 7 0 22 4 14 1 0 0
    ∷ rec 17 4 14 4 14 2 2 1
    ∷ rec 18 4 14 6 14 3 0 1
    ∷ rec 16 6 14 6 14 4 0 1
    ∷ rec 16 22 28 22 28 1 0 4
    ∷ [])
    ∷ []

-- An item line ends a paragraph. Below an item's first line the usual rules hold; a planning line or property drawer never stands in an item.
unfoldable pub usual_cases : List Case
usual_cases =
    "a\n- b\n" reads
    (rec 1 0 6 0 6 0 0 0
    ∷ rec 3 0 6 0 6 0 0 0
    ∷ rec 16 0 2 0 2 1 0 0
    ∷ rec 17 2 6 2 6 1 2 1
    ∷ rec 18 2 6 4 6 3 0 1
    ∷ rec 16 4 6 4 6 4 0 1
    ∷ [])
    ∷ "a\n-b\n" reads (rec 1 0 5 0 5 0 0 0 ∷ rec 3 0 5 0 5 0 0 0 ∷ rec 16 0 5 0 5 1 0 0 ∷ [])
    ∷ "- a\n  # c\n# d\n" reads
    (rec 1 0 14 0 14 0 0 0
    ∷ rec 3 0 14 0 14 0 0 0
    ∷ rec 17 0 10 0 10 1 2 0
    ∷ rec 18 0 10 2 10 2 0 0
    ∷ rec 16 2 4 2 4 3 0 0
    ∷ rec 12 4 10 4 10 3 0 1
    ∷ rec 12 10 14 10 14 1 0 2
    ∷ [])
    ∷ "- a\n  : f\n: g\n" reads
    (rec 1 0 14 0 14 0 0 0
    ∷ rec 3 0 14 0 14 0 0 0
    ∷ rec 17 0 10 0 10 1 2 0
    ∷ rec 18 0 10 2 10 2 0 0
    ∷ rec 16 2 4 2 4 3 0 0
    ∷ rec 13 4 10 4 10 3 0 1
    ∷ rec 13 10 14 10 14 1 0 2
    ∷ [])
    ∷ "- a\n  # c\n  # d\n" reads
    (rec 1 0 16 0 16 0 0 0
    ∷ rec 3 0 16 0 16 0 0 0
    ∷ rec 17 0 16 0 16 1 2 0
    ∷ rec 18 0 16 2 16 2 0 0
    ∷ rec 16 2 4 2 4 3 0 0
    ∷ rec 12 4 16 4 16 3 0 1
    ∷ [])
    ∷ "- a\n  -----\n  #+k: v\n b\n" reads
    (rec 1 0 24 0 24 0 0 0
    ∷ rec 3 0 24 0 24 0 0 0
    ∷ rec 17 0 24 0 24 1 2 0
    ∷ rec 18 0 24 2 24 2 0 0
    ∷ rec 16 2 4 2 4 3 0 0
    ∷ rec 14 4 12 6 11 3 0 1
    ∷ rec 15 12 21 19 20 3 0 2
    ∷ rec 16 21 24 21 24 3 0 3
    ∷ [])
    ∷ "* H\nSCHEDULED: <2026-11-16>\n- a\n  :PROPERTIES:\n  :END:\n" reads
    (rec 1 0 55 0 55 0 0 0
    ∷ rec 2 0 55 4 55 0 1 0
    ∷ rec 3 4 55 4 55 1 0 1
    ∷ rec 4 4 28 4 27 2 0 1
    ∷ rec 17 28 55 28 55 2 2 2
    ∷ rec 18 28 55 30 55 4 0 2
    ∷ rec 16 30 32 30 32 5 0 2
    ∷ rec 7 32 55 47 47 5 0 3
    ∷ [])
    ∷ "* H\n- :PROPERTIES:\n  :END:\n" reads
    (rec 1 0 27 0 27 0 0 0
    ∷ rec 2 0 27 4 27 0 1 0
    ∷ rec 3 4 27 4 27 1 0 1
    ∷ rec 17 4 27 4 27 2 2 1
    ∷ rec 18 4 27 6 27 3 0 1
    ∷ rec 16 6 27 6 27 4 0 1
    ∷ [])
    ∷ "- a\n  1. b\n     | r\n  2. c\n- d\ne\n" reads
    (rec 1 0 33 0 33 0 0 0
    ∷ rec 3 0 33 0 33 0 0 0
    ∷ rec 17 0 31 0 31 1 2 0
    ∷ rec 18 0 27 2 27 2 0 0
    ∷ rec 16 2 4 2 4 3 0 0
    ∷ rec 17 4 27 4 27 3 1 1
    ∷ rec 18 4 20 9 20 5 0 1
    ∷ rec 16 9 11 9 11 6 0 1
    ∷ rec 10 11 20 11 20 6 0 2
    ∷ rec 11 11 20 16 19 8 0 2
    ∷ rec 18 20 27 25 27 5 0 3
    ∷ rec 16 25 27 25 27 10 0 3
    ∷ rec 18 27 31 29 31 2 0 4
    ∷ rec 16 29 31 29 31 12 0 4
    ∷ rec 16 31 33 31 33 1 0 5
    ∷ [])
    ∷ "#+begin_quote\n- a\n\n- b\n\n#+end_quote\n\n" reads
    (rec 1 0 37 0 37 0 0 0
    ∷ rec 3 0 37 0 37 0 0 0
    ∷ rec 8 0 37 14 24 1 1 0
    ∷ rec 17 14 24 14 23 2 2 1
    ∷ rec 18 14 19 16 18 3 0 1
    ∷ rec 16 16 18 16 18 4 0 1
    ∷ rec 18 19 23 21 23 3 0 3
    ∷ rec 16 21 23 21 23 6 0 3
    ∷ [])
    ∷ []

-- opens these cases and what they are cases of
unfoldable pub OpenListCases : Type 1
unfolding OpenTableCases bullet_cases detail_cases left_cases first_line_cases indentation_cases end_cases blank_item_cases item_held_cases sought_cases usual_cases
OpenListCases = Type 0
