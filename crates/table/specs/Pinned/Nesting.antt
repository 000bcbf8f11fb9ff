-- Nesting  [01 "Numbers of an answer", 02 order 4].
use Rattle.std.specs.Prelude.{List, [], ◌∷◌, ◌++◌, ℕ, zero, suc, replicate}
use Prim.Native.String.{String}
use Rattle.text.specs.Runs.{word}
use Rattle.text.specs.Cases.{Case, case}
use Rattle.table.specs.Reading.{reading}
use Rattle.table.specs.Nesting.{nesting, OpenNesting}
use Rattle.table.specs.Cases.{OpenTableCases}

infix 100 ◌nests◌
unfoldable pub ◌nests◌ : String → ℕ → Case
w nests n = case w (nesting (reading (word w)) ∷ []) (n ∷ [])

unfoldable pub nesting_cases : List Case
nesting_cases =
    "x" nests 0
    ∷ ":a:\n:END:\n" nests 1
    ∷ "#+begin_a\n#+end_a\n" nests 1
    ∷ "#+begin_src\n#+end_src\n" nests 0
    ∷ ":PROPERTIES:\n:A: x\n:END:\n" nests 0
    ∷ []

unfoldable pub deeper_cases : List Case
deeper_cases =
    "* a\n** b\n|\n:c:\n:END:\n:d:\n:END:\n" nests 1
    ∷ ":a:\n#+begin_b\n#+begin_src\n#+end_src\n#+end_b\n:END:\n" nests 2
    ∷ "#+begin_a\n#+begin_b\n#+begin_c\n#+end_c\n:d:\n:END:\n#+end_b\n#+end_a\n" nests 3
    ∷ []

-- n lists, each in an item of the one before, the first item indented by m
unfoldable pub deep_lists : ℕ → ℕ → List ℕ
deep_lists zero m = []
deep_lists (suc n) m = replicate m 32 ++ (45 ∷ 10 ∷ deep_lists n (suc m))

unfoldable pub lists_nest : ℕ → Case
unfolding deep_lists
lists_nest n = case "lists in lists" (nesting (reading (deep_lists n 0)) ∷ []) (n ∷ [])

-- Lists count towards depth 32; items do not, nor does a list's text in a verbatim block.
unfoldable pub list_nesting_cases : List Case
list_nesting_cases =
    "- a\n- b\n" nests 1
    ∷ "- a\n  - b\n" nests 2
    ∷ "- a\n  #+begin_x\n  - b\n  #+end_x\n" nests 3
    ∷ "- a\n  #+begin_src\n  - b\n  #+end_src\n" nests 1
    ∷ ":D:\n- a\n:END:\n" nests 2
    ∷ lists_nest 32
    ∷ lists_nest 33
    ∷ []

-- opens these cases and what they are cases of
unfoldable pub OpenNestingCases : Type 1
unfolding OpenTableCases OpenNesting ◌nests◌ nesting_cases deeper_cases lists_nest list_nesting_cases
OpenNestingCases = Type 0
