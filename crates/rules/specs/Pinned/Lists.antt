-- Lists and items at the first of some lines: how many lines are their own  [02 order 4].
use Rattle.std.specs.Prelude.{List, [], ◌∷◌, ℕ}
use Prim.Native.String.{String}
use Rattle.text.specs.Runs.{word}
use Rattle.text.specs.Lines.{Line, lines}
use Rattle.text.specs.Cases.{Case, case}
use Rattle.rules.specs.declared.place.Place.TheVariants.{AfterHeading, InLine}
use Rattle.rules.specs.Lists.{together, item}
use Rattle.rules.specs.Pinned.Elements.{element_as, elsewhere, OpenElementCases}

unfoldable pub lines_as : (List Line → ℕ) → String → ℕ → Case
lines_as f w n = case w (f (lines (word w)) ∷ []) (n ∷ [])

-- the lines that stand or fall with the first: of a block, drawer or table
unfoldable pub together_cases : List Case
together_cases =
    lines_as together "#+begin_x\na\n#+end_x\nb\n" 3
    ∷ lines_as together "#+begin_x\na\n" 1
    ∷ lines_as together ":D:\na\n:END:\n" 3
    ∷ lines_as together ":D:\na\n" 1
    ∷ lines_as together "| r\n| q\n#+TBLFM: f\na\n" 3
    ∷ lines_as together "#+TBLFM: f\n| r\n" 1
    ∷ lines_as together "# c\n# d\n" 1
    ∷ lines_as together ": f\n: g\n" 1
    ∷ lines_as together "#+k: v\n#+k: w\n" 1
    ∷ lines_as together "- a\n- b\n" 1
    ∷ lines_as together "a\nb\n" 1
    ∷ []

-- the own lines of an item
unfoldable pub item_own : List Line → ℕ
item_own ls = (item ls).own

-- it ends before a non-blank line indented no more than it, or at the container's end, with its last non-blank line
unfoldable pub item_cases : List Case
item_cases =
    lines_as item_own "- a" 1
    ∷ lines_as item_own "- a\nb\n" 1
    ∷ lines_as item_own "- a\n  b" 2
    ∷ lines_as item_own "- a\n  b\n- c\n" 2
    ∷ lines_as item_own " - a\n b\n" 1
    ∷ lines_as item_own " - a\n  b\n" 2
    ∷ lines_as item_own "\t- a\n        b\n" 1
    ∷ lines_as item_own "\t- a\n         b\n" 2
    ∷ lines_as item_own "- a\n - b\n   c\n" 3
    ∷ []

-- one blank line counts where a line of the item follows it; two together end the item
unfoldable pub item_blank_cases : List Case
item_blank_cases =
    lines_as item_own "- a\n\n" 1
    ∷ lines_as item_own "- a\n\nb\n" 1
    ∷ lines_as item_own "- a\n\n  b\n" 3
    ∷ lines_as item_own "- a\n\n\n  b\n" 1
    ∷ lines_as item_own "- a\n  b\n\n" 2
    ∷ lines_as item_own "- a\n\n  b\n\n  c\n\nd\n" 5
    ∷ []

-- of a block, drawer or table within it only the first line counts so
unfoldable pub item_held_cases : List Case
item_held_cases =
    lines_as item_own "- a\n  #+begin_x\nb\n\n\n#+end_x\n  c\nd\n" 7
    ∷ lines_as item_own "- a\n  #+begin_x\nb\n" 2
    ∷ lines_as item_own "- a\n#+begin_x\n#+end_x\n" 1
    ∷ lines_as item_own "- a\n\n  :D:\n:END:\n" 4
    ∷ lines_as item_own "- a\n  | r\n| q\n#+TBLFM: f\nb\n" 4
    ∷ lines_as item_own "- a\n  # c\n# d\n" 2
    ∷ []

-- rule 9a: kind, own lines, detail
unfoldable pub list_cases : List Case
list_cases =
    elsewhere "- a" 17 1 2
    ∷ elsewhere "- a\n- b\n" 17 2 2
    ∷ elsewhere "- a\nb\n- c\n" 17 1 2
    ∷ elsewhere "- a\n  b\n- c\n  d\ne\n" 17 4 2
    ∷ elsewhere "- a\n - b\n- c\n" 17 3 2
    ∷ elsewhere " - a\n- b\n" 17 1 2
    ∷ elsewhere "\t- a\n        - b\n" 17 2 2
    ∷ elsewhere "  - a\n  - b\n  - c\n" 17 3 2
    ∷ elsewhere "  - a\n  - b\n - c\n" 17 2 2
    ∷ elsewhere "- a\n\n" 17 1 2
    ∷ elsewhere "- a\n\nb\n" 17 1 2
    ∷ elsewhere "- a\n\n- b" 17 3 2
    ∷ elsewhere "- a\n\n\n- b\n" 17 1 2
    ∷ elsewhere "- a\n  b\n\n- c\n\n  d\n\ne\n" 17 6 2
    ∷ elsewhere "1. a\n- b\n" 17 2 1
    ∷ elsewhere "- a\n1. b\n" 17 2 2
    ∷ elsewhere "-----\n- a\n" 14 1 0
    ∷ element_as AfterHeading "- a\n" 17 1 2
    ∷ element_as InLine "- a\n" 16 1 0
    ∷ []

-- opens these cases and what they are cases of
unfoldable pub OpenListCases : Type 1
unfolding OpenElementCases lines_as together_cases item_own item_cases item_blank_cases item_held_cases list_cases
OpenListCases = Type 0
