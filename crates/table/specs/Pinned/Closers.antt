-- How far a closer is sought, and what rules find up to there  [02 order 4].
use Rattle.std.specs.Prelude.{true, List, [], ◌∷◌, map, ℕ, length}
use Prim.Native.String.{String}
use Rattle.text.specs.Runs.{word}
use Rattle.text.specs.Cases.{Case, case, below}
use Rattle.rules.specs.Elements.{Found}
use Rattle.rules.specs.FirstRule.{element_at, item_at}
use Rattle.table.specs.Reading.{reading}
use Rattle.table.specs.Closers.{closers_end, OpenClosers}
use Rattle.table.specs.Cases.{OpenTableCases}

-- the end up to which closers are sought in each record of a text's reading
infix 100 ◌seeks◌
unfoldable pub ◌seeks◌ : String → List ℕ → Case
w seeks es = let R = reading (word w) in case w (map (closers_end R) (below (length R) (λ i. true) [])) es

-- the inner end of the nearest section, block or drawer, over lists and items; none in a document or heading
unfoldable pub seek_cases : List Case
seek_cases =
    "* a\n- b\n" seeks (0 ∷ 0 ∷ 8 ∷ 8 ∷ 8 ∷ 8 ∷ [])
    ∷ "- a\n  b\nc\n" seeks (0 ∷ 10 ∷ 10 ∷ 10 ∷ 10 ∷ 10 ∷ [])
    ∷ "#+begin_x\n- a\n  :D:\n#+end_x\n:END:\n" seeks (0 ∷ 34 ∷ 20 ∷ 20 ∷ 20 ∷ 20 ∷ 34 ∷ [])
    ∷ ":D:\n- a\n  #+begin_x\n  b\n  #+end_x\n:END:\n- c\n" seeks (0 ∷ 44 ∷ 34 ∷ 34 ∷ 34 ∷ 34 ∷ 24 ∷ 24 ∷ 44 ∷ 44 ∷ 44 ∷ [])
    ∷ []

-- what is found at byte p, given the end e: its kind, how many own lines it has, its detail
abbrev found : String → Found → List ℕ → Case
found w f ns = case w (f.kind ∷ f.own ∷ f.detail ∷ []) ns

unfoldable pub element_to : String → ℕ → ℕ → List ℕ → Case
element_to w p e = found w (element_at (word w) p e)

unfoldable pub item_to : String → ℕ → ℕ → List ℕ → Case
item_to w p e = found w (item_at (word w) p e)

-- A block in an item: its item ends at 26 and the section at 28, and it is the same. An end that cuts off its closer would make it a paragraph.
unfoldable pub whole_cases : List Case
whole_cases =
    element_to "- a\n  #+begin_x\nb\n#+end_x\nc\n" 4 26 (8 ∷ 3 ∷ 3 ∷ [])
    ∷ element_to "- a\n  #+begin_x\nb\n#+end_x\nc\n" 4 28 (8 ∷ 3 ∷ 3 ∷ [])
    ∷ element_to "- a\n  #+begin_x\nb\n#+end_x\nc\n" 4 18 (16 ∷ 2 ∷ 0 ∷ [])
    ∷ []

-- A comment and a paragraph in an item end with it, though given the section's end they would go on.
unfoldable pub run_cases : List Case
run_cases =
    element_to "- a\n  # c\n# d\n" 4 10 (12 ∷ 1 ∷ 0 ∷ [])
    ∷ element_to "- a\n  # c\n# d\n" 4 14 (12 ∷ 2 ∷ 0 ∷ [])
    ∷ element_to "- a\n  b\nc\n" 2 8 (16 ∷ 2 ∷ 0 ∷ [])
    ∷ element_to "- a\n  b\nc\n" 2 10 (16 ∷ 3 ∷ 0 ∷ [])
    ∷ []

-- A list in an item, and an item in a list, are the same up to either end: here that of the item or list, and that of the section.
unfoldable pub scan_cases : List Case
scan_cases =
    element_to "- a\n  - b\n- c\n" 4 10 (17 ∷ 1 ∷ 2 ∷ [])
    ∷ element_to "- a\n  - b\n- c\n" 4 14 (17 ∷ 1 ∷ 2 ∷ [])
    ∷ item_to "- a\n\n  b\n- c\nd\n" 0 13 (18 ∷ 3 ∷ 0 ∷ [])
    ∷ item_to "- a\n\n  b\n- c\nd\n" 0 15 (18 ∷ 3 ∷ 0 ∷ [])
    ∷ []

-- opens these cases and what they are cases of
unfoldable pub OpenCloserCases : Type 1
unfolding OpenTableCases OpenClosers ◌seeks◌ seek_cases element_to item_to whole_cases run_cases scan_cases
OpenCloserCases = Type 0
