-- Searches for closers, worked out by hand from document 02, and the names that may close.
use Rattle.std.specs.Prelude.{List, [], ◌∷◌, ℕ, ◌^◌}
use Prim.Native.String.{String}
use Rattle.std.specs.declared.option.Option as Options
use Rattle.std.specs.declared.option.Option.TheVariants.{None, Some}
use Rattle.text.specs.Runs.{word}
use Rattle.text.specs.Cases.{Case, case, ◌holds◌fails◌, OpenCases}
use Rattle.rules.specs.declared.closer.Closer.{Closer}
use Rattle.rules.specs.Known.{name_number, has_name, OpenKnown}
use Rattle.rules.specs.Closers.{search_from, OpenClosers}

-- the closer's start, end and lines before it; nothing where there is none
unfoldable pub places : Options.Option Closer → List ℕ
places (Some c) = c.start ∷ c.end ∷ c.before ∷ []
places None = []

-- the lines compared further, and the closer
unfoldable pub search : String → ℕ → ℕ → ℕ → List ℕ → Case
search w p e m x = let r = search_from (word w) p e in case w (r.compared ∷ places r.closer) (m ∷ x)

unfoldable pub block_searches : List Case
block_searches =
    search "#+begin_a\nx\n#+end_a\n" 0 20 1 (12 ∷ 20 ∷ 1 ∷ [])
    ∷ search "#+begin_a\nx\n# c\n:END:\n" 0 22 1 []
    ∷ search "#+begin_a\n  # x\n\n\t#+end_a\n" 0 26 2 (17 ∷ 26 ∷ 2 ∷ [])
    ∷ search "#+begin_a\n\r#+end_a\n#+end_a\n" 0 27 2 (19 ∷ 27 ∷ 1 ∷ [])
    ∷ search "#+begin_a\n#+begin_a\n#+end_a\n#+end_a\n" 0 36 2 (20 ∷ 28 ∷ 1 ∷ [])
    ∷ search "#+begin_d\n:END:\n#+end_d" 0 23 1 (16 ∷ 23 ∷ 1 ∷ [])
    ∷ search "#+begin_a\n#+end_a \r\n" 0 20 1 (10 ∷ 20 ∷ 0 ∷ [])
    ∷ search "#+begin_a\n#+end_a x\n" 0 20 1 []
    ∷ search "#+begin_a\n#+k: v\n#\n##\n#+end_a\n" 0 30 4 (22 ∷ 30 ∷ 3 ∷ [])
    ∷ search "#+begin_\n#+end_\n" 0 16 0 []
    ∷ search "x\n#+end_a\n" 0 10 0 []
    ∷ []

unfoldable pub drawer_searches : List Case
drawer_searches =
    search ":a:\n:a:\n:a:\n:a:\n" 0 16 3 []
    ∷ search ":a:\n:a:\n:a:\n:a:\n" 12 16 0 []
    ∷ search ":a:\nx :END:\n :end:\n:b:\n" 0 23 1 (12 ∷ 19 ∷ 1 ∷ [])
    ∷ search ":a:\n \r\n\r:x\n" 0 11 1 []
    ∷ search ":PROPERTIES:\nx\n:END:\n" 0 21 1 (15 ∷ 21 ∷ 1 ∷ [])
    ∷ search ":END:\n:END:\n" 0 12 0 []
    ∷ search "x\n:a:\n:END:\n" 2 12 1 (6 ∷ 12 ∷ 0 ∷ [])
    ∷ []

-- where the line starts and the container ends
unfoldable pub search_ends : List Case
search_ends =
    search "#+begin_a\n#+end_a\n" 0 18 1 (10 ∷ 18 ∷ 0 ∷ [])
    ∷ search "#+begin_a\n#+end_a\n" 0 17 1 (10 ∷ 17 ∷ 0 ∷ [])
    ∷ search "#+begin_a\n#+end_a\n" 0 16 1 []
    ∷ search "#+begin_a\n#+end_a\n" 0 10 0 []
    ∷ search "#+begin_a\n#+end_a\n" 0 0 0 []
    ∷ search "#+begin_a\n#+end_a\n" 0 19 0 []
    ∷ search "#+begin_a\n#+end_a\n" 1 18 0 []
    ∷ search " :a:\n:END:\n" 1 11 0 []
    ∷ []

unfoldable pub name_numbers : List Case
name_numbers =
    case "names" (name_number (word "") ∷ name_number (word "a") ∷ name_number (word "A") ∷ name_number (word "iz") ∷ []) (0 ∷ 34 ∷ 34 ∷ 17 ∷ [])
    ∷ (has_name (2 ^ 34)) holds ("a" ∷ "A" ∷ []) fails ("" ∷ "b" ∷ "iz" ∷ [])

-- opens these cases and what they are cases of
unfoldable pub OpenSearchCases : Type 1
unfolding OpenCases OpenKnown OpenClosers places search block_searches drawer_searches search_ends name_numbers
OpenSearchCases = Type 0
