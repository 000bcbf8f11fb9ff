-- The search for the closer of a block or drawer, and how many lines it compares further  [02 order 3].
use Rattle.std.specs.Prelude.{Bool, true, false, ◌&&◌, List, [], ◌∷◌, ◌++◌, ℕ, suc, ◌+◌, length, eqb, leb, ltb}
use Rattle.std.specs.declared.option.Option.TheVariants.{None}
use Rattle.std.proofs.Math.Option.{Option, none, some}
use Rattle.text.specs.Bytes.{is_blank, lower}
use Rattle.text.specs.Runs.{word, is_empty, after_run, same}
use Rattle.text.specs.Lines.{Line, body}
use Rattle.text.specs.Parts.{lines_in, line_in, line_starts}
use Rattle.rules.specs.LineTests.{block_name, is_drawer_line}
use Rattle.rules.specs.Elements.{lines_before}
use Rattle.rules.specs.Findings.{key_byte, closer_at, OpenFindings}
use Rattle.rules.specs.declared.closer.Search.{Search}

-- the first non-blank byte of a line is c, case ignored
unfoldable pub head_is : ℕ → List ℕ → Bool
head_is c [] = false
head_is c (b ∷ x) = eqb (lower b) c

unfoldable pub starts_with : ℕ → Line → Bool
starts_with c l = head_is c (after_run is_blank l)

-- how many lines a search for the closer x compares further: those whose first non-blank byte is the closer's, up to and with it, else to the end
unfoldable pub compared : List ℕ → List Line → ℕ
compared x [] = 0
compared x (l ∷ ls) =
    let rest : ℕ = elim (same (body l) x) [ true ↦ 0 | false ↦ compared x ls ] in
    elim (starts_with (key_byte x 0) l) [ true ↦ suc rest | false ↦ rest ]

-- what the search for the closer x finds among the lines from byte p up to byte e
unfoldable pub searched : List ℕ → List ℕ → ℕ → ℕ → Search
searched x s p e = let ls = lines_in s p e in record { closer = closer_at p ls (lines_before x ls); compared = compared x ls }

-- the closer that an opening line asks for: `:END:` after `:NAME:`, `#+end_NAME` after `#+begin_NAME`
unfoldable pub closer_of : Line → Option (List ℕ)
closer_of l =
    let x = block_name l in
    elim (is_drawer_line l)
    [ true ↦ some (word ":end:") | false ↦ elim (is_empty x) [ true ↦ none | false ↦ some (word "#+end_" ++ x) ] ]

-- where there is nothing to search
abbrev pub no_search : Search
no_search = record { closer = None; compared = 0 }

-- the search from an opening line at byte p up to byte e
unfoldable pub opener_search : List ℕ → ℕ → ℕ → Search
opener_search s p e = let l = line_in s p e in elim (closer_of l) [ none ↦ no_search | some x ↦ searched x s (p + length l) e ]

-- the search from byte p in a container that ends at byte e: nothing where no line starts at p or an end lies outside
unfoldable pub search_from : List ℕ → ℕ → ℕ → Search
search_from s p e =
    elim (leb e (length s) && ltb p e && line_starts s p) [ true ↦ opener_search s p e | false ↦ no_search ]

-- opens the definitions of this file and of those it stands on, for computed examples
unfoldable pub OpenClosers : Type 1
unfolding OpenFindings head_is starts_with compared searched closer_of opener_search search_from
OpenClosers = Type 0
