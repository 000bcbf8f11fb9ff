-- Laws of the search from a line: by what the line opens, and by where it starts and its container ends.
-- Assumes nothing.
use mathlib.Core.Path.{◌≡◌, sym}
use mathlib.Core.Bool.{Bool, true, false, ◌&&◌}
use mathlib.Core.List.{List, ◌++◌}
use mathlib.Core.Option.{none, some}
use Prim.Native.Nat.{ℕ, ◌+◌, ◌≤◌, ◌<◌}
use lib.Dec.{leb, ltb}
use lib.ListN.{length}
use borrow.Table.Steps.{cases}
use borrow.Author.Tests.{lt-ltb, le-ltb, le-leb, lt-leb}
use Rattle.text.specs.Runs.{word, is_empty}
use Rattle.text.specs.Lines.{Line}
use Rattle.text.specs.Parts.{line_in, line_starts}
use Rattle.rules.specs.LineTests.{block_name, is_drawer_line}
use Rattle.rules.specs.Closers.{searched, closer_of, no_search, opener_search, search_from}

module _ (l : Line) where
  closer_of-drawer : is_drawer_line l ≡ true → closer_of l ≡ some (word ":end:")
  unfolding closer_of
  closer_of-drawer h = rw (h, closer_of)

  closer_of-none : is_drawer_line l ≡ false → is_empty (block_name l) ≡ true → closer_of l ≡ none
  unfolding closer_of
  closer_of-none h i = rw (h, i, closer_of)

  closer_of-block : is_drawer_line l ≡ false → is_empty (block_name l) ≡ false → closer_of l ≡ some (word "#+end_" ++ block_name l)
  unfolding closer_of
  closer_of-block h i = rw (h, i, closer_of)

module _ (s : List ℕ) (p e : ℕ) where
  abbrev line : Line
  line = line_in s p e

  pub opener-drawer : is_drawer_line line ≡ true → searched (word ":end:") s (p + length line) e ≡ opener_search s p e
  unfolding opener_search
  opener-drawer h = sym (rw (closer_of-drawer line h, opener_search))

  module _ (h : is_drawer_line line ≡ false) where
    pub opener-none : is_empty (block_name line) ≡ true → no_search ≡ opener_search s p e
    unfolding opener_search
    opener-none i = sym (rw (closer_of-none line h i, opener_search))

    pub opener-block : is_empty (block_name line) ≡ false → searched (word "#+end_" ++ block_name line) s (p + length line) e ≡ opener_search s p e
    unfolding opener_search
    opener-block i = sym (rw (closer_of-block line h i, opener_search))

  abbrev fits : Bool
  fits = leb e (length s) && ltb p e && line_starts s p

  search_no : fits ≡ false → no_search ≡ search_from s p e
  unfolding search_from
  search_no h = sym (rw (h, search_from))

  pub search-outside : length s < e → no_search ≡ search_from s p e
  search-outside h = search_no (rw (lt-leb e (length s) h))

  pub search-behind : e ≤ p → no_search ≡ search_from s p e
  search-behind h = search_no (cases (leb e (length s)) (λ t. rw (t, le-ltb p e h)) (λ t. rw t))

  pub search-inside : line_starts s p ≡ false → no_search ≡ search_from s p e
  search-inside h = search_no (cases (leb e (length s)) (λ t. cases (ltb p e) (λ u. rw (t, u, h)) (λ u. rw (t, u))) (λ t. rw t))

  pub search-line : e ≤ length s → p < e → line_starts s p ≡ true → opener_search s p e ≡ search_from s p e
  unfolding search_from
  search-line h i k = let yes : fits ≡ true = rw (le-leb e (length s) h, lt-ltb p e i, k) in sym (rw (yes, search_from))
