-- Laws of the place inside a line: where a line starts it is not, and within an item's first line it is.
-- Assumes nothing.
use mathlib.Core.Path.{◌≡◌, refl}
use mathlib.Core.Bool.{true, false}
use mathlib.Core.List.{List, [], ◌∷◌}
use Prim.Native.Nat.{ℕ, ◌+◌, ◌≤◌, ◌<◌}
use native.Mathlib.Omega.{arith}
use lib.Dec.{ltb}
use lib.ListN.{length, take}
use borrow.Table.Steps.{cases}
use borrow.Author.Tests.{ltb-true, lt-ltb}
use Rattle.text.specs.Bytes.{is_newline}
use Rattle.text.specs.Lines.{Line, lines, blank_line}
use Rattle.text.specs.Parts.{line_in, lines_in, LineStart}
use Rattle.text.proofs.Laws.LineStarts.{line_start-newline}
use Rattle.text.proofs.Laws.LinesIn.{line_in-to}
use Rattle.text.proofs.Laws.MidLine.{line_in-inside}
use Rattle.rules.specs.Headings.{is_heading}
use Rattle.rules.specs.LineTests.{is_planning, is_comment}
use Rattle.rules.specs.Places.{place_after, place_next, place_from, is_in_line, place_at, allows_planning, allows_properties, allows_rules}
use Rattle.rules.specs.FirstRule.{paragraph, element, element_at}
use Rattle.rules.specs.declared.place.Place.{Place}
use Rattle.rules.specs.declared.place.Place.TheVariants.{AfterHeading, AfterPlanning, Opening, AfterComment, Elsewhere, InLine}

-- ---- where a line starts

module _ (s : List ℕ) (p : ℕ) (h : LineStart s p) where
  pub is_in_line-no : is_in_line s p ≡ false
  unfolding is_in_line is_newline
  is_in_line-no = cases (ltb 0 p)
      (λ i. cases (ltb p (length s))
      (λ j. rw (i, j, line_start-newline s p h (ltb-true 0 p i) (ltb-true p (length s) j)))
      (λ j. rw (i, j)))
      (λ i. rw i)

  -- its place is told by the lines before
  pub place_at-start : place_at s p ≡ place_from Opening (lines (take p s))
  unfolding place_at
  place_at-start = rw (is_in_line-no, place_at)

after-allows : (pl : Place) (l : Line) → allows_rules (place_after pl l) ≡ true
unfolding place_after allows_rules
after-allows AfterHeading l = cases (is_planning l) (λ e. rw (e, place_after)) (λ e. rw (e, place_after))
after-allows AfterPlanning l = refl
after-allows Opening l = cases (blank_line l)
    (λ e. rw (e, place_after))
    (λ e. cases (is_comment l) (λ d. rw (e, d, place_after)) (λ d. rw (e, d, place_after)))
after-allows AfterComment l = cases (is_comment l) (λ e. rw (e, place_after)) (λ e. rw (e, place_after))
after-allows Elsewhere l = refl
after-allows InLine l = refl

next-allows : (pl : Place) (l : Line) → allows_rules (place_next pl l) ≡ true
unfolding place_next allows_rules
next-allows pl l = cases (is_heading l) (λ e. rw (e, place_next)) (λ e. rw (e, place_next) (after-allows pl l))

from-allows : (pl : Place) (ls : List Line) → allows_rules pl ≡ true → allows_rules (place_from pl ls) ≡ true
unfolding place_from
from-allows pl [] h = h
from-allows pl (l ∷ ls) h = from-allows (place_next pl l) ls (next-allows pl l)

-- what allows rules 1 and 2 allows the others
pub planning-rules : (pl : Place) → allows_planning pl ≡ true → allows_rules pl ≡ true
unfolding allows_planning allows_rules
planning-rules AfterHeading h = refl
planning-rules AfterPlanning h = refl
planning-rules Opening h = refl
planning-rules AfterComment h = refl
planning-rules Elsewhere h = refl
planning-rules InLine h = h

pub properties-rules : (pl : Place) → allows_properties pl ≡ true → allows_rules pl ≡ true
unfolding allows_properties allows_rules
properties-rules AfterHeading h = refl
properties-rules AfterPlanning h = refl
properties-rules Opening h = refl
properties-rules AfterComment h = refl
properties-rules Elsewhere h = refl
properties-rules InLine h = h

pub allows_rules-start : (s : List ℕ) (p : ℕ) → LineStart s p → allows_rules (place_at s p) ≡ true
unfolding allows_rules
allows_rules-start s p h = rw (place_at-start s p h) (from-allows Opening (lines (take p s)) refl)

-- ---- inside the line at byte p, up to byte e

module _ (s : List ℕ) (p e j : ℕ) (h : j < length (line_in s p e)) (i : p ≤ e) (k : e ≤ length s) (some : 0 < j) where
  pub is_in_line-yes : is_in_line s (p + j) ≡ true
  unfolding is_in_line
  is_in_line-yes =
      let to = line_in-to s p e i k in
      rw (lt-ltb 0 (p + j) (omega arith), lt-ltb (p + j) (length s) (omega arith), line_in-inside s p e j h i k some)

pub place_at-inside : (s : List ℕ) (p : ℕ) → is_in_line s p ≡ true → place_at s p ≡ InLine
unfolding place_at
place_at-inside s p e = rw (e, place_at)

-- only rule 10 holds there
pub element-in_line : (s : List ℕ) (p h : ℕ) → is_in_line s p ≡ true → element_at s p h ≡ paragraph (lines_in s p h)
unfolding element_at element place_at allows_rules
element-in_line s p h e = rw (e, place_at)
