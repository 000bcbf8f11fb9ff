-- The property drawer of a heading, or why it has none  [01 rule 2, 02 order 2], by the lines from its place to the next heading line.
use Rattle.std.specs.Prelude.{Bool, true, false, not, ◌&&◌, ◌||◌, List, [], ◌∷◌, ℕ, ◌+◌, ◌-◌, length, take, drop}
use Rattle.std.proofs.Math.Option.{none, some}
use Rattle.std.specs.declared.result.Result.{Result}
use Rattle.std.specs.declared.result.Result.TheVariants.{Ok, Err}
use Rattle.text.specs.Lines.{Line, size, blank_line, head_line, tail_lines, leading, blanks}
use Rattle.text.specs.Parts.{lines_in, line_in, next_line}
use Rattle.dates.specs.Reads.{pick}
use Rattle.rules.specs.Headings.{is_heading}
use Rattle.rules.specs.LineTests.{is_planning, is_properties_line, is_end_line, is_node_property}
use Rattle.rules.specs.Elements.{property_drawer}
use Rattle.rules.specs.declared.place.Place.TheVariants.{AfterHeading}
use Rattle.lookup.specs.declared.span.Span.{Span}
use Rattle.lookup.specs.declared.drawer.NoDrawer.{NoDrawer}
use Rattle.lookup.specs.declared.drawer.NoDrawer.TheVariants.{BlankFirst, NotClosed, NotProperty, Missing}
use Rattle.lookup.specs.Spans.{span}

-- The place is the line after the heading line, which ends at byte p, or its planning line.
unfoldable pub drawer_place : List ℕ → ℕ → ℕ
drawer_place s p = let l = line_in s p (next_line is_heading s p) in pick (is_planning l) (p + length l) p

-- the lines from there to the next heading line, or the text's end
unfoldable pub drawer_lines : List ℕ → ℕ → List Line
drawer_lines s p = lines_in s (drawer_place s p) (next_line is_heading s p)

-- 8 when the next non-blank line from the place on is `:PROPERTIES:` but blank lines come first;
unfoldable pub is_blank_first : List Line → Bool
is_blank_first ls = blank_line (head_line ls) && is_properties_line (head_line (drop (blanks ls) ls))

-- 10 when it stands in the place with no `:END:` before the next heading;
unfoldable pub has_end : List Line → Bool
has_end [] = false
has_end (l ∷ ls) = is_end_line l || has_end ls

unfoldable pub is_not_closed : List Line → Bool
is_not_closed ls = is_properties_line (head_line ls) && not (has_end (tail_lines ls))

-- 9 when it is closed but holds a line that is no node property
unfoldable pub before_end : List Line → List Line
before_end [] = []
before_end (l ∷ ls) = elim (is_end_line l) [ true ↦ [] | false ↦ l ∷ before_end ls ]

unfoldable pub has_other : List Line → Bool
has_other [] = false
has_other (l ∷ ls) = not (is_node_property l) || has_other ls

unfoldable pub is_not_properties : List Line → Bool
is_not_properties ls = is_properties_line (head_line ls) && has_end (tail_lines ls) && has_other (before_end (tail_lines ls))

-- the first such line's start, of some lines from byte p on
unfoldable pub first_other : ℕ → List Line → ℕ
first_other p ls = p + size (take (leading is_node_property ls) ls)

-- and of those that stand in the drawer whose opener is the first of some lines, at byte p
unfoldable pub first_other_in : ℕ → List Line → ℕ
unfolding first_other
first_other_in p ls = first_other (p + length (head_line ls)) (before_end (tail_lines ls))

-- why there is none, of the lines from the place on, which starts at byte p; else 5
unfoldable pub why_none : ℕ → List Line → NoDrawer
why_none p ls =
    pick (is_blank_first ls) BlankFirst
    (pick (is_not_closed ls) NotClosed
    (pick (is_not_properties ls) (NotProperty (first_other_in p ls)) Missing))

-- rule 2's drawer, from the opener's end to the closer; either place allows one
unfoldable pub drawer_in : ℕ → List Line → Result Span NoDrawer
drawer_in p ls =
    elim (property_drawer AfterHeading ls)
    [ none ↦ Err (why_none p ls) | some f ↦ Ok (span (p + length (head_line ls)) (p + size (take (f.own - 1) ls))) ]

-- the drawer of the heading whose line ends at byte p
unfoldable pub drawer_after : List ℕ → ℕ → Result Span NoDrawer
drawer_after s p = drawer_in (drawer_place s p) (drawer_lines s p)
