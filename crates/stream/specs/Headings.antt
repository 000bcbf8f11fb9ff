-- The headings of a text: each heading line's start, stars and title length  [02 order 9].
use Rattle.std.specs.Prelude.{true, false, List, [], ◌∷◌, ◌++◌, ℕ, suc, ◌+◌, length, drop}
use Rattle.text.specs.Runs.{trim_end}
use Rattle.text.specs.Lines.{Line, lines}
use Rattle.rules.specs.Headings.{stars, is_heading, OpenHeadings}
use Rattle.stream.specs.declared.heading.Heading.{Heading}

-- The title is the line after the stars' space less byte 10 and blank bytes at its end.
unfoldable pub title : Line → List ℕ
title l = trim_end (drop (suc (stars l)) l)

-- the heading of the heading line l that starts at byte p
abbrev pub heading_at : ℕ → Line → Heading
heading_at p l = record { start = p; stars = stars l; title = length (title l) }

-- those of some lines from byte p on, and of a text
unfoldable pub headings_from : ℕ → List Line → List Heading
unfolding title
headings_from p [] = []
headings_from p (l ∷ ls) =
    elim (is_heading l) [ true ↦ heading_at p l ∷ headings_from (p + length l) ls | false ↦ headings_from (p + length l) ls ]

unfoldable pub headings : List ℕ → List Heading
unfolding headings_from
headings s = headings_from 0 (lines s)

-- three numbers each
abbrev pub heading_size : ℕ
heading_size = 3

abbrev pub numbers_of : Heading → List ℕ
numbers_of h = h.start ∷ h.stars ∷ h.title ∷ []

unfoldable pub numbers : List Heading → List ℕ
numbers [] = []
numbers (h ∷ hs) = numbers_of h ++ numbers hs

-- opens the definitions of this file and of those it stands on, for computed examples
unfoldable pub OpenStreamHeadings : Type 1
unfolding OpenHeadings title headings_from headings numbers
OpenStreamHeadings = Type 0
