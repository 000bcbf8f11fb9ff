-- What a byte more makes of a state, and the heading that it finishes. That this is the state of the text with that byte, and that these are the
-- text's headings, is promised (Promises).  [02 order 9]
use Rattle.std.specs.Prelude.{Bool, true, false, ◌&&◌, List, [], ◌∷◌, ◌++◌, ℕ, suc, ◌-◌, ltb, eqb}
use Rattle.text.specs.Bytes.{is_newline, is_non_blank, is_star, OpenBytes}
use Rattle.stream.specs.declared.state.Stream.{Stream}
use Rattle.stream.specs.declared.heading.Heading.{Heading}

-- The unfinished line is a heading line: stars, and more than stars.
unfoldable pub in_heading : Stream → Bool
in_heading c = ltb 0 c.stars && ltb c.stars c.line

-- its heading, where it is finished as it stands
unfoldable pub last_heading : Stream → List Heading
unfolding in_heading
last_heading c =
    elim (in_heading c) [ true ↦ record { start = c.total - c.line; stars = c.stars; title = c.title } ∷ [] | false ↦ [] ]

-- Byte 10 ends the line.
abbrev pub next_line : Stream → Stream
next_line c = record { total = suc c.total; line = 0; stars = 0; title = 0; ended = c.ended }

-- After stars alone, or nothing, a star is one more, byte 32 lets them stand, and any other byte makes the line none of a heading.
unfoldable pub stars_then : Stream → ℕ → ℕ
stars_then c b =
    elim (eqb c.stars c.line)
    [ true ↦ elim (is_star b) [ true ↦ suc c.stars | false ↦ elim (eqb b 32) [ true ↦ c.stars | false ↦ 0 ] ] | false ↦ c.stars ]

-- A title goes up to its last non-blank byte: here as long as the line with the byte is after its stars and their space.
unfoldable pub title_then : Stream → ℕ → ℕ
unfolding in_heading
title_then c b = elim (in_heading c && is_non_blank b) [ true ↦ c.line - c.stars | false ↦ c.title ]

unfoldable pub stepped : Stream → ℕ → Stream
unfolding stars_then title_then
stepped c b =
    elim (is_newline b) [
      | true ↦ next_line c
      | false ↦ record { total = suc c.total; line = suc c.line; stars = stars_then c b; title = title_then c b; ended = c.ended }
    ]

-- the heading that a byte finishes
unfoldable pub finished_by : Stream → ℕ → List Heading
unfolding last_heading
finished_by c b = elim (is_newline b) [ true ↦ last_heading c | false ↦ [] ]

-- the state after some bytes more, and the headings that they finish
unfoldable pub fed : Stream → List ℕ → Stream
unfolding stepped
fed c [] = c
fed c (b ∷ x) = fed (stepped c b) x

unfoldable pub finished : Stream → List ℕ → List Heading
unfolding stepped finished_by
finished c [] = []
finished c (b ∷ x) = finished_by c b ++ finished (stepped c b) x

-- opens the definitions of this file and of those it stands on, for computed examples
unfoldable pub OpenSteps : Type 1
unfolding OpenBytes in_heading last_heading stars_then title_then stepped finished_by fed finished
OpenSteps = Type 0
