-- The state after some bytes of a book, a function of those bytes alone  [02 order 9].
use Rattle.std.specs.Prelude.{true, false, ◌||◌, List, [], ◌∷◌, ℕ, ◌-◌, length, take}
use Rattle.text.specs.Bytes.{is_star}
use Rattle.text.specs.Runs.{all}
use Rattle.text.specs.Lines.{Line, lines, is_ended}
use Rattle.rules.specs.Headings.{stars, is_heading}
use Rattle.stream.specs.declared.state.Stream.{Stream}
use Rattle.stream.specs.Headings.{title, OpenStreamHeadings}

-- the line that is not finished: the last one, where it lacks its byte 10
unfoldable pub last_line : List Line → Line
last_line [] = []
last_line (l ∷ []) = l
last_line (l ∷ m ∷ ls) = last_line (m ∷ ls)

unfoldable pub unfinished : List ℕ → Line
unfolding last_line
unfinished s = elim (is_ended s) [ true ↦ [] | false ↦ last_line (lines s) ]

-- the lines that are finished: all but that one
unfoldable pub finished_part : List ℕ → List ℕ
unfolding unfinished
finished_part s = take (length s - length (unfinished s)) s

-- what the unfinished line has been so far: its stars while it is a heading line, or stars alone, which may become one; else 0
unfoldable pub stars_so_far : Line → ℕ
stars_so_far l = elim (is_heading l || all is_star l) [ true ↦ stars l | false ↦ 0 ]

-- the length of its title while it is a heading line; else 0
unfoldable pub title_so_far : Line → ℕ
title_so_far l = elim (is_heading l) [ true ↦ length (title l) | false ↦ 0 ]

-- n bytes in all, of which the last are the unfinished line l
abbrev pub state_with : ℕ → Line → Stream
state_with n l = record { total = n; line = length l; stars = stars_so_far l; title = title_so_far l; ended = 0 }

unfoldable pub state_of : List ℕ → Stream
unfolding unfinished stars_so_far title_so_far
state_of s = state_with (length s) (unfinished s)

-- before the first byte
abbrev pub new_stream : Stream
new_stream = record { total = 0; line = 0; stars = 0; title = 0; ended = 0 }

-- the same state, its end declared
abbrev pub with_end : Stream → Stream
with_end c = record { total = c.total; line = c.line; stars = c.stars; title = c.title; ended = 1 }

-- opens the definitions of this file and of those it stands on, for computed examples
unfoldable pub OpenState : Type 1
unfolding OpenStreamHeadings last_line unfinished finished_part stars_so_far title_so_far state_of
OpenState = Type 0
