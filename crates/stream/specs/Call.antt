-- A piece, and the declared end: number, count, state and list after them  [02 order 9].
use Rattle.std.specs.Prelude.{Bool, true, false, not, ◌&&◌, ◌||◌, List, ◌++◌, ℕ, ◌+◌, ◌-◌, ◌*◌, ◌/◌, length, drop, leb, ltb, eqb}
use Rattle.text.specs.Number
use Rattle.text.specs.Limits.{text_limit}
use Rattle.stream.specs.declared.state.Stream.{Stream}
use Rattle.stream.specs.declared.heading.Heading.{Heading}
use Rattle.stream.specs.Headings.{heading_size, numbers, OpenStreamHeadings}
use Rattle.stream.specs.State.{with_end}
use Rattle.stream.specs.Steps.{in_heading, last_heading, fed, finished, OpenSteps}

-- What the numbers of the unfinished line can be: a heading line has its stars, their space and its title; any other has no title, and is stars
-- alone or has none that count.
unfoldable pub has_line : Stream → Bool
has_line c =
    elim (in_heading c) [ true ↦ ltb c.title (c.line - c.stars) | false ↦ eqb c.title 0 && (eqb c.stars 0 || eqb c.stars c.line) ]

-- A state whose end is not declared: one that some text within the limit leaves (Promises).
unfoldable pub is_open : Stream → Bool
unfolding has_line
is_open c = eqb c.ended 0 && leb c.total text_limit && leb c.line c.total && has_line c

pub record Call : Type 0 where
  pub number : ℕ
  pub count : ℕ
  pub state : Stream
  pub list : List ℕ

-- Room is the list's length divided by 3, rounded down.
abbrev pub room : List ℕ → ℕ
room t = length t / heading_size

-- headings written from a list's front, the rest as before
abbrev pub written : List Heading → List ℕ → List ℕ
written hs t = numbers hs ++ drop (heading_size * length hs) t

-- A refusal leaves state and list as before.
abbrev pub refuse_if : Bool → ℕ → ℕ → Stream → List ℕ → Call → Call
refuse_if true n k c t rest = record { number = n; count = k; state = c; list = t }
refuse_if false n k c t rest = rest

-- some headings go into the list, and the state is c'; 3 where they have no room, with the count needed
unfoldable pub handed_out : Stream → List ℕ → List Heading → Stream → Call
handed_out c t hs c' =
    refuse_if (ltb (room t) (length hs)) Number.no_room (length hs) c t
    (record { number = Number.done; count = length hs; state = c'; list = written hs t })

-- A piece tries 21, 1, 3.
unfoldable pub piece : Stream → List ℕ → List ℕ → Call
unfolding is_open handed_out
piece c x t =
    refuse_if (not (is_open c)) Number.not_open 0 c t
    (refuse_if (ltb text_limit (c.total + length x)) Number.too_long 0 c t
    (handed_out c t (finished c x) (fed c x)))

-- The declared end tries 21, 3.
unfoldable pub end : Stream → List ℕ → Call
unfolding is_open handed_out
end c t = refuse_if (not (is_open c)) Number.not_open 0 c t (handed_out c t (last_heading c) (with_end c))

-- opens the definitions of this file and of those it stands on, for computed examples
unfoldable pub OpenCall : Type 1
unfolding OpenStreamHeadings OpenSteps has_line is_open handed_out piece end
OpenCall = Type 0
