-- What the functions that go through a piece do. No promise of an entry point rests on this.
use Rattle.std.specs.Prelude.{◌≡◌, true, Option, IfNone, option_to_list, List, ◌++◌, ℕ, ◌+◌, ◌-◌, ◌≤◌, ◌<◌, length, get_or, drop}
use Rattle.text.specs.Bytes.{is_not}
use Rattle.text.specs.Runs.{all}
use Rattle.text.specs.Parts.{part}
use Rattle.text.specs.Limits.{text_limit}
use Rattle.stream.specs.declared.state.Stream.{Stream}
use Rattle.stream.specs.declared.heading.Heading.{Heading}
use Rattle.stream.specs.declared.advance.Progress.{Progress}
use Rattle.stream.specs.Steps.{fed, finished}

-- The bytes of piece x from byte i on have room in the book, the unfinished line is of the bytes before them, and its stars are
-- of the line.
pub record Within (c : Stream) (x : List ℕ) (i : ℕ) : Type 0 where
  pub stars : c.stars ≤ c.line
  pub line : c.line ≤ c.total
  pub total : c.total + (length x - i) ≤ text_limit

-- The unfinished line is none of a heading: it has been more than stars, or starts with byte i of piece x, which is none.
pub record Bare (c : Stream) (x : List ℕ) (i : ℕ) : Type 0 where
  pub stars : c.stars ≡ 0
  pub front : c.line ≡ 0 → get_or x i 0 ≡ 42 → ⊥

-- n stars more of a line that has been stars alone
abbrev pub more_stars : Stream → ℕ → Stream
more_stars c n = record { total = c.total + n; line = c.line + n; stars = c.stars + n; title = c.title; ended = c.ended }

-- The last line of bytes p to e of piece x starts at byte r: after their last byte 10, or at p where there is none.
pub record LastLine (x : List ℕ) (p e r : ℕ) : Type 0 where
  pub from : p ≤ r
  pub to : r ≤ e
  pub plain : all (is_not 10) (part x r e) ≡ true
  pub newline : p < r → get_or x (r - 1) 0 ≡ 10

-- Bytes p to e of piece x belong to the unfinished line, which is a heading line; they have room in the book.
pub record MoreOfLine (c : Stream) (x : List ℕ) (p e : ℕ) : Type 0 where
  pub from : p ≤ e
  pub to : e ≤ length x
  pub bytes : all (is_not 10) (part x p e) ≡ true
  pub some : 0 < c.stars
  pub past : c.stars < c.line
  pub line : c.line ≤ c.total
  pub total : c.total + (e - p) ≤ text_limit

-- The bytes of piece x from byte i on leave what those from byte r .at on leave after r, and finish what r finishes and what those finish.
pub record Advances (c : Stream) (x : List ℕ) (i : ℕ) (r : Progress) : Type 0 where
  pub further : i < r.at
  pub inside : r.at ≤ length x
  pub within : Within r.state x r.at
  pub state : fed c (drop i x) ≡ fed r.state (drop r.at x)
  pub headings : finished c (drop i x) ≡ option_to_list r.finished ++ finished r.state (drop r.at x)

-- From state c and byte i of piece x on, the next heading that is finished is r, and the state d is there before byte j; with none, x is read.
pub record NextHeading (c : Stream) (x : List ℕ) (i : ℕ) (r : Option Heading) (d : Stream) (j : ℕ) : Type 0 where
  pub state : fed c (drop i x) ≡ fed d (drop j x)
  pub headings : finished c (drop i x) ≡ option_to_list r ++ finished d (drop j x)
  pub ended : IfNone r (length x ≤ j)
