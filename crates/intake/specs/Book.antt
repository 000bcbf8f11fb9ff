-- A book: a lent buffer, and how many of its bytes are in use  [02 order 6].
use Rattle.std.specs.Prelude.{Bool, true, false, ◌||◌, List, ◌∷◌, ℕ, ◌+◌, length, take, ltb}
use Rattle.text.specs.Limits.{text_limit}
use Rattle.text.specs.Lines.{is_ended}
use Rattle.sheet.specs.Output.{laid}
use Rattle.intake.specs.Seen.{OpenSeen}

pub record Book : Type 0 where
  pub bytes : List ℕ
  pub used : ℕ

abbrev pub book_of : List ℕ → ℕ → Book
book_of x n = record { bytes = x; used = n }

-- the text in use
unfoldable pub text : Book → List ℕ
text b = take b.used b.bytes

-- 18: bytes in use over the buffer or over 65,536
unfoldable pub is_overused : Book → Bool
is_overused b = ltb (length b.bytes) b.used || ltb text_limit b.used

-- a sheet x as it is written after text s: with one byte 10 first if the last line lacks it
unfoldable pub added_to : Bool → List ℕ → List ℕ
added_to true x = x
added_to false x = 10 ∷ x

unfoldable pub added : List ℕ → List ℕ → List ℕ
unfolding added_to
added s x = added_to (is_ended s) x

-- x written into the part of the book after the bytes in use
unfoldable pub extended : Book → List ℕ → Book
extended b x = book_of (laid b.bytes b.used x) (b.used + length x)

-- opens the definitions of this file, of those of this crate that it stands on, and of sheet, for computed examples
unfoldable pub OpenBook : Type 1
unfolding OpenSeen laid text is_overused added_to added extended
OpenBook = Type 0
