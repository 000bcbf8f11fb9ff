-- Forms of a case: books and orders in words, and what calls and logs leave in numbers.
use Rattle.std.specs.Prelude.{List, ◌∷◌, ◌++◌, ℕ, replicate}
use Prim.Native.String.{String}
use Rattle.text.specs.Runs.{word}
use Rattle.sheet.specs.Pinned.Forms.{OpenForms as OpenSheetForms}
use Rattle.lookup.specs.Pinned.{OpenLookupCases}
use Rattle.intake.specs.Book.{Book}
use Rattle.intake.specs.Call.{Call}

-- a lent buffer: some text, then k bytes 46
unfoldable pub lent : String → ℕ → List ℕ
lent w k = word w ++ replicate k 46

-- a book's bytes in use and its bytes; a call's number before them
unfoldable pub book_parts : Book → List ℕ
book_parts b = b.used ∷ b.bytes

unfoldable pub call_parts : Call → List ℕ
unfolding book_parts
call_parts c = c.number ∷ book_parts c.after

-- orders with title T, written as buffers: a request, for a car
unfoldable pub r1for7 : String
r1for7 = "\u{1}\0T\u{2}\u{7}REQUEST\u{2}\0r1\u{3}VIN\u{1}\07"

unfoldable pub r1for8 : String
r1for8 = "\u{1}\0T\u{2}\u{7}REQUEST\u{2}\0r1\u{3}VIN\u{1}\08"

unfoldable pub r2for8 : String
r2for8 = "\u{1}\0T\u{2}\u{7}REQUEST\u{2}\0r2\u{3}VIN\u{1}\08"

-- opens these forms, and lookups
unfoldable pub OpenForms : Type 1
unfolding OpenSheetForms OpenLookupCases lent book_parts call_parts r1for7 r1for8 r2for8
OpenForms = Type 0
