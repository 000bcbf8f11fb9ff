-- What a call is refused for, and in which turn: order 5's up to 15, then 17, 18, 19, 1, 16.
use Rattle.std.specs.Prelude.{List, [], ◌∷◌, ℕ, replicate}
use Prim.Native.String.{String}
use Rattle.text.specs.Runs.{word}
use Rattle.text.specs.Cases.{Case, case}
use Rattle.sheet.specs.Order.{Order, pair}
use Rattle.sheet.specs.Faults.{Refused, Good}
use Rattle.sheet.specs.Pinned.Forms.{order_of, pairs_of}
use Rattle.intake.specs.Book.{book_of}
use Rattle.intake.specs.Call.{taken, call_judged, OpenCall}
use Rattle.intake.specs.Pinned.Forms.{lent, call_parts, OpenForms}

-- an order of some pairs and a book, a text and room for k bytes more: refused by a number, which leaves book and bytes in use as before
infix 100 ◌more◌used◌refuses◌by◌
unfoldable pub ◌more◌used◌refuses◌by◌ : String → ℕ → ℕ → List String → ℕ → Case
w more k used u refuses ws by n = case w (call_parts (taken (book_of (lent w k) u) (order_of "T" ws))) (n ∷ u ∷ lent w k)

-- a book with a request is of 36 bytes, with an empty one of 33; the sheet of request r1 for car 7 is of 44
unfoldable pub turn_cases : List Case
turn_cases =
    -- 17 alone, and before 18, 19, 16
    "x" more 50 used 1 refuses ("VIN" ∷ "7" ∷ []) by 17
    ∷ "x" more 50 used 1 refuses ("REQUEST" ∷ "r1" ∷ "VIN" ∷ "" ∷ []) by 17
    ∷ "x" more 50 used 52 refuses ("REQUEST" ∷ "r1" ∷ []) by 17
    ∷ "* A\n:PROPERTIES:\n:REQUEST: r1\n:END:\n" more 50 used 36 refuses ("REQUEST" ∷ "r1" ∷ []) by 17
    ∷ "* A\n:PROPERTIES:\n:REQUEST:\n:END:\n" more 50 used 33 refuses ("REQUEST" ∷ "" ∷ "VIN" ∷ "7" ∷ []) by 17
    ∷ "x" more 0 used 1 refuses ("REQUEST" ∷ "r1" ∷ []) by 17
    -- 18 before 19, 1, 16
    ∷ "* A\n:PROPERTIES:\n:REQUEST: r1\n:END:\n" more 0 used 37 refuses ("REQUEST" ∷ "r1" ∷ "VIN" ∷ "7" ∷ []) by 18
    ∷ "x" more 50 used 65537 refuses ("REQUEST" ∷ "r1" ∷ "VIN" ∷ "7" ∷ []) by 18
    ∷ "x" more 50 used 52 refuses ("REQUEST" ∷ "r1" ∷ "VIN" ∷ "7" ∷ []) by 18
    -- 19 alone, and before 16
    ∷ "* A\n:PROPERTIES:\n:REQUEST: r1\n:END:\n" more 50 used 36 refuses ("REQUEST" ∷ "r1" ∷ "VIN" ∷ "7" ∷ []) by 19
    ∷ "* A\n:PROPERTIES:\n:REQUEST: r1\n:END:\n" more 0 used 36 refuses ("REQUEST" ∷ "r1" ∷ "VIN" ∷ "7" ∷ []) by 19
    -- 16
    ∷ "* A\n:PROPERTIES:\n:REQUEST: r2\n:END:\n" more 43 used 36 refuses ("REQUEST" ∷ "r1" ∷ "VIN" ∷ "7" ∷ []) by 16
    ∷ []

-- an order whose sheet is over 65,536 bytes: 17 and 19 before 1, and 1 before 16
unfoldable pub long_order : List String → Order
long_order ws = record { title = word "T"; pairs = pair (word "N") (replicate 65536 97) ∷ pairs_of ws }

infix 100 ◌used◌refusesLong◌by◌
unfoldable pub ◌used◌refusesLong◌by◌ : String → ℕ → List String → ℕ → Case
unfolding long_order
w used u refusesLong ws by n = case w (call_parts (taken (book_of (word w) u) (long_order ws))) (n ∷ u ∷ word w)

unfoldable pub long_cases : List Case
long_cases =
    "" used 0 refusesLong ("REQUEST" ∷ "r1" ∷ []) by 17
    ∷ "* A\n:PROPERTIES:\n:REQUEST: r1\n:END:\n" used 36 refusesLong ("REQUEST" ∷ "r1" ∷ "VIN" ∷ "7" ∷ []) by 19
    ∷ "* A\n:PROPERTIES:\n:REQUEST: r2\n:END:\n" used 36 refusesLong ("REQUEST" ∷ "r1" ∷ "VIN" ∷ "7" ∷ []) by 1
    ∷ []

-- an order that is judged: refused, whatever the book, or good
unfoldable pub judged_cases : List Case
judged_cases =
    case "12" (call_parts (call_judged (book_of (word "abc") 2) (Refused 12))) (12 ∷ 2 ∷ word "abc")
    ∷ case "15" (call_parts (call_judged (book_of (word "abc") 4) (Refused 15))) (15 ∷ 4 ∷ word "abc")
    ∷ case "good, 18" (call_parts (call_judged (book_of (word "abc") 4) (Good (order_of "T" ("REQUEST" ∷ "r1" ∷ "VIN" ∷ "7" ∷ []))))) (18 ∷ 4 ∷ word "abc")
    ∷ []

-- opens these cases and what they are cases of
unfoldable pub OpenTurnCases : Type 1
unfolding OpenForms OpenCall ◌more◌used◌refuses◌by◌ turn_cases long_order ◌used◌refusesLong◌by◌ long_cases judged_cases
OpenTurnCases = Type 0
