-- Lookups with defaults held to document 02, order 13, by computed examples, worked out by hand: each condition where it holds and where it just
-- fails.
use Rattle.std.specs.Prelude.{List, [], ◌∷◌, ℕ}
use Prim.Native.String.{String}
use Rattle.text.specs.Runs.{word}
use Rattle.text.specs.Cases.{Case, case, ◌holds◌fails◌}
use Rattle.lookup.specs.Lookup.{number, start, end, further}
use Rattle.lookup.specs.Defaults.{first_heading, of_defaults, is_reserved, asks_defaults, with_defaults, whose, answer, part_given, place_given}
use Rattle.lookup.specs.Pinned.{OpenLookupCases}

-- the keys that are never taken from the defaults
unfoldable pub reserved_cases : List Case
reserved_cases =
    is_reserved holds ("VIN" ∷ "vin" ∷ "vIn" ∷ "REQUEST" ∷ "request" ∷ "Request" ∷ [])
    fails ("" ∷ "VI" ∷ "VINS" ∷ "XVIN" ∷ "VIM" ∷ "REQUES" ∷ "REQUESTS" ∷ "MYREQUEST" ∷ "FUEL" ∷ [])

-- a text whose first heading line starts at a byte
infix 100 ◌heads◌
unfoldable pub ◌heads◌ : String → ℕ → Case
w heads p = case w (first_heading (word w) ∷ []) (p ∷ [])

unfoldable pub heading_cases : List Case
heading_cases =
    "* D" heads 0
    ∷ "x\n\n** D\n* E\n" heads 3
    ∷ "*x\n * y\n**\n* D" heads 11
    ∷ "" heads 0
    ∷ "x\n" heads 2
    ∷ []

-- an order, and defaults with a drawer under each of two headings and one before them, which is no heading's
unfoldable pub order : String
order = "* A\n:PROPERTIES:\n:VIN: 7\n:FUEL: E85\n:END:\n"

unfoldable pub house : String
house =
    ":PROPERTIES:\n:TURBO: 5\n:END:\n* D\n:PROPERTIES:\n:VIN: 1\n:BOOST: 2\n:FUEL: 98\n:Request: 3\n:END:\n* E\n:PROPERTIES:\n:NOX: 4\n:BOOST: 6\n:END:\n"

-- an order text, looked up at a byte with a defaults text for a key, is answered with a number, whose it is, a part from a byte to a byte, and a
-- further number
infix 100 ◌at◌with◌key◌answers◌of◌from◌to◌and◌
unfoldable pub ◌at◌with◌key◌answers◌of◌from◌to◌and◌ : String → ℕ → String → String → ℕ → ℕ → ℕ → ℕ → ℕ → Case
w at p with d key k answers n of m from a to e and q =
    let r = with_defaults (word w) p (word d) (word k) in
    let x = answer r in
    case k (number x ∷ whose r ∷ start x ∷ end x ∷ further x ∷ []) (n ∷ m ∷ a ∷ e ∷ q ∷ [])

unfoldable pub defaults_cases : List Case
defaults_cases =
    -- the order's own, an empty value too; else the defaults', under their first heading only
    order at 0 with house key "fuel" answers 0 of 1 from 32 to 35 and 0
    ∷ "* A\n:PROPERTIES:\n:FUEL:\n:END:\n" at 0 with house key "fuel" answers 0 of 1 from 23 to 23 and 0
    ∷ order at 0 with house key "boost" answers 0 of 2 from 62 to 63 and 0
    ∷ order at 0 with house key "NOX" answers 6 of 2 from 0 to 0 and 0
    ∷ order at 0 with house key "TURBO" answers 6 of 2 from 0 to 0 and 0
    -- `VIN` and `REQUEST` never from the defaults
    ∷ "* A\n:PROPERTIES:\n:END:\n" at 0 with house key "VIN" answers 6 of 1 from 0 to 0 and 0
    ∷ "* A\n:PROPERTIES:\n:END:\n" at 0 with house key "vin" answers 6 of 1 from 0 to 0 and 0
    ∷ order at 0 with house key "request" answers 6 of 1 from 0 to 0 and 0
    ∷ order at 0 with house key "vin" answers 0 of 1 from 23 to 24 and 0
    -- any answer but 6 stands
    ∷ order at 1 with house key "boost" answers 4 of 1 from 0 to 0 and 0
    ∷ "* A\n" at 0 with house key "boost" answers 5 of 1 from 0 to 0 and 0
    ∷ order at 0 with house key "boost+" answers 7 of 1 from 0 to 0 and 0
    ∷ "* A\n\n:PROPERTIES:\n:END:\n" at 0 with house key "boost" answers 8 of 1 from 0 to 0 and 0
    ∷ "* A\n:PROPERTIES:\nhi\n:END:\n" at 0 with house key "boost" answers 9 of 1 from 0 to 0 and 17
    ∷ "* A\n:PROPERTIES:\n" at 0 with house key "boost" answers 10 of 1 from 0 to 0 and 0
    -- the defaults' own refusals
    ∷ order at 0 with "" key "boost" answers 4 of 2 from 0 to 0 and 0
    ∷ order at 0 with ":PROPERTIES:\n:BOOST: 2\n:END:\n" key "boost" answers 4 of 2 from 0 to 0 and 0
    ∷ order at 0 with "* D\n" key "boost" answers 5 of 2 from 0 to 0 and 0
    ∷ order at 0 with "* D\n\n:PROPERTIES:\n:BOOST: 2\n:END:\n" key "boost" answers 8 of 2 from 0 to 0 and 0
    ∷ order at 0 with "** D\n:PROPERTIES:\n\n:END:\n" key "boost" answers 9 of 2 from 0 to 0 and 18
    ∷ order at 0 with "* D\n:PROPERTIES:\n:BOOST: 2\n" key "boost" answers 10 of 2 from 0 to 0 and 0
    ∷ []

-- a lookup with defaults gives a part, and it stands in a block of memory after so many bytes; the order's is block 1 from byte 100 on, the
-- defaults' block 2 from byte 200 on
infix 100 ◌with◌key◌gives◌block◌after◌
unfoldable pub ◌with◌key◌gives◌block◌after◌ : String → String → String → String → ℕ → ℕ → Case
w with d key k gives v block b after n =
    let p = place_given (word w) 0 (word d) (word k) (1, 100) (2, 200) in
    case k (p.0 ∷ p.1 ∷ part_given (word w) 0 (word d) (word k)) (b ∷ n ∷ word v)

unfoldable pub part_cases : List Case
part_cases =
    order with house key "fuel" gives "E85" block 1 after 132
    ∷ order with house key "boost" gives "2" block 2 after 262
    ∷ order with house key "request" gives "" block 1 after 100
    ∷ order with house key "nox" gives "" block 2 after 200
    ∷ []

-- opens these cases and what they are cases of
unfoldable pub OpenDefaultsCases : Type 1
unfolding OpenLookupCases first_heading of_defaults is_reserved asks_defaults with_defaults reserved_cases ◌heads◌ heading_cases order house
    ◌at◌with◌key◌answers◌of◌from◌to◌and◌ defaults_cases ◌with◌key◌gives◌block◌after◌ part_cases
OpenDefaultsCases = Type 0
