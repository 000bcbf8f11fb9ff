-- The table of a sheet, its reading, and lookups in it.
use Rattle.std.specs.Prelude.{List, [], ◌∷◌, ℕ}
use Prim.Native.String.{String}
use Rattle.text.specs.Runs.{word}
use Rattle.text.specs.Cases.{Case, case}
use Rattle.table.specs.declared.record.Record.{Record}
use Rattle.table.specs.Records.{rec, numbers}
use Rattle.table.specs.Nesting.{nesting, OpenNesting}
use Rattle.table.specs.Reading.{reading}
use Rattle.lookup.specs.Lookup.{lookup, number, start, end}
use Rattle.lookup.specs.Pinned.{OpenLookupCases}
use Rattle.sheet.specs.Sheet.{sheet}
use Rattle.sheet.specs.Table.{sheet_table, OpenTable}
use Rattle.sheet.specs.Pinned.Forms.{order_of, OpenForms}

-- an order's sheet has this table; it is read so, with no nesting
infix 100 ◌with◌has◌
unfoldable pub ◌with◌has◌ : String → List String → List Record → Case
t with ws has R = case t (numbers (sheet_table (order_of t ws))) (numbers R)

infix 100 ◌with◌reads◌
unfoldable pub ◌with◌reads◌ : String → List String → List Record → Case
t with ws reads R = let S = reading (sheet (order_of t ws)) in case t (nesting S ∷ numbers S) (0 ∷ numbers R)

-- no pairs, an empty title
unfoldable pub bare_table : List Record
bare_table = rec 1 0 22 0 22 0 0 0 ∷ rec 2 0 22 3 22 0 1 0 ∷ rec 3 3 22 3 22 1 0 1 ∷ rec 5 3 22 16 16 2 0 1 ∷ []

-- `* To`, `:VIN: 78`, `:A:` and `:KEY: :+` in turn
unfoldable pub full_table : List Record
full_table =
    rec 1 0 46 0 46 0 0 0
    ∷ rec 2 0 46 5 46 0 1 0
    ∷ rec 3 5 46 5 46 1 0 1
    ∷ rec 5 5 46 18 40 2 0 1
    ∷ rec 6 18 27 24 26 3 0 2
    ∷ rec 6 27 31 30 30 3 0 3
    ∷ rec 6 31 40 37 39 3 0 4
    ∷ []

unfoldable pub table_cases : List Case
unfolding bare_table full_table
table_cases =
    "" with [] has bare_table
    ∷ "" with [] reads bare_table
    ∷ "To" with ("VIN" ∷ "78" ∷ "A" ∷ "" ∷ "KEY" ∷ ":+" ∷ []) has full_table
    ∷ "To" with ("VIN" ∷ "78" ∷ "A" ∷ "" ∷ "KEY" ∷ ":+" ∷ []) reads full_table
    ∷ []

-- a key looked up in an order's sheet is answered with a number and a part from a byte to a byte
infix 100 ◌with◌key◌answers◌from◌to◌
unfoldable pub ◌with◌key◌answers◌from◌to◌ : String → List String → String → ℕ → ℕ → ℕ → Case
t with ws key k answers n from a to e =
    let r = lookup (sheet (order_of t ws)) 0 (word k) in
    case k (number r ∷ start r ∷ end r ∷ []) (n ∷ a ∷ e ∷ [])

unfoldable pub lookup_cases : List Case
lookup_cases =
    "To" with ("VIN" ∷ "78" ∷ "A" ∷ "" ∷ "KEY" ∷ ":+" ∷ []) key "vin" answers 0 from 24 to 26
    ∷ "To" with ("VIN" ∷ "78" ∷ "A" ∷ "" ∷ "KEY" ∷ ":+" ∷ []) key "A" answers 0 from 30 to 30
    ∷ "To" with ("VIN" ∷ "78" ∷ "A" ∷ "" ∷ "KEY" ∷ ":+" ∷ []) key "Key" answers 0 from 37 to 39
    ∷ "To" with ("VIN" ∷ "78" ∷ "A" ∷ "" ∷ "KEY" ∷ ":+" ∷ []) key "KE" answers 6 from 0 to 0
    ∷ "" with [] key "VIN" answers 6 from 0 to 0
    ∷ []

-- opens these cases and what they are cases of
unfoldable pub OpenTableCases : Type 1
unfolding OpenForms OpenTable OpenNesting OpenLookupCases ◌with◌has◌ ◌with◌reads◌ table_cases ◌with◌key◌answers◌from◌to◌ lookup_cases
OpenTableCases = Type 0
