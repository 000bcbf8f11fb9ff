-- The table of a sheet: the document, one heading of one star, its section, one property drawer and a node property a pair  [02 order 5].
use Rattle.std.specs.Prelude.{List, [], ◌∷◌, ℕ, ◌+◌, ◌-◌, length}
use Rattle.rules.specs.Kind
use Rattle.table.specs.declared.record.Record.{Record}
use Rattle.table.specs.Records.{rec}
use Rattle.sheet.specs.Order.{Pair, Order}
use Rattle.sheet.specs.Sheet.{title_line, spaced, pair_line, open_line, close_line, sheet, OpenSheet}

-- a pair's line, line n of the sheet, at byte p; its inner span is its value, which ends just before its byte 10
unfoldable pub pair_record : ℕ → ℕ → Pair → Record
pair_record p n x =
    let e = p + length x.key + 2 + length (spaced x.value) in
    rec Kind.node_property p (p + length (pair_line x)) (e - length x.value) e 3 0 n

unfoldable pub pair_records : ℕ → ℕ → List Pair → List Record
unfolding pair_record
pair_records p n [] = []
pair_records p n (x ∷ xs) = pair_record p n x ∷ pair_records (p + length (pair_line x)) (n + 1) xs

unfoldable pub sheet_table : Order → List Record
unfolding pair_records
sheet_table o =
    let e = length (sheet o) in
    let a = length (title_line o.title) in
    let b = a + length open_line in
    rec Kind.document 0 e 0 e 0 0 0
    ∷ rec Kind.heading 0 e a e 0 1 0
    ∷ rec Kind.section a e a e 1 0 1
    ∷ rec Kind.property_drawer a e b (e - length close_line) 2 0 1
    ∷ pair_records b 2 o.pairs

-- opens the definitions of this file and of those it stands on, for computed examples
unfoldable pub OpenTable : Type 1
unfolding OpenSheet pair_record pair_records sheet_table
OpenTable = Type 0
