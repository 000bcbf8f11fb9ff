-- Tables of records  [01 "A record"].
use Rattle.std.specs.Prelude.{List, [], ◌∷◌, ◌++◌, ℕ, get_or}
use Rattle.table.specs.declared.record.Record.{Record}

-- Eight numbers: kind, start, end, inner start, inner end, parent's index, detail, line number  [02 order 7]. Ends are one past.
abbrev pub rec : ℕ → ℕ → ℕ → ℕ → ℕ → ℕ → ℕ → ℕ → Record
rec k a e i j q d n = record { kind = k; start = a; end = e; from = i; to = j; parent = q; detail = d; line = n }

abbrev pub record_size : ℕ
record_size = 8

-- the places of a record's last three numbers among them
abbrev pub parent_place : ℕ
parent_place = 5

abbrev pub detail_place : ℕ
detail_place = 6

abbrev pub line_place : ℕ
line_place = 7

abbrev pub numbers_of : Record → List ℕ
numbers_of r = r.kind ∷ r.start ∷ r.end ∷ r.from ∷ r.to ∷ r.parent ∷ r.detail ∷ r.line ∷ []

unfoldable pub numbers : List Record → List ℕ
numbers [] = []
numbers (r ∷ R) = numbers_of r ++ numbers R

abbrev pub no_record : Record
no_record = rec 0 0 0 0 0 0 0 0

-- record k of a table, and the record that holds it
abbrev pub at : List Record → ℕ → Record
at R k = get_or R k no_record

abbrev pub up : List Record → ℕ → Record
up R k = at R (at R k).parent

-- opens the definitions of this file, for computed examples
unfoldable pub OpenRecords : Type 1
unfolding numbers
OpenRecords = Type 0
