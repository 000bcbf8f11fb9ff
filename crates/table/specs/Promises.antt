-- What is promised of the definitions.
use Rattle.std.specs.Prelude.{◌≡◌, ◌↔◌, List, ℕ}
use Rattle.table.specs.declared.record.Record.{Record}
use Rattle.table.specs.Proper.{Proper}
use Rattle.table.specs.Reading.{reading}
use Rattle.table.specs.Closers.{AllSought}

-- Demand 3: the table of demand 2 is a proper reading, and no other table is.
pub record OneReading : Type 0 where
  pub proper : (s : List ℕ) → Proper s (reading s)
  pub only : (s : List ℕ) (R : List Record) → Proper s R → R ≡ reading s

-- The same in one statement: a table is a proper reading exactly when it is the reading.
abbrev pub ExactlyReading : Type 0
ExactlyReading = (s : List ℕ) (R : List Record) → Proper s R ↔ (R ≡ reading s)

-- Order 4: a closer within an item is sought up to the end of the section, block or drawer around its lists. Rules are given their container's end,
-- and find the same (Closers). This holds of the reading, and so of every table that is a proper reading.
pub record ClosersSought : Type 0 where
  pub reading : (s : List ℕ) → AllSought s (reading s)
  pub proper : (s : List ℕ) (R : List Record) → Proper s R → AllSought s R
