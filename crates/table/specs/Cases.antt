-- Forms of a case: what is asked of a text's reading, and what document 01 says.
use Rattle.std.specs.Prelude.{List, map, ℕ}
use Prim.Native.String.{String}
use Rattle.text.specs.Runs.{word}
use Rattle.text.specs.Cases.{Case, case, OpenCases}
use Rattle.table.specs.declared.record.Record.{Record}
use Rattle.table.specs.Records.{numbers}
use Rattle.table.specs.Reading.{reading, OpenReading}

-- a text has this table; its records have these kinds
infix 100 ◌reads◌
infix 100 ◌kinds◌
unfoldable pub ◌reads◌ : String → List Record → Case
w reads R = case w (numbers (reading (word w))) (numbers R)

unfoldable pub ◌kinds◌ : String → List ℕ → Case
w kinds ks = case w (map (λ r. r.kind) (reading (word w))) ks

-- opens these forms and what they are cases of
unfoldable pub OpenTableCases : Type 1
unfolding OpenCases OpenReading ◌reads◌ ◌kinds◌
OpenTableCases = Type 0
