-- A form of a case: what is asked of a reading call, and what document 01 says.
use Rattle.std.specs.Prelude.{[], ◌∷◌, ℕ, ◌*◌, replicate}
use Prim.Native.String.{String}
use Rattle.text.specs.Runs.{word}
use Rattle.text.specs.Cases.{Case, case, OpenCases}
use Rattle.table.specs.Records.{record_size}
use Rattle.reading.specs.Answers.{answer, number, count, OpenAnswers}

-- a text, with room for n records, is answered with this number and what that returns
infix 100 ◌room◌answers◌with◌
unfoldable pub ◌room◌answers◌with◌ : String → ℕ → ℕ → ℕ → Case
w room n answers k with m = let a = answer (word w) (replicate (record_size * n) 9) in case w (number a ∷ count a ∷ []) (k ∷ m ∷ [])

-- opens this form and what it is a case of
unfoldable pub OpenReadingCases : Type 1
unfolding OpenCases OpenAnswers ◌room◌answers◌with◌
OpenReadingCases = Type 0
