-- The sample readings marked P  [01 "Sample readings"]: one table of texts and results. Its one claim is `samples-right`.
use Rattle.std.specs.Prelude.{List, [], ◌∷◌, ℕ, ◌*◌, length, replicate}
use Prim.Native.String.{String}
use Rattle.text.specs.Runs.{word}
use Rattle.text.specs.Cases.{Case, case, OpenCases}
use Rattle.table.specs.Records.{rec, record_size}
use Rattle.table.specs.Cases.{◌reads◌, ◌kinds◌, OpenTableCases}
use Rattle.reading.specs.Cases.{◌room◌answers◌with◌, OpenReadingCases}
use Rattle.lookup.specs.Pinned.{◌at◌key◌answers◌from◌to◌and◌, OpenLookupCases}
use Rattle.orgtable.specs.Printed.{printed, printed_text, OpenPrinted}

-- a text is of n bytes; with room for n records this is printed for it
infix 100 ◌bytes◌
infix 100 ◌room◌prints◌
unfoldable pub ◌bytes◌ : String → ℕ → Case
w bytes n = case w (length (word w) ∷ []) (n ∷ [])

unfoldable pub ◌room◌prints◌ : String → ℕ → String → Case
w room n prints v = case w (printed_text (word w) (replicate (record_size * n) 9)) (word v)

-- a number is printed so, with the count that it returned, if it is a refusal
infix 100 ◌returning◌refuses◌
unfoldable pub ◌returning◌refuses◌ : ℕ → ℕ → String → Case
n returning c refuses v = case v (printed n c []) (word v)

-- an order with its drawer, and the same with an empty line above the drawer, which a lookup now answers with 8  [02 order 2]
abbrev pub order : String
order = "* A\n:PROPERTIES:\n:VIN: 7\n:END:\n\nhi\n"

abbrev pub drawer_apart : String
drawer_apart = "* A\n\n:PROPERTIES:\n:VIN: 7\n:END:\n"

unfoldable pub samples : List Case
samples =
    order bytes 35
    ∷ order reads
    (rec 1 0 35 0 35 0 0 0
    ∷ rec 2 0 35 4 35 0 1 0
    ∷ rec 3 4 35 4 35 1 0 1
    ∷ rec 5 4 32 17 25 2 0 1
    ∷ rec 6 17 25 23 24 3 0 2
    ∷ rec 16 32 35 32 35 2 0 5
    ∷ [])
    ∷ order room 6 answers 0 with 6
    ∷ order room 5 answers 3 with 6
    ∷ order room 6 prints
    "1 0 35 0 35 0 0 0\n2 0 35 4 35 0 1 0\n3 4 35 4 35 1 0 1\n5 4 32 17 25 2 0 1\n6 17 25 23 24 3 0 2\n16 32 35 32 35 2 0 5\n"
    ∷ order at 0 key "vin" answers 0 from 23 to 24 and 0
    ∷ 1 returning 0 refuses "refused 1\n"
    ∷ 2 returning 0 refuses "refused 2\n"
    ∷ order room 5 prints "refused 3 6\n"
    ∷ drawer_apart bytes 32
    ∷ drawer_apart kinds (1 ∷ 2 ∷ 3 ∷ 7 ∷ 16 ∷ [])
    ∷ drawer_apart at 0 key "vin" answers 8 from 0 to 0 and 0
    ∷ "#+begin_src\n* A\n#+end_src\n" bytes 26
    ∷ "#+begin_src\n* A\n#+end_src\n" kinds (1 ∷ 3 ∷ 16 ∷ 2 ∷ 3 ∷ 16 ∷ [])
    ∷ "" reads (rec 1 0 0 0 0 0 0 0 ∷ [])
    ∷ "" room 1 prints "1 0 0 0 0 0 0 0\n"
    ∷ "*" kinds (1 ∷ 3 ∷ 16 ∷ [])
    ∷ "* " kinds (1 ∷ 2 ∷ [])
    ∷ "----" kinds (1 ∷ 3 ∷ 16 ∷ [])
    ∷ "-----" kinds (1 ∷ 3 ∷ 14 ∷ [])
    ∷ "* A\n:PROPERTIES:\n:+:\n:END:\n" kinds (1 ∷ 2 ∷ 3 ∷ 7 ∷ 16 ∷ [])
    ∷ "* A\n:PROPERTIES:\n:A++:\n:END:\n" kinds (1 ∷ 2 ∷ 3 ∷ 7 ∷ 16 ∷ [])
    ∷ "* A\n:PROPERTIES:\n:A+:\n:END:\n" kinds (1 ∷ 2 ∷ 3 ∷ 5 ∷ 6 ∷ [])
    ∷ "#+:" kinds (1 ∷ 3 ∷ 16 ∷ [])
    ∷ "#+::" kinds (1 ∷ 3 ∷ 15 ∷ [])
    ∷ []

-- opens the samples and what they are samples of
unfoldable pub OpenSamples : Type 1
unfolding OpenCases OpenTableCases OpenReadingCases OpenLookupCases OpenPrinted ◌bytes◌ ◌room◌prints◌ ◌returning◌refuses◌ samples
OpenSamples = Type 0
