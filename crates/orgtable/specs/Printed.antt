-- What the program prints  [01 "Sample readings"].
use Rattle.std.specs.Prelude.{true, false, List, [], ◌∷◌, ◌++◌, ℕ, zero, suc, ◌+◌, ◌*◌, ◌/◌, ◌%◌, ltb, eqb, take, drop}
use Rattle.text.specs.Number
use Rattle.text.specs.Runs.{word}
use Rattle.std.specs.declared.result.Result.TheVariants.{Ok, Err}
use Rattle.table.specs.Records.{record_size}
use Rattle.table.specs.Reading.{reading}
use Rattle.reading.specs.Answers.{Answer, answer, number, count, leaves, OpenAnswers}

abbrev pub newline : ℕ
newline = 10

abbrev pub space : ℕ
space = 32

abbrev pub digit : ℕ → ℕ
digit d = 48 + d

-- A number in decimal, in ASCII, with no zero in front: `0`, `35`. First one of at most k + 1 digits, then any, since n has at most n + 1.
unfoldable pub digits_up_to : ℕ → ℕ → List ℕ
digits_up_to zero n = digit n ∷ []
digits_up_to (suc k) n = elim (ltb n 10) [ true ↦ digit n ∷ [] | false ↦ digits_up_to k (n / 10) ++ digit (n % 10) ∷ [] ]

unfoldable pub decimal : ℕ → List ℕ
decimal n = digits_up_to n n

-- Numbers on a line, a space between two, byte 10 at the end: `1 0 35 0 35 0 0 0`.
unfoldable pub line : List ℕ → List ℕ
line [] = newline ∷ []
line (n ∷ []) = decimal n ++ newline ∷ []
line (n ∷ m ∷ ns) = decimal n ++ space ∷ line (m ∷ ns)

-- The first n records of a table, a line each. A record is eight numbers  [02 order 7].
unfoldable pub record_lines : ℕ → List ℕ → List ℕ
record_lines zero t = []
record_lines (suc n) t = line (take record_size t) ++ record_lines n (drop record_size t)

-- On refusal it prints one line: `refused 1`, `refused 2`, or `refused 3`, a space and the count.
unfoldable pub refused : List ℕ → List ℕ
refused ns = word "refused " ++ line ns

-- What is printed for a number n, what it returned and the table that it left.
abbrev pub printed : ℕ → ℕ → List ℕ → List ℕ
printed n c t =
    elim (eqb n Number.done)
    [ true ↦ record_lines c t | false ↦ elim (eqb n Number.no_room) [ true ↦ refused (n ∷ c ∷ []) | false ↦ refused (n ∷ []) ] ]

-- What is printed for a text s, read into the table t.
abbrev pub printed_text : List ℕ → List ℕ → List ℕ
printed_text s t = let a = answer s t in printed (number a) (count a) (leaves (number a) (reading s) t)

-- how many records of the table are printed
abbrev pub shown : Answer → ℕ
shown (Ok n) = n
shown (Err e) = 0

-- a number of a table has at most ten digits, and a byte follows it; a record's line has eight of these
abbrev pub cell_size : ℕ
cell_size = 11

abbrev pub line_size : ℕ
line_size = record_size * cell_size

-- what is printed for a table of 16,384 numbers has room in so many bytes
abbrev pub page_size : ℕ
page_size = 180224

-- opens the definitions of this file and of those it stands on, for computed examples
unfoldable pub OpenPrinted : Type 1
unfolding OpenAnswers digits_up_to decimal line record_lines refused
OpenPrinted = Type 0
