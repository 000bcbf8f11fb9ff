-- The answer to an order, and what is left in the lent output.
use Rattle.std.specs.Prelude.{List, [], ◌∷◌, ◌++◌, ℕ, replicate}
use Prim.Native.String.{String}
use Rattle.text.specs.Runs.{word}
use Rattle.text.specs.Cases.{Case, case}
use Rattle.sheet.specs.Faults.{Refused, Good}
use Rattle.sheet.specs.Answers.{Outcome, put_out, outcome_for, write_sheet, OpenAnswers}
use Rattle.sheet.specs.Pinned.Forms.{order_of, OpenForms}

-- an outcome has a number, a count and an output
unfoldable pub outcome_case : String → Outcome → ℕ → ℕ → List ℕ → Case
outcome_case w r n c t = case w (r.number ∷ r.count ∷ r.output) (n ∷ c ∷ t)

-- a sheet put out over a lent output: room exact, one less, more, for an empty one; with a refusal the output stays as it was
unfoldable pub put_cases : List Case
unfolding outcome_case
put_cases =
    outcome_case "exact" (put_out (word "abc") (word "wxy")) 0 3 (word "abc")
    ∷ outcome_case "one less" (put_out (word "abc") (word "wx")) 16 3 (word "wx")
    ∷ outcome_case "more" (put_out (word "abc") (word "uvwxyz")) 0 3 (word "abcxyz")
    ∷ outcome_case "nothing" (put_out [] (word "wx")) 0 0 (word "wx")
    ∷ outcome_case "nothing, no room" (put_out [] []) 0 0 []
    ∷ outcome_case "no room" (put_out (word "a") []) 16 1 []
    ∷ outcome_case "refused" (outcome_for (Refused 14) (word "wxyz")) 14 0 (word "wxyz")
    ∷ outcome_case "good" (outcome_for (Good (order_of "" [])) (word "abcdefghijklmnopqrstuvwxyz")) 0 22 (word "* \n:PROPERTIES:\n:END:\nwxyz")
    ∷ []

-- 1: a sheet over 65,536 bytes, before 16
unfoldable pub long_cases : List Case
unfolding outcome_case
long_cases =
    outcome_case "65,537 bytes" (put_out (replicate 65537 97) []) 1 0 []
    ∷ outcome_case "65,536 bytes" (put_out (replicate 65536 97) []) 16 65536 []
    ∷ []

-- a buffer, and a lent output of m bytes 170: the answer's number and count, and what stands in the output before k of those bytes
infix 100 ◌sends◌into◌answers◌count◌leaves◌and◌
unfoldable pub ◌sends◌into◌answers◌count◌leaves◌and◌ : String → String → ℕ → ℕ → ℕ → String → ℕ → Case
unfolding outcome_case
w sends x into m answers n count c leaves y and k = outcome_case w (write_sheet (word x) (replicate m 170)) n c (word y ++ replicate k 170)

unfoldable pub sheet_samples : List Case
sheet_samples =
    "what is past the sheet stays" sends "\u{1}\0T\u{1}\u{3}VIN\u{1}\07" into 40 answers 0 count 31 leaves "* T\n:PROPERTIES:\n:VIN: 7\n:END:\n" and 9
    ∷ "one byte too little" sends "\u{1}\0T\u{1}\u{3}VIN\u{1}\07" into 30 answers 16 count 31 leaves "" and 30
    ∷ "empty title, no pairs" sends "\0\0\0" into 22 answers 0 count 22 leaves "* \n:PROPERTIES:\n:END:\n" and 0
    ∷ "pairs in turn; blank inside a value" sends "\u{3}\0a b\u{2}\u{1}B\u{3}\0x y\u{1}A\u{1}\0:" into 50 answers 0 count 39 leaves "* a b\n:PROPERTIES:\n:B: x y\n:A: :\n:END:\n" and 11
    ∷ "colons and a leading plus in a key" sends "\u{1}\0T\u{2}\u{3}a:b\u{1}\01\u{2}+c\u{1}\02" into 50 answers 0 count 38 leaves "* T\n:PROPERTIES:\n:a:b: 1\n:+c: 2\n:END:\n" and 12
    ∷ "12: title cut" sends "\u{5}\0abc" into 50 answers 12 count 0 leaves "" and 50
    ∷ "12: value cut" sends "\u{1}\0T\u{1}\u{1}A\u{2}\01" into 50 answers 12 count 0 leaves "" and 50
    ∷ "12: one byte too long" sends "\u{1}\0T\0x" into 50 answers 12 count 0 leaves "" and 50
    ∷ "16 pairs" sends "\u{1}\0T\u{10}\u{1}0\0\0\u{1}1\0\0\u{1}2\0\0\u{1}3\0\0\u{1}4\0\0\u{1}5\0\0\u{1}6\0\0\u{1}7\0\0\u{1}8\0\0\u{1}9\0\0\u{1}a\0\0\u{1}b\0\0\u{1}c\0\0\u{1}d\0\0\u{1}e\0\0\u{1}f\0\0" into 200 answers 0 count 87 leaves "* T\n:PROPERTIES:\n:0:\n:1:\n:2:\n:3:\n:4:\n:5:\n:6:\n:7:\n:8:\n:9:\n:a:\n:b:\n:c:\n:d:\n:e:\n:f:\n:END:\n" and 113
    ∷ "13: byte 13 in a value" sends "\u{1}\0T\u{1}\u{1}A\u{3}\0a\rb" into 50 answers 13 count 0 leaves "" and 50
    ∷ "13: space before the title" sends "\u{2}\0 T\0" into 50 answers 13 count 0 leaves "" and 50
    ∷ "14: empty key" sends "\u{1}\0T\u{1}\0\u{1}\0x" into 50 answers 14 count 0 leaves "" and 50
    ∷ "14: key ends in plus" sends "\u{1}\0T\u{1}\u{2}a+\u{1}\0x" into 50 answers 14 count 0 leaves "" and 50
    ∷ "14: 65 bytes" sends "\u{1}\0T\u{1}Aaaaaaaaaaaaaaaaaaaaaaaaaaaaaaaaaaaaaaaaaaaaaaaaaaaaaaaaaaaaaaaaaa\u{1}\0x" into 100 answers 14 count 0 leaves "" and 100
    ∷ "14: END in any case" sends "\u{1}\0T\u{1}\u{3}eNd\u{1}\0x" into 50 answers 14 count 0 leaves "" and 50
    ∷ "13 in the last value before 14 in the first key" sends "\u{1}\0T\u{2}\0\u{1}\0x\u{1}A\u{1}\0 " into 50 answers 13 count 0 leaves "" and 50
    ∷ "14 before 15" sends "\u{1}\0T\u{3}\u{1}A\0\0\u{1}a\0\0\u{3}END\0\0" into 50 answers 14 count 0 leaves "" and 50
    ∷ "one pair, room exact" sends "\u{1}\0T\u{1}\u{3}VIN\u{1}\07" into 31 answers 0 count 31 leaves "* T\n:PROPERTIES:\n:VIN: 7\n:END:\n" and 0
    ∷ "no room at all" sends "\0\0\0" into 0 answers 16 count 22 leaves "" and 0
    ∷ "room one less, no pairs" sends "\0\0\0" into 21 answers 16 count 22 leaves "" and 21
    ∷ "empty value: no space" sends "\u{1}\0T\u{1}\u{1}A\0\0" into 30 answers 0 count 27 leaves "* T\n:PROPERTIES:\n:A:\n:END:\n" and 3
    ∷ "12: empty buffer" sends "" into 50 answers 12 count 0 leaves "" and 50
    ∷ "12: pair count missing" sends "\u{1}\0a" into 50 answers 12 count 0 leaves "" and 50
    ∷ "12: 17 pairs" sends "\u{1}\0T\u{11}\u{2}k0\0\0\u{2}k1\0\0\u{2}k2\0\0\u{2}k3\0\0\u{2}k4\0\0\u{2}k5\0\0\u{2}k6\0\0\u{2}k7\0\0\u{2}k8\0\0\u{2}k9\0\0\u{3}k10\0\0\u{3}k11\0\0\u{3}k12\0\0\u{3}k13\0\0\u{3}k14\0\0\u{3}k15\0\0\u{3}k16\0\0" into 200 answers 12 count 0 leaves "" and 200
    ∷ "13: byte 10 in the title" sends "\u{3}\0a\nb\0" into 50 answers 13 count 0 leaves "" and 50
    ∷ "13: tab after a value" sends "\u{1}\0T\u{1}\u{1}A\u{2}\0x\t" into 50 answers 13 count 0 leaves "" and 50
    ∷ "14: blank byte in a key" sends "\u{1}\0T\u{1}\u{3}a b\u{1}\0x" into 50 answers 14 count 0 leaves "" and 50
    ∷ "64 bytes" sends "\u{1}\0T\u{1}@aaaaaaaaaaaaaaaaaaaaaaaaaaaaaaaaaaaaaaaaaaaaaaaaaaaaaaaaaaaaaaaa\u{1}\0x" into 92 answers 0 count 92 leaves "* T\n:PROPERTIES:\n:aaaaaaaaaaaaaaaaaaaaaaaaaaaaaaaaaaaaaaaaaaaaaaaaaaaaaaaaaaaaaaaa: x\n:END:\n" and 0
    ∷ "15: case ignored" sends "\u{1}\0T\u{2}\u{2}Ab\u{1}\01\u{2}aB\u{1}\02" into 50 answers 15 count 0 leaves "" and 50
    ∷ "12 before all" sends "\u{1}\0T\u{1}\0\u{1}\0 x" into 50 answers 12 count 0 leaves "" and 50
    ∷ "13 before 16" sends "\u{2}\0 T\0" into 0 answers 13 count 0 leaves "" and 0
    ∷ "15 before 16" sends "\u{1}\0T\u{2}\u{1}A\0\0\u{1}a\0\0" into 0 answers 15 count 0 leaves "" and 0
    ∷ []

-- opens these cases and what they are cases of
unfoldable pub OpenAnswerCases : Type 1
unfolding OpenForms OpenAnswers put_cases long_cases ◌sends◌into◌answers◌count◌leaves◌and◌ sheet_samples
OpenAnswerCases = Type 0
