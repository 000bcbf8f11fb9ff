-- A book in pieces, each handed the state that the last gave, and then the end; and the heading records of a reading.
use Rattle.std.specs.Prelude.{Bool, true, false, List, [], ◌∷◌, ◌++◌, ℕ}
use Prim.Native.String.{String}
use Rattle.text.specs.Runs.{word}
use Rattle.text.specs.Cases.{Case, case}
use Rattle.table.specs.declared.record.Record.{Record}
use Rattle.table.specs.Records.{rec}
use Rattle.table.specs.Reading.{reading, OpenReading}
use Rattle.stream.specs.declared.state.Stream.{Stream}
use Rattle.stream.specs.State.{new_stream}
use Rattle.stream.specs.Call.{Call, OpenCall}
use Rattle.stream.specs.Promises.{Piece, Run, start_and_stars, heading_records, joined, taken, after, run_to}
use Rattle.stream.specs.Pinned.Forms.{stream, state_parts, heading, lent, truth, OpenForms}

-- pieces, each with a list of so many numbers
infix 110 ◌with◌
unfoldable pub ◌with◌ : String → ℕ → Piece
w with k = record { bytes = word w; list = lent k }

unfoldable pub joined_cases : List Case
joined_cases =
    case "none" (joined []) []
    ∷ case "one" (joined ("ab" with 3 ∷ [])) (word "ab")
    ∷ case "several" (joined ("ab" with 3 ∷ "" with 1 ∷ "c" with 0 ∷ "\nd" with 0 ∷ [])) (word "abc\nd")
    ∷ []

-- a call by its number and count, with its list, and what it has written
unfoldable pub calling : ℕ → ℕ → Call
calling n k = record { number = n; count = k; state = stream 40 7 1 4 1; list = 1 ∷ 2 ∷ 3 ∷ 4 ∷ 5 ∷ 6 ∷ 7 ∷ [] }

unfoldable pub taken_cases : List Case
taken_cases =
    case "none" (taken (calling 0 0)) []
    ∷ case "one" (taken (calling 0 1)) (1 ∷ 2 ∷ 3 ∷ [])
    ∷ case "two" (taken (calling 0 2)) (1 ∷ 2 ∷ 3 ∷ 4 ∷ 5 ∷ 6 ∷ [])
    ∷ []

-- a run: whether no call was refused, the state, the list
unfoldable pub run_parts : Run → List ℕ
run_parts r = truth r.accepted ∷ (state_parts r.state ++ r.list)

-- a call before a run
unfoldable pub after_case : String → ℕ → ℕ → Bool → List ℕ → Case
unfolding calling run_parts
after_case w n k b ns = case w (run_parts (after (calling n k) (record { accepted = b; state = stream 30 6 2 3 1; list = 8 ∷ 9 ∷ [] }))) ns

unfoldable pub after_cases : List Case
after_cases =
    after_case "both accepted" 0 1 true (1 ∷ 30 ∷ 6 ∷ 2 ∷ 3 ∷ 1 ∷ 1 ∷ 2 ∷ 3 ∷ 8 ∷ 9 ∷ [])
    ∷ after_case "the later ones refused" 0 1 false (0 ∷ 30 ∷ 6 ∷ 2 ∷ 3 ∷ 1 ∷ 1 ∷ 2 ∷ 3 ∷ 8 ∷ 9 ∷ [])
    ∷ after_case "1" 1 0 true (0 ∷ 30 ∷ 6 ∷ 2 ∷ 3 ∷ 1 ∷ 8 ∷ 9 ∷ [])
    ∷ after_case "21" 21 0 true (0 ∷ 30 ∷ 6 ∷ 2 ∷ 3 ∷ 1 ∷ 8 ∷ 9 ∷ [])
    ∷ []

-- pieces from a state on, and the end with a list of k numbers: the state and the joined list, with no call refused
infix 100 ◌from◌runs◌end◌is◌gives◌
unfoldable pub ◌from◌runs◌end◌is◌gives◌ : String → Stream → List Piece → ℕ → List ℕ → List ℕ → Case
unfolding run_parts
w from c runs ps end k is ns gives ts = case w (run_parts (run_to c ps (lent k))) (1 ∷ (ns ++ ts))

unfoldable pub run_cases : List Case
run_cases =
    "no piece" from new_stream runs [] end 0 is (0 ∷ 0 ∷ 0 ∷ 0 ∷ 1 ∷ []) gives []
    ∷ "one line in one piece" from new_stream runs ("* A\n" with 3 ∷ []) end 0 is (4 ∷ 0 ∷ 0 ∷ 0 ∷ 1 ∷ []) gives (0 ∷ 1 ∷ 1 ∷ [])
    ∷ "split between star and space" from new_stream runs ("x\n*" with 3 ∷ " A\n" with 3 ∷ []) end 3 is (6 ∷ 0 ∷ 0 ∷ 0 ∷ 1 ∷ []) gives (2 ∷ 1 ∷ 1 ∷ [])
    ∷ "stars only are none" from new_stream runs ("***\n*\tx\n *  A\n" with 3 ∷ []) end 3 is (14 ∷ 0 ∷ 0 ∷ 0 ∷ 1 ∷ []) gives []
    -- one book of 17 bytes: whole, split in stars, in titles and before their blank bytes, before byte 10, with pieces of no bytes, byte by byte
    ∷ "whole" from new_stream runs ("* A\n** B c \n*** D" with 6 ∷ []) end 3 is (17 ∷ 5 ∷ 3 ∷ 1 ∷ 1 ∷ []) gives (0 ∷ 1 ∷ 1 ∷ 4 ∷ 2 ∷ 3 ∷ 12 ∷ 3 ∷ 1 ∷ [])
    ∷ "split in stars" from new_stream runs ("*" with 0 ∷ " A\n*" with 3 ∷ "* B c \n*" with 3 ∷ "** D" with 0 ∷ []) end 3 is (17 ∷ 5 ∷ 3 ∷ 1 ∷ 1 ∷ [])
    gives (0 ∷ 1 ∷ 1 ∷ 4 ∷ 2 ∷ 3 ∷ 12 ∷ 3 ∷ 1 ∷ [])
    ∷ "split in titles" from new_stream runs ("* A" with 0 ∷ "\n** B " with 5 ∷ "c" with 2 ∷ " \n*** " with 3 ∷ "D" with 1 ∷ []) end 4
    is (17 ∷ 5 ∷ 3 ∷ 1 ∷ 1 ∷ []) gives (0 ∷ 1 ∷ 1 ∷ 4 ∷ 2 ∷ 3 ∷ 12 ∷ 3 ∷ 1 ∷ [])
    ∷ "pieces of no bytes" from new_stream runs ("" with 0 ∷ "* A\n** B c \n**" with 9 ∷ "" with 2 ∷ "* D" with 0 ∷ "" with 3 ∷ []) end 3
    is (17 ∷ 5 ∷ 3 ∷ 1 ∷ 1 ∷ []) gives (0 ∷ 1 ∷ 1 ∷ 4 ∷ 2 ∷ 3 ∷ 12 ∷ 3 ∷ 1 ∷ [])
    ∷ "byte by byte" from new_stream
    runs ("*" with 0 ∷ " " with 0 ∷ "A" with 0 ∷ "\n" with 3 ∷ "*" with 0 ∷ "*" with 0 ∷ " " with 0 ∷ "B" with 0 ∷ " " with 0 ∷ "c" with 0 ∷ " " with 0
    ∷ "\n" with 3 ∷ "*" with 0 ∷ "*" with 0 ∷ "*" with 0 ∷ " " with 0 ∷ "D" with 0 ∷ []) end 3 is (17 ∷ 5 ∷ 3 ∷ 1 ∷ 1 ∷ [])
    gives (0 ∷ 1 ∷ 1 ∷ 4 ∷ 2 ∷ 3 ∷ 12 ∷ 3 ∷ 1 ∷ [])
    -- from a state inside a line
    ∷ "from a star on" from stream 30 1 1 0 0 runs (" A" with 0 ∷ "b" with 0 ∷ []) end 3 is (33 ∷ 4 ∷ 1 ∷ 2 ∷ 1 ∷ []) gives (29 ∷ 1 ∷ 2 ∷ [])
    ∷ []

-- the same, with a call refused: the state, which a refused call leaves as before
infix 100 ◌from◌runs◌end◌leaves◌
unfoldable pub ◌from◌runs◌end◌leaves◌ : String → Stream → List Piece → ℕ → List ℕ → Case
w from c runs ps end k leaves ns = let r = run_to c ps (lent k) in case w (truth r.accepted ∷ state_parts r.state) (0 ∷ ns)

unfoldable pub refused_cases : List Case
refused_cases =
    -- the only piece, the first, the last, the end
    "the only piece" from new_stream runs ("* A\n" with 2 ∷ []) end 3 leaves (0 ∷ 0 ∷ 0 ∷ 0 ∷ 1 ∷ [])
    ∷ "the first piece" from new_stream runs ("* A\n* B\n" with 5 ∷ "* A\n" with 3 ∷ []) end 0 leaves (4 ∷ 0 ∷ 0 ∷ 0 ∷ 1 ∷ [])
    ∷ "the last piece" from new_stream runs ("* A\n" with 3 ∷ "* B\n" with 0 ∷ []) end 0 leaves (4 ∷ 0 ∷ 0 ∷ 0 ∷ 1 ∷ [])
    ∷ "the end" from new_stream runs ("* A" with 0 ∷ []) end 2 leaves (3 ∷ 3 ∷ 1 ∷ 1 ∷ 0 ∷ [])
    -- 1, then a piece that fits; 21
    ∷ "1" from stream 65535 0 0 0 0 runs ("\n\n" with 0 ∷ "\n" with 0 ∷ "" with 0 ∷ []) end 0 leaves (65536 ∷ 0 ∷ 0 ∷ 0 ∷ 1 ∷ [])
    ∷ "21" from stream 30 6 2 3 1 runs ("x" with 0 ∷ []) end 3 leaves (30 ∷ 6 ∷ 2 ∷ 3 ∷ 1 ∷ [])
    ∷ []

-- starts and stars of the heading records of a table
unfoldable pub pair_parts : List (ℕ × ℕ) → List ℕ
pair_parts [] = []
pair_parts (x ∷ xs) = x.0 ∷ x.1 ∷ pair_parts xs

unfoldable pub table_case : String → List Record → List ℕ → Case
unfolding pair_parts
table_case w R ns = case w (pair_parts (heading_records R)) ns

unfoldable pub table_cases : List Case
table_cases =
    table_case "none" [] []
    ∷ table_case "other kinds" (rec 1 2 3 4 5 6 7 8 ∷ rec 3 2 3 4 5 6 7 8 ∷ []) []
    ∷ table_case "headings" (rec 1 0 90 0 90 0 0 1 ∷ rec 2 21 31 41 51 61 71 81 ∷ rec 16 22 32 42 52 62 72 82 ∷ rec 2 23 33 43 53 63 73 83 ∷ [])
    (21 ∷ 71 ∷ 23 ∷ 73 ∷ [])
    ∷ case "start and stars" (pair_parts (start_and_stars (heading 5 2 7) ∷ [])) (5 ∷ 2 ∷ [])
    ∷ []

-- those of a reading, which are a text's headings
infix 100 ◌reads◌
unfoldable pub ◌reads◌ : String → List ℕ → Case
unfolding pair_parts
w reads ns = case w (pair_parts (heading_records (reading (word w)))) ns

unfoldable pub read_cases : List Case
read_cases = "" reads [] ∷ "*" reads [] ∷ "* " reads (0 ∷ 1 ∷ []) ∷ "x\n** B\n*" reads (2 ∷ 2 ∷ []) ∷ "** A\n* B" reads (0 ∷ 2 ∷ 5 ∷ 1 ∷ []) ∷ []

-- opens these cases and what they are cases of
unfoldable pub OpenRunCases : Type 1
unfolding
    OpenForms OpenReading OpenCall heading_records joined run_to ◌with◌ joined_cases calling taken_cases run_parts after_case after_cases ◌from◌runs◌end◌is◌gives◌
    run_cases ◌from◌runs◌end◌leaves◌ refused_cases pair_parts table_case table_cases ◌reads◌ read_cases
OpenRunCases = Type 0
