-- A piece and the declared end: what refuses them, and in which turn: 21, 1, 3; and what they give.
use Rattle.std.specs.Prelude.{Bool, true, false, List, [], ◌∷◌, ◌++◌, ℕ}
use Prim.Native.String.{String}
use Rattle.text.specs.Runs.{word}
use Rattle.text.specs.Cases.{Case, case}
use Rattle.stream.specs.declared.state.Stream.{Stream}
use Rattle.stream.specs.declared.heading.Heading.{Heading}
use Rattle.stream.specs.Call.{Call, has_line, is_open, room, written, refuse_if, handed_out, piece, end, OpenCall}
use Rattle.stream.specs.Pinned.Forms.{stream, state_parts, heading, lent, truth, OpenForms}

-- an unfinished line, in words, at a state: whether its numbers can be those of a line, and whether the state is open
infix 100 ◌at◌line◌opens◌
unfoldable pub ◌at◌line◌opens◌ : String → Stream → ℕ → ℕ → Case
w at c line n opens m = case w (truth (has_line c) ∷ truth (is_open c) ∷ []) (n ∷ m ∷ [])

unfoldable pub open_cases : List Case
open_cases =
    "" at stream 0 0 0 0 0 line 1 opens 1
    -- 65,536 bytes in all, and one more
    ∷ "65,536 bytes" at stream 65536 0 0 0 0 line 1 opens 1
    ∷ "65,537 bytes" at stream 65537 0 0 0 0 line 1 opens 0
    ∷ "a line of 65,536 bytes" at stream 65536 65536 0 0 0 line 1 opens 1
    ∷ "65,537 bytes" at stream 65537 65537 0 0 0 line 1 opens 0
    -- the line is all of them, and one byte more
    ∷ "abcde" at stream 5 5 0 0 0 line 1 opens 1
    ∷ "a line past all" at stream 4 5 0 0 0 line 1 opens 0
    ∷ "* " at stream 2 2 1 0 0 line 1 opens 1
    ∷ "a line past all" at stream 1 2 1 0 0 line 1 opens 0
    ∷ "a line past all" at stream 0 1 0 0 0 line 1 opens 0
    -- a heading line: its title is what is left after stars and space, less, one byte more
    ∷ "** abc" at stream 30 6 2 3 0 line 1 opens 1
    ∷ "**    " at stream 30 6 2 0 0 line 1 opens 1
    ∷ "a title too long" at stream 30 6 2 4 0 line 0 opens 0
    ∷ "***** " at stream 30 6 5 0 0 line 1 opens 1
    ∷ "a title too long" at stream 30 6 5 1 0 line 0 opens 0
    ∷ "* " at stream 30 2 1 0 0 line 1 opens 1
    ∷ "a title too long" at stream 30 2 1 1 0 line 0 opens 0
    -- no heading line: no stars, stars alone, more stars than bytes
    ∷ "abcdef" at stream 30 6 0 0 0 line 1 opens 1
    ∷ "******" at stream 30 6 6 0 0 line 1 opens 1
    ∷ "more stars than bytes" at stream 30 6 7 0 0 line 0 opens 0
    ∷ "more stars than bytes" at stream 30 0 1 0 0 line 0 opens 0
    ∷ "*" at stream 30 1 1 0 0 line 1 opens 1
    -- and no title
    ∷ "a title in no heading line" at stream 30 6 0 1 0 line 0 opens 0
    ∷ "a title in no heading line" at stream 30 6 6 1 0 line 0 opens 0
    ∷ "a title in no heading line" at stream 30 0 0 1 0 line 0 opens 0
    -- its end declared, and what is no state
    ∷ "declared" at stream 0 0 0 0 1 line 1 opens 0
    ∷ "declared" at stream 30 6 2 3 1 line 1 opens 0
    ∷ "ended 2" at stream 30 6 2 3 2 line 1 opens 0
    ∷ []

-- room is the list's length divided by 3, rounded down
unfoldable pub room_cases : List Case
room_cases =
    case "0 to 3" (room (lent 0) ∷ room (lent 1) ∷ room (lent 2) ∷ room (lent 3) ∷ []) (0 ∷ 0 ∷ 0 ∷ 1 ∷ [])
    ∷ case "5 to 9" (room (lent 5) ∷ room (lent 6) ∷ room (lent 7) ∷ room (lent 8) ∷ room (lent 9) ∷ []) (1 ∷ 2 ∷ 2 ∷ 2 ∷ 3 ∷ [])
    ∷ []

-- headings in a list's front; its rest stays as it was
unfoldable pub written_cases : List Case
written_cases =
    case "none" (written [] (1 ∷ 2 ∷ 3 ∷ 4 ∷ [])) (1 ∷ 2 ∷ 3 ∷ 4 ∷ [])
    ∷ case "none into none" (written [] []) []
    ∷ case "one into 3" (written (heading 50 60 70 ∷ []) (1 ∷ 2 ∷ 3 ∷ [])) (50 ∷ 60 ∷ 70 ∷ [])
    ∷ case "one into 5" (written (heading 50 60 70 ∷ []) (1 ∷ 2 ∷ 3 ∷ 4 ∷ 5 ∷ [])) (50 ∷ 60 ∷ 70 ∷ 4 ∷ 5 ∷ [])
    ∷ case "two into 7" (written (heading 50 60 70 ∷ heading 51 61 71 ∷ []) (1 ∷ 2 ∷ 3 ∷ 4 ∷ 5 ∷ 6 ∷ 7 ∷ []))
    (50 ∷ 60 ∷ 70 ∷ 51 ∷ 61 ∷ 71 ∷ 7 ∷ [])
    ∷ []

-- a call's number, count, state and list
unfoldable pub call_parts : Call → List ℕ
call_parts a = a.number ∷ a.count ∷ (state_parts a.state ++ a.list)

-- headings that have to go into a list of k numbers, and the state after them
unfoldable pub handed_case : String → List Heading → ℕ → List ℕ → Case
unfolding call_parts
handed_case w hs k ns = case w (call_parts (handed_out (stream 30 6 2 3 0) (lent k) hs (stream 40 7 1 4 1))) ns

unfoldable pub handed_cases : List Case
handed_cases =
    -- room for them
    handed_case "none" [] 0 (0 ∷ 0 ∷ 40 ∷ 7 ∷ 1 ∷ 4 ∷ 1 ∷ [])
    ∷ handed_case "none into 2" [] 2 (0 ∷ 0 ∷ 40 ∷ 7 ∷ 1 ∷ 4 ∷ 1 ∷ 9 ∷ 9 ∷ [])
    ∷ handed_case "one into 3" (heading 5 2 7 ∷ []) 3 (0 ∷ 1 ∷ 40 ∷ 7 ∷ 1 ∷ 4 ∷ 1 ∷ 5 ∷ 2 ∷ 7 ∷ [])
    ∷ handed_case "one into 4" (heading 5 2 7 ∷ []) 4 (0 ∷ 1 ∷ 40 ∷ 7 ∷ 1 ∷ 4 ∷ 1 ∷ 5 ∷ 2 ∷ 7 ∷ 9 ∷ [])
    ∷ handed_case "two into 6" (heading 5 2 7 ∷ heading 16 1 0 ∷ []) 6 (0 ∷ 2 ∷ 40 ∷ 7 ∷ 1 ∷ 4 ∷ 1 ∷ 5 ∷ 2 ∷ 7 ∷ 16 ∷ 1 ∷ 0 ∷ [])
    -- 3 with the count needed; state and list as before
    ∷ handed_case "one into 2" (heading 5 2 7 ∷ []) 2 (3 ∷ 1 ∷ 30 ∷ 6 ∷ 2 ∷ 3 ∷ 0 ∷ 9 ∷ 9 ∷ [])
    ∷ handed_case "one into none" (heading 5 2 7 ∷ []) 0 (3 ∷ 1 ∷ 30 ∷ 6 ∷ 2 ∷ 3 ∷ 0 ∷ [])
    ∷ handed_case "two into 5" (heading 5 2 7 ∷ heading 16 1 0 ∷ []) 5 (3 ∷ 2 ∷ 30 ∷ 6 ∷ 2 ∷ 3 ∷ 0 ∷ 9 ∷ 9 ∷ 9 ∷ 9 ∷ 9 ∷ [])
    ∷ []

-- refused or not, and what would be answered else: a refusal leaves state and list as before
unfoldable pub refuse_case : String → Bool → List ℕ → Case
unfolding call_parts
refuse_case w b ns =
    case w (call_parts (refuse_if b 7 8 (stream 30 6 2 3 0) (lent 2) (record { number = 1; count = 2; state = stream 40 7 1 4 1; list = lent 1 }))) ns

unfoldable pub refuse_cases : List Case
refuse_cases =
    refuse_case "refused" true (7 ∷ 8 ∷ 30 ∷ 6 ∷ 2 ∷ 3 ∷ 0 ∷ 9 ∷ 9 ∷ []) ∷ refuse_case "not refused" false (1 ∷ 2 ∷ 40 ∷ 7 ∷ 1 ∷ 4 ∷ 1 ∷ 9 ∷ []) ∷ []

-- a piece, with a list of k numbers
infix 100 ◌takes◌with◌answers◌
unfoldable pub ◌takes◌with◌answers◌ : Stream → String → ℕ → List ℕ → Case
unfolding call_parts
c takes w with k answers ns = case w (call_parts (piece c (word w) (lent k))) ns

unfoldable pub piece_cases : List Case
piece_cases =
    -- of no bytes
    stream 0 0 0 0 0 takes "" with 0 answers (0 ∷ 0 ∷ 0 ∷ 0 ∷ 0 ∷ 0 ∷ 0 ∷ [])
    ∷ stream 30 6 2 3 0 takes "" with 2 answers (0 ∷ 0 ∷ 30 ∷ 6 ∷ 2 ∷ 3 ∷ 0 ∷ 9 ∷ 9 ∷ [])
    -- headings whose lines it finishes, and those alone
    ∷ stream 0 0 0 0 0 takes "* A\n" with 3 answers (0 ∷ 1 ∷ 4 ∷ 0 ∷ 0 ∷ 0 ∷ 0 ∷ 0 ∷ 1 ∷ 1 ∷ [])
    ∷ stream 0 0 0 0 0 takes "* A" with 3 answers (0 ∷ 0 ∷ 3 ∷ 3 ∷ 1 ∷ 1 ∷ 0 ∷ 9 ∷ 9 ∷ 9 ∷ [])
    ∷ stream 30 6 2 3 0 takes " b \n*" with 5 answers (0 ∷ 1 ∷ 35 ∷ 1 ∷ 1 ∷ 0 ∷ 0 ∷ 24 ∷ 2 ∷ 5 ∷ 9 ∷ 9 ∷ [])
    ∷ stream 30 6 2 3 0 takes "\n* A\n** B" with 6 answers (0 ∷ 2 ∷ 39 ∷ 4 ∷ 2 ∷ 1 ∷ 0 ∷ 24 ∷ 2 ∷ 3 ∷ 31 ∷ 1 ∷ 1 ∷ [])
    -- 65,536 bytes in all, and one more
    ∷ stream 65535 0 0 0 0 takes "x" with 0 answers (0 ∷ 0 ∷ 65536 ∷ 1 ∷ 0 ∷ 0 ∷ 0 ∷ [])
    ∷ stream 65535 0 0 0 0 takes "xy" with 0 answers (1 ∷ 0 ∷ 65535 ∷ 0 ∷ 0 ∷ 0 ∷ 0 ∷ [])
    ∷ stream 65536 65536 1 3 0 takes "" with 0 answers (0 ∷ 0 ∷ 65536 ∷ 65536 ∷ 1 ∷ 3 ∷ 0 ∷ [])
    ∷ stream 65536 65536 1 3 0 takes "\n" with 3 answers (1 ∷ 0 ∷ 65536 ∷ 65536 ∷ 1 ∷ 3 ∷ 0 ∷ 9 ∷ 9 ∷ 9 ∷ [])
    ∷ stream 65535 65535 1 3 0 takes "\n" with 3 answers (0 ∷ 1 ∷ 65536 ∷ 0 ∷ 0 ∷ 0 ∷ 0 ∷ 0 ∷ 1 ∷ 3 ∷ [])
    -- no room, with the count needed
    ∷ stream 65535 65535 1 3 0 takes "\n" with 2 answers (3 ∷ 1 ∷ 65535 ∷ 65535 ∷ 1 ∷ 3 ∷ 0 ∷ 9 ∷ 9 ∷ [])
    ∷ stream 0 0 0 0 0 takes "* A\n* B\n" with 5 answers (3 ∷ 2 ∷ 0 ∷ 0 ∷ 0 ∷ 0 ∷ 0 ∷ 9 ∷ 9 ∷ 9 ∷ 9 ∷ 9 ∷ [])
    -- 21: the end declared, and what is no state
    ∷ stream 30 6 2 3 1 takes "" with 1 answers (21 ∷ 0 ∷ 30 ∷ 6 ∷ 2 ∷ 3 ∷ 1 ∷ 9 ∷ [])
    ∷ stream 30 6 2 3 2 takes "x" with 0 answers (21 ∷ 0 ∷ 30 ∷ 6 ∷ 2 ∷ 3 ∷ 2 ∷ [])
    ∷ stream 5 6 2 3 0 takes "x" with 0 answers (21 ∷ 0 ∷ 5 ∷ 6 ∷ 2 ∷ 3 ∷ 0 ∷ [])
    ∷ stream 30 6 2 4 0 takes "\n" with 3 answers (21 ∷ 0 ∷ 30 ∷ 6 ∷ 2 ∷ 4 ∷ 0 ∷ 9 ∷ 9 ∷ 9 ∷ [])
    ∷ stream 65537 0 0 0 0 takes "" with 0 answers (21 ∷ 0 ∷ 65537 ∷ 0 ∷ 0 ∷ 0 ∷ 0 ∷ [])
    -- in turn: 21 before 1, 21 before 3, 1 before 3
    ∷ stream 65536 0 0 0 1 takes "x" with 0 answers (21 ∷ 0 ∷ 65536 ∷ 0 ∷ 0 ∷ 0 ∷ 1 ∷ [])
    ∷ stream 30 6 2 3 1 takes "\n" with 2 answers (21 ∷ 0 ∷ 30 ∷ 6 ∷ 2 ∷ 3 ∷ 1 ∷ 9 ∷ 9 ∷ [])
    ∷ stream 65536 6 2 3 0 takes "\n" with 2 answers (1 ∷ 0 ∷ 65536 ∷ 6 ∷ 2 ∷ 3 ∷ 0 ∷ 9 ∷ 9 ∷ [])
    ∷ []

-- the declared end after an unfinished line, with a list of k numbers
infix 100 ◌at◌ends◌answers◌
unfoldable pub ◌at◌ends◌answers◌ : String → Stream → ℕ → List ℕ → Case
unfolding call_parts
w at c ends k answers ns = case w (call_parts (end c (lent k))) ns

unfoldable pub end_cases : List Case
end_cases =
    "" at stream 0 0 0 0 0 ends 0 answers (0 ∷ 0 ∷ 0 ∷ 0 ∷ 0 ∷ 0 ∷ 1 ∷ [])
    ∷ "" at stream 30 0 0 0 0 ends 3 answers (0 ∷ 0 ∷ 30 ∷ 0 ∷ 0 ∷ 0 ∷ 1 ∷ 9 ∷ 9 ∷ 9 ∷ [])
    ∷ "******" at stream 30 6 6 0 0 ends 3 answers (0 ∷ 0 ∷ 30 ∷ 6 ∷ 6 ∷ 0 ∷ 1 ∷ 9 ∷ 9 ∷ 9 ∷ [])
    ∷ "abcdef" at stream 65536 6 0 0 0 ends 0 answers (0 ∷ 0 ∷ 65536 ∷ 6 ∷ 0 ∷ 0 ∷ 1 ∷ [])
    -- the last line is a heading line
    ∷ "** abc" at stream 30 6 2 3 0 ends 3 answers (0 ∷ 1 ∷ 30 ∷ 6 ∷ 2 ∷ 3 ∷ 1 ∷ 24 ∷ 2 ∷ 3 ∷ [])
    ∷ "***** " at stream 65536 6 5 0 0 ends 4 answers (0 ∷ 1 ∷ 65536 ∷ 6 ∷ 5 ∷ 0 ∷ 1 ∷ 65530 ∷ 5 ∷ 0 ∷ 9 ∷ [])
    -- no room: the end is not declared
    ∷ "** abc" at stream 30 6 2 3 0 ends 2 answers (3 ∷ 1 ∷ 30 ∷ 6 ∷ 2 ∷ 3 ∷ 0 ∷ 9 ∷ 9 ∷ [])
    ∷ "** abc" at stream 30 6 2 3 0 ends 0 answers (3 ∷ 1 ∷ 30 ∷ 6 ∷ 2 ∷ 3 ∷ 0 ∷ [])
    -- 21: the end declared, and what is no state; before 3
    ∷ "declared" at stream 30 6 2 3 1 ends 3 answers (21 ∷ 0 ∷ 30 ∷ 6 ∷ 2 ∷ 3 ∷ 1 ∷ 9 ∷ 9 ∷ 9 ∷ [])
    ∷ "declared" at stream 0 0 0 0 1 ends 0 answers (21 ∷ 0 ∷ 0 ∷ 0 ∷ 0 ∷ 0 ∷ 1 ∷ [])
    ∷ "a title too long" at stream 30 6 2 4 0 ends 3 answers (21 ∷ 0 ∷ 30 ∷ 6 ∷ 2 ∷ 4 ∷ 0 ∷ 9 ∷ 9 ∷ 9 ∷ [])
    ∷ "65,537 bytes" at stream 65537 0 0 0 0 ends 0 answers (21 ∷ 0 ∷ 65537 ∷ 0 ∷ 0 ∷ 0 ∷ 0 ∷ [])
    ∷ "declared" at stream 30 6 2 3 1 ends 2 answers (21 ∷ 0 ∷ 30 ∷ 6 ∷ 2 ∷ 3 ∷ 1 ∷ 9 ∷ 9 ∷ [])
    ∷ []

-- opens these cases and what they are cases of
unfoldable pub OpenCallCases : Type 1
unfolding
    OpenForms OpenCall ◌at◌line◌opens◌ open_cases room_cases written_cases call_parts handed_case handed_cases refuse_case refuse_cases
    ◌takes◌with◌answers◌ piece_cases ◌at◌ends◌answers◌ end_cases
OpenCallCases = Type 0
