-- A log ends as the single calls in turn would; cut short it does nothing.
use Rattle.std.specs.Prelude.{List, [], ◌∷◌, ◌++◌, map, ℕ, zero, suc}
use Rattle.std.proofs.Math.Option.{none, some}
use Prim.Native.String.{String}
use Rattle.text.specs.Runs.{word}
use Rattle.text.specs.Cases.{Case, case}
use Rattle.sheet.specs.Sheet.{join}
use Rattle.intake.specs.Book.{Book, book_of}
use Rattle.intake.specs.Log.{run, played_for, played, OpenLog}
use Rattle.intake.specs.Pinned.Forms.{lent, book_parts, call_parts, r1for7, r1for8, r2for8, OpenForms}

-- calls in turn
unfoldable pub run_cases : List Case
run_cases =
    case "none" (book_parts (run (book_of (lent "x" 2) 1) [])) (1 ∷ lent "x" 2)
    ∷ case "refused" (book_parts (run (book_of (lent "x" 2) 4) (map word (r1for7 ∷ "" ∷ [])))) (4 ∷ lent "x" 2)
    ∷ case "two" (book_parts (run (book_of (lent "x" 89) 1) (map word (r2for8 ∷ r1for7 ∷ []))))
    (90 ∷ lent "x\n* T\n:PROPERTIES:\n:REQUEST: r2\n:VIN: 8\n:END:\n* T\n:PROPERTIES:\n:REQUEST: r1\n:VIN: 7\n:END:\n" 0)
    ∷ case "cut log" (call_parts (played_for (book_of (lent "x" 59) 1) none)) (27 ∷ 1 ∷ lent "x" 59)
    ∷ case "empty log" (call_parts (played_for (book_of (lent "x" 2) 1) (some []))) (0 ∷ 1 ∷ lent "x" 2)
    ∷ case "one order" (call_parts (played_for (book_of (lent "" 44) 0) (some (word r1for7 ∷ []))))
    (0 ∷ 44 ∷ lent "* T\n:PROPERTIES:\n:REQUEST: r1\n:VIN: 7\n:END:\n" 0)
    ∷ []

-- a log played n times: each time its number and bytes in use, then the book's bytes
unfoldable pub plays_in : ℕ → Book → List ℕ → List ℕ
plays_in zero b x = b.bytes
plays_in (suc n) b x = let c = played b x in c.number ∷ c.after.used ∷ plays_in n c.after x

infix 100 ◌book◌used◌log◌times◌answers◌leaves◌
unfoldable pub ◌book◌used◌log◌times◌answers◌leaves◌ : String → List ℕ → ℕ → List String → ℕ → List ℕ → List ℕ → Case
unfolding plays_in
w book b used u log ws times n answers ns leaves y = case w (plays_in n (book_of b u) (join (map word ws))) (ns ++ y)

-- orders of 23 bytes are written by their names
unfoldable pub log_cases : List Case
log_cases =
    "empty" book lent "x" 9 used 1 log [] times 1 answers (0 ∷ 1 ∷ []) leaves lent "x" 9
    ∷ "two orders, played twice" book lent "" 100 used 0 log ("\u{17}\0\0\0" ∷ r1for7 ∷ "\u{17}\0\0\0" ∷ r2for8 ∷ []) times 2 answers (0 ∷ 88 ∷ 0 ∷ 88 ∷ [])
    leaves lent "* T\n:PROPERTIES:\n:REQUEST: r1\n:VIN: 7\n:END:\n* T\n:PROPERTIES:\n:REQUEST: r2\n:VIN: 8\n:END:\n" 12
    ∷ "a double click inside" book lent "" 50 used 0 log ("\u{17}\0\0\0" ∷ r1for7 ∷ "\u{17}\0\0\0" ∷ r1for8 ∷ []) times 1 answers (0 ∷ 44 ∷ [])
    leaves lent "* T\n:PROPERTIES:\n:REQUEST: r1\n:VIN: 7\n:END:\n" 6
    -- 17, 12 for an empty order, 19
    ∷ "refused orders are passed over" book lent "" 50 used 0
    log ("\u{15}\0\0\0\u{1}\0T\u{2}\u{7}REQUEST\0\0\u{3}VIN\u{1}\07\0\0\0\0" ∷ "\u{17}\0\0\0" ∷ r2for8 ∷ "\u{17}\0\0\0" ∷ r2for8 ∷ []) times 1
    answers (0 ∷ 44 ∷ []) leaves lent "* T\n:PROPERTIES:\n:REQUEST: r2\n:VIN: 8\n:END:\n" 6
    ∷ "no room for the first, room for the second, played twice" book lent "" 44 used 0
    log ("\u{18}\0\0\0\u{1}\0T\u{2}\u{7}REQUEST\u{2}\0r1\u{3}VIN\u{2}\077" ∷ "\u{17}\0\0\0" ∷ r2for8 ∷ []) times 2 answers (0 ∷ 44 ∷ 0 ∷ 44 ∷ [])
    leaves lent "* T\n:PROPERTIES:\n:REQUEST: r2\n:VIN: 8\n:END:\n" 0
    ∷ "in use over the buffer" book lent "" 60 used 61 log ("\u{17}\0\0\0" ∷ r1for7 ∷ []) times 1 answers (0 ∷ 61 ∷ []) leaves lent "" 60
    ∷ "all refused" book lent "x" 9 used 1 log ("\0\0\0\0\u{1}\0\0\0a" ∷ []) times 1 answers (0 ∷ 1 ∷ []) leaves lent "x" 9
    -- 27 before any call: cut in a length, in the last order, a length far too big
    ∷ "27: in a length" book lent "x\n" 58 used 2 log ("\u{17}\0\0\0" ∷ r1for7 ∷ "\u{1}\0\0" ∷ []) times 1 answers (27 ∷ 2 ∷ []) leaves lent "x\n" 58
    ∷ "27: in the last order" book lent "x\n" 98 used 2 log ("\u{17}\0\0\0" ∷ r1for7 ∷ "\u{18}\0\0\0" ∷ r2for8 ∷ []) times 2 answers (27 ∷ 2 ∷ 27 ∷ 2 ∷ [])
    leaves lent "x\n" 98
    ∷ "27: one byte too long" book lent "" 60 used 0 log ("\u{17}\0\0\0" ∷ r1for7 ∷ "\0" ∷ []) times 1 answers (27 ∷ 0 ∷ []) leaves lent "" 60
    ∷ "27: a length far too big" book lent "x" 9 used 11 log ("ÿÿÿÿ" ∷ []) times 1 answers (27 ∷ 11 ∷ []) leaves lent "x" 9
    ∷ []

-- opens these cases and what they are cases of
unfoldable pub OpenLogCases : Type 1
unfolding OpenForms OpenLog run_cases ◌book◌used◌log◌times◌answers◌leaves◌ log_cases
OpenLogCases = Type 0
