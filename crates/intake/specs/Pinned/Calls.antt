-- Calls on one book, each handed the bytes in use that the last gave.
use Rattle.std.specs.Prelude.{List, [], ◌∷◌, ◌++◌, ℕ}
use Prim.Native.String.{String}
use Rattle.text.specs.Runs.{word}
use Rattle.text.specs.Cases.{Case, case}
use Rattle.intake.specs.Book.{Book, book_of}
use Rattle.intake.specs.Call.{call, OpenCall}
use Rattle.intake.specs.Pinned.Forms.{lent, r1for7, r1for8, r2for8, OpenForms}

-- each call's number and bytes in use, then the book's bytes
unfoldable pub calls_in : Book → List String → List ℕ
calls_in b [] = b.bytes
calls_in b (w ∷ ws) = let c = call b (word w) in c.number ∷ c.after.used ∷ calls_in c.after ws

infix 100 ◌book◌used◌orders◌answers◌leaves◌
unfoldable pub ◌book◌used◌orders◌answers◌leaves◌ : String → List ℕ → ℕ → List String → List ℕ → List ℕ → Case
unfolding calls_in
w book b used u orders ws answers ns leaves y = case w (calls_in (book_of b u) ws) (ns ++ y)

-- accepted: what is past the new sheet stays as it was
unfoldable pub accepted_cases : List Case
accepted_cases =
    "into an empty book" book lent "" 60 used 0 orders (r1for7 ∷ []) answers (0 ∷ 44 ∷ []) leaves lent "* T\n:PROPERTIES:\n:REQUEST: r1\n:VIN: 7\n:END:\n" 16
    ∷ "last line has its byte 10" book lent "* Z\n" 56 used 4 orders (r1for7 ∷ []) answers (0 ∷ 48 ∷ [])
    leaves lent "* Z\n* T\n:PROPERTIES:\n:REQUEST: r1\n:VIN: 7\n:END:\n" 12
    ∷ "last line lacks byte 10" book lent "* Z" 57 used 3 orders (r1for7 ∷ []) answers (0 ∷ 48 ∷ [])
    leaves lent "* Z\n* T\n:PROPERTIES:\n:REQUEST: r1\n:VIN: 7\n:END:\n" 12
    ∷ "only the bytes in use are the book" book lent "* Z\nrest" 52 used 4 orders (r1for7 ∷ []) answers (0 ∷ 48 ∷ [])
    leaves lent "* Z\n* T\n:PROPERTIES:\n:REQUEST: r1\n:VIN: 7\n:END:\n" 12
    ∷ "byte 10 past the bytes in use" book lent "* Z\n" 56 used 3 orders (r1for7 ∷ []) answers (0 ∷ 48 ∷ [])
    leaves lent "* Z\n* T\n:PROPERTIES:\n:REQUEST: r1\n:VIN: 7\n:END:\n" 12
    ∷ "request past the bytes in use" book lent "* T\n:PROPERTIES:\n:REQUEST: r1\n:VIN: 7\n:END:\n" 16 used 0 orders (r1for8 ∷ []) answers (0 ∷ 44 ∷ [])
    leaves lent "* T\n:PROPERTIES:\n:REQUEST: r1\n:VIN: 8\n:END:\n" 16
    ∷ "drawer's end past the bytes in use" book lent "* T\n:PROPERTIES:\n:REQUEST: r1\n:VIN: 7\n:END:\n" 40 used 38 orders (r1for8 ∷ []) answers (0 ∷ 82 ∷ [])
    leaves lent "* T\n:PROPERTIES:\n:REQUEST: r1\n:VIN: 7\n* T\n:PROPERTIES:\n:REQUEST: r1\n:VIN: 8\n:END:\n" 2
    ∷ "an opener left open in the book" book lent "#+begin_src" 49 used 11 orders (r1for7 ∷ []) answers (0 ∷ 56 ∷ [])
    leaves lent "#+begin_src\n* T\n:PROPERTIES:\n:REQUEST: r1\n:VIN: 7\n:END:\n" 4
    ∷ "an ordinary drawer" book lent "* S\n\n:PROPERTIES:\n:REQUEST: r1\n:END:\n" 63 used 37 orders (r1for7 ∷ []) answers (0 ∷ 81 ∷ [])
    leaves lent "* S\n\n:PROPERTIES:\n:REQUEST: r1\n:END:\n* T\n:PROPERTIES:\n:REQUEST: r1\n:VIN: 7\n:END:\n" 19
    ∷ "room exact" book lent "* Z\n" 44 used 4 orders (r1for7 ∷ []) answers (0 ∷ 48 ∷ []) leaves lent "* Z\n* T\n:PROPERTIES:\n:REQUEST: r1\n:VIN: 7\n:END:\n" 0
    ∷ "room exact, with byte 10" book lent "* Z" 45 used 3 orders (r1for7 ∷ []) answers (0 ∷ 48 ∷ [])
    leaves lent "* Z\n* T\n:PROPERTIES:\n:REQUEST: r1\n:VIN: 7\n:END:\n" 0
    ∷ "keys in any case, in either order, among others" book lent "" 51 used 0
    orders ("\0\0\u{3}\u{3}vin\u{1}\07\u{1}N\0\0\u{7}Request\u{2}\0r1" ∷ r1for7 ∷ []) answers (0 ∷ 47 ∷ 19 ∷ 47 ∷ [])
    leaves lent "* \n:PROPERTIES:\n:vin: 7\n:N:\n:Request: r1\n:END:\n" 4
    ∷ []

-- refused: book and bytes in use as before
unfoldable pub refused_cases : List Case
refused_cases =
    "order 5's, before 17 and 18" book lent "" 60 used 61
    orders ("" ∷ "\u{1}\0 \0" ∷ "\0\0\u{1}\0\0\0" ∷ "\0\0\u{2}\u{1}a\0\0\u{1}A\0\0" ∷ []) answers (12 ∷ 61 ∷ 13 ∷ 61 ∷ 14 ∷ 61 ∷ 15 ∷ 61 ∷ []) leaves lent "" 60
    ∷ "order 5's, before 19" book lent "* S\n:PROPERTIES:\n:REQUEST: r1\n:END:\n" 9 used 36 orders ("\u{1}\0 \u{2}\u{7}REQUEST\u{2}\0r1\u{3}VIN\u{1}\07" ∷ [])
    answers (13 ∷ 36 ∷ []) leaves lent "* S\n:PROPERTIES:\n:REQUEST: r1\n:END:\n" 9
    ∷ "17: no REQUEST" book lent "x" 59 used 1 orders ("\u{1}\0T\u{1}\u{3}VIN\u{1}\07" ∷ []) answers (17 ∷ 1 ∷ []) leaves lent "x" 59
    ∷ "17: empty REQUEST" book lent "x" 59 used 1 orders ("\u{1}\0T\u{2}\u{7}REQUEST\0\0\u{3}VIN\u{1}\07" ∷ []) answers (17 ∷ 1 ∷ []) leaves lent "x" 59
    ∷ "17: no VIN" book lent "x" 59 used 1 orders ("\u{1}\0T\u{1}\u{7}REQUEST\u{1}\07" ∷ []) answers (17 ∷ 1 ∷ []) leaves lent "x" 59
    ∷ "17: empty VIN" book lent "x" 59 used 1 orders ("\u{1}\0T\u{2}\u{7}REQUEST\u{2}\0r1\u{3}VIN\0\0" ∷ []) answers (17 ∷ 1 ∷ []) leaves lent "x" 59
    ∷ "17 before 18" book lent "" 60 used 61 orders ("\u{1}\0T\u{2}\u{7}REQUEST\0\0\u{3}VIN\u{1}\07" ∷ []) answers (17 ∷ 61 ∷ []) leaves lent "" 60
    ∷ "18: in use over the buffer" book lent "" 60 used 61 orders (r1for7 ∷ []) answers (18 ∷ 61 ∷ []) leaves lent "" 60
    ∷ "16: in use is the buffer" book lent "" 60 used 60 orders (r1for7 ∷ []) answers (16 ∷ 60 ∷ []) leaves lent "" 60
    ∷ "16: one byte too little" book lent "* Z\n" 43 used 4 orders (r1for7 ∷ []) answers (16 ∷ 4 ∷ []) leaves lent "* Z\n" 43
    ∷ "16: one byte too little, byte 10 counts" book lent "* Z" 44 used 3 orders (r1for7 ∷ []) answers (16 ∷ 3 ∷ []) leaves lent "* Z" 44
    ∷ "19: at some heading, any case of the key" book lent "** S\n:properties:\n:a: 1\n:request: r1\n:end:\n" 57 used 43 orders (r1for7 ∷ [])
    answers (19 ∷ 43 ∷ [])
    leaves lent "** S\n:properties:\n:a: 1\n:request: r1\n:end:\n" 57
    ∷ []

-- several calls: a double click, the same request for another car, another request, a request that differs in case
unfoldable pub several_cases : List Case
several_cases =
    "no call" book lent "x" 2 used 1 orders [] answers [] leaves lent "x" 2
    ∷ "a double click, another car, another request, again" book lent "" 88 used 0 orders (r1for7 ∷ r1for7 ∷ r1for8 ∷ r2for8 ∷ r1for7 ∷ r2for8 ∷ [])
    answers (0 ∷ 44 ∷ 19 ∷ 44 ∷ 19 ∷ 44 ∷ 0 ∷ 88 ∷ 19 ∷ 88 ∷ 19 ∷ 88 ∷ [])
    leaves lent "* T\n:PROPERTIES:\n:REQUEST: r1\n:VIN: 7\n:END:\n* T\n:PROPERTIES:\n:REQUEST: r2\n:VIN: 8\n:END:\n" 0
    ∷ "byte for byte" book lent "" 90 used 0 orders (r1for7 ∷ "\u{1}\0T\u{2}\u{7}REQUEST\u{2}\0R1\u{3}VIN\u{1}\07" ∷ []) answers (0 ∷ 44 ∷ 0 ∷ 88 ∷ [])
    leaves lent "* T\n:PROPERTIES:\n:REQUEST: r1\n:VIN: 7\n:END:\n* T\n:PROPERTIES:\n:REQUEST: R1\n:VIN: 7\n:END:\n" 2
    ∷ []

-- opens these cases and what they are cases of
unfoldable pub OpenCallCases : Type 1
unfolding OpenForms OpenCall ◌book◌used◌orders◌answers◌leaves◌ accepted_cases refused_cases several_cases
OpenCallCases = Type 0
