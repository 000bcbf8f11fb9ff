-- What is put after the text in use: in turn 1, 16.
use Rattle.std.specs.Prelude.{List, [], ◌∷◌, ℕ, replicate}
use Prim.Native.String.{String}
use Rattle.text.specs.Runs.{word}
use Rattle.text.specs.Cases.{Case, case}
use Rattle.intake.specs.Book.{book_of}
use Rattle.intake.specs.Call.{appended, OpenCall}
use Rattle.intake.specs.Pinned.Forms.{call_parts, OpenForms}

-- a book and what is put there: the number, the bytes in use and the book after it
infix 100 ◌used◌puts◌answers◌used◌leaves◌
unfoldable pub ◌used◌puts◌answers◌used◌leaves◌ : String → ℕ → String → ℕ → ℕ → String → Case
w used u puts x answers n used m leaves y = case w (call_parts (appended (book_of (word w) u) (word x))) (n ∷ m ∷ word y)

-- room left over, exact, one byte less, none; with a refusal book and bytes in use are as before
unfoldable pub room_cases : List Case
room_cases =
    "abcdef" used 2 puts "XY" answers 0 used 4 leaves "abXYef"
    ∷ "abcd" used 2 puts "XY" answers 0 used 4 leaves "abXY"
    ∷ "abc" used 2 puts "XY" answers 16 used 2 leaves "abc"
    ∷ "ab" used 2 puts "XY" answers 16 used 2 leaves "ab"
    ∷ "ab" used 2 puts "" answers 0 used 2 leaves "ab"
    ∷ "" used 0 puts "" answers 0 used 0 leaves ""
    ∷ "" used 0 puts "X" answers 16 used 0 leaves ""
    -- 1 before 16: 65,537 bytes in all, and 65,536
    ∷ "abc" used 65535 puts "XY" answers 1 used 65535 leaves "abc"
    ∷ "abc" used 65534 puts "XY" answers 16 used 65534 leaves "abc"
    ∷ []

-- the same with room for them: number and bytes in use
unfoldable pub limit_cases : List Case
limit_cases =
    let putting : ℕ → List ℕ = λ u. let c = appended (book_of (replicate 65537 97) u) (word "XY") in c.number ∷ c.after.used ∷ [] in
    case "65,536" (putting 65534) (0 ∷ 65536 ∷ []) ∷ case "65,537" (putting 65535) (1 ∷ 65535 ∷ []) ∷ []

-- opens these cases and what they are cases of
unfoldable pub OpenAppendedCases : Type 1
unfolding OpenForms OpenCall ◌used◌puts◌answers◌used◌leaves◌ room_cases limit_cases
OpenAppendedCases = Type 0
