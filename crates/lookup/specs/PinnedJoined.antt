-- What is said of two texts in one, held to document 02 by computed examples, worked out by hand: an answer moved, and where heading lines start.
use Rattle.std.specs.Prelude.{List, [], ◌∷◌, ℕ}
use Prim.Native.String.{String}
use Rattle.std.specs.declared.result.Result.TheVariants.{Ok, Err}
use Rattle.text.specs.Runs.{word}
use Rattle.text.specs.Cases.{Case, case, OpenCases}
use Rattle.rules.specs.Headings.{OpenHeadings}
use Rattle.lookup.specs.declared.lookup.Refusal.TheVariants.{TooLong, NoHeading, BlankFirst, NotClosed, NotProperty, NoDrawer, NoKey, BadKey}
use Rattle.lookup.specs.Spans.{span}
use Rattle.lookup.specs.Lookup.{Answer, number, start, end, further}
use Rattle.lookup.specs.Joined.{shift, headings_from, heading_starts}

-- an answer, moved by 40 bytes, is one with a number, a part from a byte to a byte, and a further number
unfoldable pub moved_case : String → Answer → ℕ → ℕ → ℕ → ℕ → Case
moved_case w r n a e q = let m = shift 40 r in case w (number m ∷ start m ∷ end m ∷ further m ∷ []) (n ∷ a ∷ e ∷ q ∷ [])

unfoldable pub moved_cases : List Case
moved_cases =
    moved_case "a value" (Ok (span 23 25)) 0 63 65 0
    ∷ moved_case "an empty value" (Ok (span 22 22)) 0 62 62 0
    ∷ moved_case "a line that is no node property" (Err (NotProperty 17)) 9 0 0 57
    -- any other refusal stays as it is
    ∷ moved_case "too long" (Err TooLong) 1 0 0 0
    ∷ moved_case "no heading" (Err NoHeading) 4 0 0 0
    ∷ moved_case "no drawer" (Err NoDrawer) 5 0 0 0
    ∷ moved_case "no key" (Err NoKey) 6 0 0 0
    ∷ moved_case "bad key" (Err BadKey) 7 0 0 0
    ∷ moved_case "blank lines first" (Err BlankFirst) 8 0 0 0
    ∷ moved_case "not closed" (Err NotClosed) 10 0 0 0
    ∷ []

-- a text whose heading lines start at some bytes
infix 100 ◌headsAt◌
unfoldable pub ◌headsAt◌ : String → List ℕ → Case
w headsAt ps = case w (heading_starts (word w)) ps

unfoldable pub heads_cases : List Case
heads_cases =
    "" headsAt []
    ∷ "x\n" headsAt []
    ∷ "* A\n** B\nx\n* C\n" headsAt (0 ∷ 4 ∷ 11 ∷ [])
    -- the last line may lack its byte 10
    ∷ "x\n* A" headsAt (2 ∷ [])
    ∷ "* " headsAt (0 ∷ [])
    -- stars from the first byte, then byte 32
    ∷ "*\n*A\n * B\n*\tC\n**" headsAt []
    ∷ "*\n* A\n*" headsAt (2 ∷ [])
    -- headings come first, whatever they stand in
    ∷ "* A\r\n:PROPERTIES:\n* B\n:END:\n" headsAt (0 ∷ 18 ∷ [])
    ∷ []

-- opens these cases and what they are cases of
unfoldable pub OpenJoinedCases : Type 1
unfolding OpenCases OpenHeadings shift headings_from heading_starts moved_case moved_cases ◌headsAt◌ heads_cases
OpenJoinedCases = Type 0
