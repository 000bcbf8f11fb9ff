-- A request that is in the book: looked up by `REQUEST`, byte for byte, at some heading.
use Rattle.std.specs.Prelude.{true, false, List, [], ◌∷◌, ℕ, eqb}
use Prim.Native.String.{String}
use Rattle.text.specs.Runs.{word}
use Rattle.text.specs.Cases.{Case, case, ◌holds◌fails◌, below}
use Rattle.sheet.specs.Pinned.Forms.{truths}
use Rattle.intake.specs.Seen.{looks_up, some_below, seen, OpenSeen}
use Rattle.intake.specs.Pinned.Forms.{OpenForms}

-- the bytes of a text at which a key looks a value up
infix 100 ◌key◌value◌at◌
unfoldable pub ◌key◌value◌at◌ : String → String → String → List ℕ → Case
s key k value v at ps = case s (below 60 (looks_up (word s) (word k) (word v)) []) ps

unfoldable pub looks_up_cases : List Case
looks_up_cases =
    "* A\n:PROPERTIES:\n:N: xy\n:M:\n:END:\n" key "N" value "xy" at (0 ∷ [])
    ∷ "* A\n:PROPERTIES:\n:N: xy\n:M:\n:END:\n" key "n" value "xy" at (0 ∷ [])
    ∷ "* A\n:PROPERTIES:\n:N: xy\n:M:\n:END:\n" key "N" value "x" at []
    ∷ "* A\n:PROPERTIES:\n:N: xy\n:M:\n:END:\n" key "N" value "xyz" at []
    ∷ "* A\n:PROPERTIES:\n:N: xy\n:M:\n:END:\n" key "N" value "xY" at []
    ∷ "* A\n:PROPERTIES:\n:N: xy\n:M:\n:END:\n" key "M" value "xy" at []
    -- an empty value is found; where nothing is found there is none
    ∷ "* A\n:PROPERTIES:\n:N: xy\n:M:\n:END:\n" key "M" value "" at (0 ∷ [])
    ∷ "* A\n:PROPERTIES:\n:N: xy\n:M:\n:END:\n" key "N" value "" at []
    ∷ "* A\n:PROPERTIES:\n:N: xy\n:M:\n:END:\n" key "O" value "" at []
    ∷ "* A\n:PROPERTIES:\n:N: xy\n:M:\n:END:\n" key "M+" value "" at []
    ∷ "" key "N" value "" at []
    -- at one heading of two, and at both
    ∷ "* A\n* B\n:PROPERTIES:\n:N: x\n:END:\n" key "N" value "x" at (4 ∷ [])
    ∷ "* A\n:PROPERTIES:\n:N: x\n:END:\n** B\n:PROPERTIES:\n:N: x\n:END:" key "N" value "x" at (0 ∷ 29 ∷ [])
    ∷ []

-- tests of numbers below n
unfoldable pub below_cases : List Case
below_cases =
    case "below 0" (truths (some_below 0 (λ p. true) ∷ some_below 0 (eqb 0) ∷ [])) (0 ∷ 0 ∷ [])
    ∷ case "below 1" (truths (some_below 1 (eqb 0) ∷ some_below 1 (eqb 1) ∷ [])) (1 ∷ 0 ∷ [])
    ∷ case "below 3" (truths (some_below 3 (eqb 0) ∷ some_below 3 (eqb 1) ∷ some_below 3 (eqb 2) ∷ some_below 3 (eqb 3) ∷ [])) (1 ∷ 1 ∷ 1 ∷ 0 ∷ [])
    ∷ case "all and none" (truths (some_below 3 (λ p. true) ∷ some_below 3 (λ p. false) ∷ [])) (1 ∷ 0 ∷ [])
    ∷ []

-- request r1 in a book
unfoldable pub seen_cases : List Case
seen_cases =
    (λ s. seen s (word "r1"))
    holds
    -- a sheet of ours; the key in any case, with `+`, after another key, with blank bytes around the value, with byte 13
    ("* T\n:PROPERTIES:\n:REQUEST: r1\n:VIN: 7\n:END:\n" ∷ "* A\n:properties:\n:N: x\n:ReQuest:   r1 \t\r\n:end:" ∷ "* A\n:PROPERTIES:\n:request+: r1\n:END:\n"
    -- the first of two lines; after a planning line; an inner heading; after an open block
    ∷ "* A\n:PROPERTIES:\n:REQUEST: r1\n:REQUEST: r2\n:END:\n" ∷ "* A\nCLOSED: [2026-11-16]\n:PROPERTIES:\n:REQUEST: r1\n:END:\n"
    ∷ "x\n* A\n** B\n:PROPERTIES:\n:REQUEST: r1\n:END:\n" ∷ "#+begin_src\n* \n:PROPERTIES:\n:REQUEST: r1\n:END:\n"
    -- the first of two headings, the last
    ∷ "* A\n:PROPERTIES:\n:REQUEST: r1\n:END:\n* B\n:PROPERTIES:\n:REQUEST: r2\n:END:\n"
    ∷ "* A\n:PROPERTIES:\n:REQUEST: r2\n:END:\n* B\n:PROPERTIES:\n:REQUEST: r1\n:END:\n"
    ∷ [])
    fails
    -- no heading; another value; another key
    ("" ∷ ":PROPERTIES:\n:REQUEST: r1\n:END:\n" ∷ "*A\n:PROPERTIES:\n:REQUEST: r1\n:END:\n" ∷ " * A\n:PROPERTIES:\n:REQUEST: r1\n:END:\n"
    ∷ "* A\n:PROPERTIES:\n:REQUEST: R1\n:END:\n" ∷ "* A\n:PROPERTIES:\n:REQUEST: r\n:END:\n" ∷ "* A\n:PROPERTIES:\n:REQUEST: r12\n:END:\n"
    ∷ "* A\n:PROPERTIES:\n:REQUEST: r1 x\n:END:\n" ∷ "* A\n:PROPERTIES:\n:REQUEST:\n:END:\n" ∷ "* r1\n:PROPERTIES:\n:VIN: r1\n:REQUESTS: r1\n:END:\n"
    -- after a blank line; not closed; closed past the next heading; with a foreign line; the second of two lines; no planning line; another drawer
    ∷ "* A\n\n:PROPERTIES:\n:REQUEST: r1\n:END:\n" ∷ "* A\n:PROPERTIES:\n:REQUEST: r1\n" ∷ "* A\n:PROPERTIES:\n:REQUEST: r1\n* B\n:END:\n"
    ∷ "* A\n:PROPERTIES:\n:REQUEST: r1\nhi\n:END:\n" ∷ "* A\n:PROPERTIES:\n:REQUEST: r2\n:REQUEST: r1\n:END:\n"
    ∷ "* A\nCLOSED: soon\n:PROPERTIES:\n:REQUEST: r1\n:END:\n" ∷ "* A\n:LOGBOOK:\n:REQUEST: r1\n:END:\n"
    ∷ [])

-- other requests: with a blank byte inside, with bytes over 127, as a part of another, empty
unfoldable pub value_seen_cases : List Case
value_seen_cases =
    (λ v. seen (word "* A\n:PROPERTIES:\n:REQUEST: a  é\n:END:\n") v) holds ("a  é" ∷ []) fails ("a é" ∷ "a  É" ∷ "a" ∷ "é" ∷ "a  é " ∷ "" ∷ [])

-- opens these cases and what they are cases of
unfoldable pub OpenSeenCases : Type 1
unfolding OpenForms OpenSeen ◌key◌value◌at◌ looks_up_cases below_cases seen_cases value_seen_cases
OpenSeenCases = Type 0
