-- Lookups, sheets, timestamps and planning lines in numbers, held to cases worked out by hand.
use Rattle.std.specs.Prelude.{◌≡◌, List, [], ◌∷◌, ◌++◌, ℕ}
use Prim.Native.String.{String}
use Rattle.text.specs.Runs.{word}
use Rattle.text.specs.Parts.{OpenParts}
use Rattle.text.specs.Cases.{Case, case, OpenCases}
use Rattle.dates.specs.Planning.{OpenPlanning}
use Rattle.table.specs.Reading.{OpenReading}
use Rattle.lookup.specs.Stages.{heading_at}
use Rattle.lookup.specs.Planning.{body_after, planning}
use Rattle.comaltzex.specs.Numbers.{LooksUpAs, SourcesAs, WritesAs, stamp_at, plan_at}
use Rattle.comaltzex.specs.declared.value.Value.{Value}
use Rattle.comaltzex.specs.declared.value.SourcedValue.{SourcedValue}
use Rattle.comaltzex.specs.declared.Written.{Written}
use Rattle.comaltzex.specs.declared.stamp.IntervalNumbers.{IntervalNumbers}
use Rattle.comaltzex.specs.declared.stamp.MomentNumbers.{MomentNumbers}
use Rattle.comaltzex.specs.declared.stamp.Stamp.{Stamp}

-- whatever answers a lookup of a VIN under the first heading line of a text has a number, a part and a further number
infix 100 ◌answers◌from◌to◌and◌
abbrev pub ◌answers◌from◌to◌and◌ : String → ℕ → ℕ → ℕ → ℕ → Type 0
w answers n from a to e and q = (r : Value) → LooksUpAs (word w) 0 (word "VIN") r → (r.number ≡ n) × (r.start ≡ a) × (r.end ≡ e) × (r.further ≡ q)

-- whatever answers a lookup of a key under the first heading line of an order text, with a defaults text, has a number, whose answer it is, a
-- part and a further number
infix 100 ◌with◌key◌answers◌of◌from◌to◌and◌
abbrev pub ◌with◌key◌answers◌of◌from◌to◌and◌ : String → String → String → ℕ → ℕ → ℕ → ℕ → ℕ → Type 0
w with d key k answers n of m from a to e and q =
    (r : SourcedValue) → SourcesAs (word w) 0 (word d) (word k) r
    → (r.number ≡ n) × (r.whose ≡ m) × (r.start ≡ a) × (r.end ≡ e) × (r.further ≡ q)

-- whatever answers a sheet call with an order's buffer and an output has a number and a count, and leaves these bytes
infix 100 ◌into◌answers◌count◌leaves◌
abbrev pub ◌into◌answers◌count◌leaves◌ : List ℕ → String → ℕ → ℕ → String → Type 0
x into t answers n count c leaves y = (r : Written) (t' : List ℕ) → WritesAs x (word t) r t' → (r.number ≡ n) × (r.count ≡ c) × (t' ≡ word y)

-- the numbers of a date in their order: the date, the time, the repeater, the delay, and whether the delay stands first
unfoldable pub interval_list : IntervalNumbers → List ℕ
interval_list i = i.count ∷ i.unit ∷ []

unfoldable pub moment_list : MomentNumbers → List ℕ
unfolding interval_list
moment_list m =
    (m.date.year ∷ m.date.month ∷ m.date.day ∷ m.clock.has ∷ m.clock.hour ∷ m.clock.minute ∷ [])
    ++ (m.repeat.mark ∷ []) ++ interval_list m.repeat.every ++ interval_list m.repeat.within
    ++ (m.delay.mark ∷ []) ++ interval_list m.delay.by ++ (m.swapped ∷ [])

-- a text with a timestamp at byte p: its kind, its end and its two dates
infix 100 ◌at◌stamps◌to◌first◌second◌
unfoldable pub ◌at◌stamps◌to◌first◌second◌ : String → ℕ → ℕ → ℕ → List ℕ → List ℕ → Case
unfolding moment_list
w at p stamps k to e first a second b =
    let r = stamp_at (word w) p in
    case w (r.kind ∷ r.end ∷ moment_list r.first ++ moment_list r.second) (k ∷ e ∷ a ++ b)

unfoldable pub no_numbers : List ℕ
no_numbers = 0 ∷ 0 ∷ 0 ∷ 0 ∷ 0 ∷ 0 ∷ 0 ∷ 0 ∷ 0 ∷ 0 ∷ 0 ∷ 0 ∷ 0 ∷ 0 ∷ 0 ∷ []

-- a date with a time or none, and neither repeater nor delay
unfoldable pub plain : List ℕ → List ℕ
plain x = x ++ (0 ∷ 0 ∷ 0 ∷ 0 ∷ 0 ∷ 0 ∷ 0 ∷ 0 ∷ 0 ∷ [])

unfoldable pub stamp_cases : List Case
stamp_cases =
    "x <2026-11-16>" at 2 stamps 1 to 14 first plain (2026 ∷ 11 ∷ 16 ∷ 0 ∷ 0 ∷ 0 ∷ []) second no_numbers
    ∷ "[2026-11-16 Mon 9:05]." at 0 stamps 4 to 21 first plain (2026 ∷ 11 ∷ 16 ∷ 1 ∷ 9 ∷ 5 ∷ []) second no_numbers
    -- a repeater with and without a limit, a delay, both in either order
    ∷ "<2026-11-16 +2w>" at 0 stamps 1 to 16 first (2026 ∷ 11 ∷ 16 ∷ 0 ∷ 0 ∷ 0 ∷ 1 ∷ 2 ∷ 119 ∷ 0 ∷ 0 ∷ 0 ∷ 0 ∷ 0 ∷ 0 ∷ []) second no_numbers
    ∷ "<2026-11-16 ++2W/3m>" at 0 stamps 1 to 20 first (2026 ∷ 11 ∷ 16 ∷ 0 ∷ 0 ∷ 0 ∷ 2 ∷ 2 ∷ 119 ∷ 3 ∷ 109 ∷ 0 ∷ 0 ∷ 0 ∷ 0 ∷ []) second no_numbers
    ∷ "<2026-11-16 -4d>" at 0 stamps 1 to 16 first (2026 ∷ 11 ∷ 16 ∷ 0 ∷ 0 ∷ 0 ∷ 0 ∷ 0 ∷ 0 ∷ 0 ∷ 0 ∷ 1 ∷ 4 ∷ 100 ∷ 0 ∷ []) second no_numbers
    ∷ "<2026-11-16 .+2y --4h>" at 0 stamps 1 to 22 first (2026 ∷ 11 ∷ 16 ∷ 0 ∷ 0 ∷ 0 ∷ 3 ∷ 2 ∷ 121 ∷ 0 ∷ 0 ∷ 2 ∷ 4 ∷ 104 ∷ 0 ∷ []) second no_numbers
    ∷ "<2026-11-16 --4h .+2y>" at 0 stamps 1 to 22 first (2026 ∷ 11 ∷ 16 ∷ 0 ∷ 0 ∷ 0 ∷ 3 ∷ 2 ∷ 121 ∷ 0 ∷ 0 ∷ 2 ∷ 4 ∷ 104 ∷ 1 ∷ []) second no_numbers
    -- a time range has its date again; a second date has its own numbers
    ∷ "<2026-11-16 9:05-10:15 +2w>" at 0 stamps 2 to 27 first (2026 ∷ 11 ∷ 16 ∷ 1 ∷ 9 ∷ 5 ∷ 1 ∷ 2 ∷ 119 ∷ 0 ∷ 0 ∷ 0 ∷ 0 ∷ 0 ∷ 0 ∷ [])
    second plain (2026 ∷ 11 ∷ 16 ∷ 1 ∷ 10 ∷ 15 ∷ [])
    ∷ "[2026-11-16 9:05-10:15]" at 0 stamps 5 to 23 first plain (2026 ∷ 11 ∷ 16 ∷ 1 ∷ 9 ∷ 5 ∷ []) second plain (2026 ∷ 11 ∷ 16 ∷ 1 ∷ 10 ∷ 15 ∷ [])
    ∷ "<2026-11-16>--<2026-11-17 9:05 -4d>" at 0 stamps 3 to 35 first plain (2026 ∷ 11 ∷ 16 ∷ 0 ∷ 0 ∷ 0 ∷ [])
    second (2026 ∷ 11 ∷ 17 ∷ 1 ∷ 9 ∷ 5 ∷ 0 ∷ 0 ∷ 0 ∷ 0 ∷ 0 ∷ 1 ∷ 4 ∷ 100 ∷ 0 ∷ [])
    ∷ "[2026-11-16]--[2026-11-17]" at 0 stamps 6 to 26 first plain (2026 ∷ 11 ∷ 16 ∷ 0 ∷ 0 ∷ 0 ∷ []) second plain (2026 ∷ 11 ∷ 17 ∷ 0 ∷ 0 ∷ 0 ∷ [])
    -- none: another byte, the text's end, past it
    ∷ "<2026-11-16>" at 1 stamps 0 to 0 first no_numbers second no_numbers
    ∷ "<2026-11-16>" at 12 stamps 0 to 0 first no_numbers second no_numbers
    ∷ "<2026-11-16>" at 13 stamps 0 to 0 first no_numbers second no_numbers
    ∷ []

-- the planning line of the heading at byte p: the answer's number, and of each keyword's stamp the kind and the day
infix 100 ◌at◌plans◌closed◌deadline◌scheduled◌
unfoldable pub ◌at◌plans◌closed◌deadline◌scheduled◌ : String → ℕ → ℕ → List ℕ → List ℕ → List ℕ → Case
w at p plans n closed a deadline b scheduled c =
    let r = plan_at (word w) p in
    let brief : Stamp → List ℕ = λ x. x.kind ∷ x.first.date.day ∷ [] in
    case w (r.number ∷ brief r.closed ++ brief r.deadline ++ brief r.scheduled) (n ∷ a ++ b ++ c)

unfoldable pub plan_cases : List Case
plan_cases =
    "* A\nCLOSED: [2026-11-15] DEADLINE: <2026-11-17 9:05-10:15> SCHEDULED: <2026-11-16>" at 0 plans 0 closed (4 ∷ 15 ∷ []) deadline (2 ∷ 17 ∷ [])
    scheduled (1 ∷ 16 ∷ [])
    ∷ "* A\nDEADLINE: <2026-11-17>" at 0 plans 0 closed (0 ∷ 0 ∷ []) deadline (1 ∷ 17 ∷ []) scheduled (0 ∷ 0 ∷ [])
    ∷ "* A\nDEADLINE: soon" at 0 plans 0 closed (0 ∷ 0 ∷ []) deadline (0 ∷ 0 ∷ []) scheduled (0 ∷ 0 ∷ [])
    ∷ "* A\nDEADLINE: <2026-11-17>" at 4 plans 4 closed (0 ∷ 0 ∷ []) deadline (0 ∷ 0 ∷ []) scheduled (0 ∷ 0 ∷ [])
    ∷ []

-- opens these cases and what they are cases of
unfoldable pub OpenStampCases : Type 1
unfolding OpenParts OpenCases OpenReading OpenPlanning heading_at body_after planning ◌at◌stamps◌to◌first◌second◌ no_numbers plain stamp_cases
    ◌at◌plans◌closed◌deadline◌scheduled◌ plan_cases
OpenStampCases = Type 0
