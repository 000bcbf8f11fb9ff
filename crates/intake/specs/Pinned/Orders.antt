-- The orders of a log, each after its length in four bytes, low first; and a log's form.
use Rattle.std.specs.Prelude.{refl, List, [], ◌∷◌, ℕ, replicate}
use Prim.Native.String.{String}
use Rattle.text.specs.Runs.{word}
use Rattle.text.specs.Cases.{Case, case}
use Rattle.sheet.specs.Form.{Entry}
use Rattle.sheet.specs.Pinned.Forms.{told, found, there, missing}
use Rattle.intake.specs.Log.{log_width, orders_from, orders_in, OpenLog}
use Rattle.intake.specs.Form.{log_bytes, orders_of}
use Rattle.intake.specs.Pinned.Forms.{OpenForms}

-- the orders of a log, found in n steps, and in as many as it needs
unfoldable pub steps_case : ℕ → String → List ℕ → Case
steps_case n w ns = case w (found (λ os. os) (orders_from n (word w))) ns

unfoldable pub orders_case : String → List ℕ → Case
orders_case w ns = case w (found (λ os. os) (orders_in (word w))) ns

unfoldable pub orders_cases : List Case
orders_cases =
    steps_case 0 "" (there [])
    ∷ steps_case 0 "\0" missing
    ∷ steps_case 0 "\0\0\0\0" missing
    ∷ steps_case 1 "" (there [])
    ∷ steps_case 1 "\0\0\0\0" (there ("" ∷ []))
    ∷ steps_case 1 "\u{1}\0\0\0a\0\0\0\0" missing
    ∷ steps_case 2 "\u{1}\0\0\0a\0\0\0\0" (there ("a" ∷ "" ∷ []))
    ∷ orders_case "" (there [])
    ∷ orders_case "\0\0\0\0" (there ("" ∷ []))
    ∷ orders_case "\0\0\0\0\0\0\0\0" (there ("" ∷ "" ∷ []))
    ∷ orders_case "\u{2}\0\0\0ab" (there ("ab" ∷ []))
    ∷ orders_case "\u{2}\0\0\0ab\u{1}\0\0\0c\0\0\0\0" (there ("ab" ∷ "c" ∷ "" ∷ []))
    -- cut short in a length, the first's, a later one's
    ∷ orders_case "\0" missing
    ∷ orders_case "\0\0\0" missing
    ∷ orders_case "\u{1}\0\0\0ab" missing
    ∷ orders_case "\u{1}\0\0\0a\0\0\0" missing
    -- in an order, the first, a later one
    ∷ orders_case "\u{1}\0\0\0" missing
    ∷ orders_case "\u{2}\0\0\0a" missing
    ∷ orders_case "\u{1}\0\0\0a\u{2}\0\0\0b" missing
    -- lengths far too big; not low byte first
    ∷ orders_case "ÿÿÿÿab" missing
    ∷ orders_case "\0\u{1}\0\0ab" missing
    ∷ orders_case "\0\0\0\u{2}ab" missing
    -- 257 bytes
    ∷ case "257" (found (λ os. os) (orders_in (1 ∷ 1 ∷ 0 ∷ 0 ∷ replicate 257 97))) (1 ∷ 257 ∷ replicate 257 97)
    ∷ []

-- two entries of a log, one empty, as bytes and as orders
unfoldable pub entries : List (Entry log_width)
unfolding OpenLog
entries =
    record { head = 2 ∷ 0 ∷ 0 ∷ 0 ∷ []; bytes = 97 ∷ 98 ∷ []; size = refl; counted = refl }
    ∷ record { head = 0 ∷ 0 ∷ 0 ∷ 0 ∷ []; bytes = []; size = refl; counted = refl }
    ∷ []

unfoldable pub form_cases : List Case
unfolding entries
form_cases =
    case "no entry" (told (log_bytes [] ∷ orders_of [])) (told ([] ∷ []))
    ∷ case "bytes" (log_bytes entries) (word "\u{2}\0\0\0ab\0\0\0\0")
    ∷ case "orders" (told (orders_of entries)) (told (word "ab" ∷ [] ∷ []))
    ∷ case "found" (found (λ os. os) (orders_in (log_bytes entries))) (there ("ab" ∷ "" ∷ []))
    ∷ []

-- opens these cases and what they are cases of
unfoldable pub OpenOrderCases : Type 1
unfolding OpenForms OpenLog log_bytes orders_of steps_case orders_case orders_cases form_cases
OpenOrderCases = Type 0
