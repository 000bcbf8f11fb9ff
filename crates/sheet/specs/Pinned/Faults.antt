-- What an order is refused for, and in which turn.
use Rattle.std.specs.Prelude.{List, [], ◌∷◌, ◌++◌, ℕ}
use Prim.Native.String.{String}
use Rattle.text.specs.Runs.{word}
use Rattle.text.specs.Cases.{Case, case, ◌holds◌fails◌, below}
use Rattle.sheet.specs.Order.{has_key, value_for}
use Rattle.sheet.specs.Faults.{is_break, starts_blank, ends_blank, is_bad_text, has_bad_text, is_bad_name, has_bad_name, repeats, Judged, Refused, Good, judged_order, judged, OpenFaults}
use Rattle.sheet.specs.Pinned.Forms.{told, found, missing, there, order_parts, pairs_of, order_of, truths, OpenForms}

-- the bytes that a text or a key may not have, at each place
unfoldable pub byte_cases : List Case
byte_cases =
    case "breaks" (below 256 is_break []) (10 ∷ 13 ∷ [])
    ∷ case "blank at the start" (below 256 (λ b. starts_blank (b ∷ word "aa")) []) (9 ∷ 13 ∷ 32 ∷ [])
    ∷ case "blank at the end" (below 256 (λ b. ends_blank (97 ∷ 97 ∷ b ∷ [])) []) (9 ∷ 13 ∷ 32 ∷ [])
    ∷ case "a text" (below 256 (λ b. is_bad_text (b ∷ [])) []) (9 ∷ 10 ∷ 13 ∷ 32 ∷ [])
    ∷ case "at its start" (below 256 (λ b. is_bad_text (b ∷ word "aa")) []) (9 ∷ 10 ∷ 13 ∷ 32 ∷ [])
    ∷ case "inside it" (below 256 (λ b. is_bad_text (97 ∷ b ∷ word "a")) []) (10 ∷ 13 ∷ [])
    ∷ case "at its end" (below 256 (λ b. is_bad_text (97 ∷ 97 ∷ b ∷ [])) []) (9 ∷ 10 ∷ 13 ∷ 32 ∷ [])
    ∷ case "a key" (below 256 (λ b. is_bad_name (b ∷ [])) []) (9 ∷ 10 ∷ 13 ∷ 32 ∷ 43 ∷ [])
    ∷ case "at its start" (below 256 (λ b. is_bad_name (b ∷ word "a")) []) (9 ∷ 10 ∷ 13 ∷ 32 ∷ [])
    ∷ case "inside it" (below 256 (λ b. is_bad_name (97 ∷ b ∷ word "a")) []) (9 ∷ 10 ∷ 13 ∷ 32 ∷ [])
    ∷ case "at its end" (below 256 (λ b. is_bad_name (97 ∷ b ∷ [])) []) (9 ∷ 10 ∷ 13 ∷ 32 ∷ 43 ∷ [])
    ∷ []

-- with byte 10 or 13, or a blank byte at either end
unfoldable pub text_cases : List Case
text_cases =
    is_bad_text holds
    ("\n" ∷ "\r" ∷ " " ∷ "\t" ∷ "  " ∷ "\nab" ∷ "a\nb" ∷ "ab\n" ∷ "\rab" ∷ "a\rb" ∷ "ab\r" ∷ " ab" ∷ "ab " ∷ "\tab" ∷ "ab\t" ∷ " a b" ∷ "a b " ∷ "a\r\nb" ∷ [])
    fails
    ("" ∷ "a" ∷ "a b" ∷ "a\tb" ∷ "a \t b" ∷ "\0" ∷ "\u{b}" ∷ "\u{c}" ∷ "ÿ" ∷ "\u{a0}a\u{a0}" ∷ ":" ∷ "* a" ∷ ":END:" ∷ [])

-- a bad key (empty, over 64 bytes, with a blank byte or byte 10, ending in `+`), or `END` in any case
unfoldable pub name_cases : List Case
name_cases =
    is_bad_name holds
    ("" ∷ "a b" ∷ " a" ∷ "a " ∷ "a\tb" ∷ "a\rb" ∷ "a\nb" ∷ "a+" ∷ "a++" ∷ "+" ∷ "END" ∷ "end" ∷ "eNd" ∷ "END+"
    ∷ "abcdefghijklmnopqrstuvwxyz0123456789-abcdefghijklmnopqrstuvwxyz01" ∷ [])
    fails
    ("a" ∷ "+a" ∷ "a+b" ∷ "a:b" ∷ ":" ∷ "ENDS" ∷ "EN" ∷ "XEND" ∷ "END:" ∷ "AND" ∷ "PROPERTIES" ∷ "\0" ∷ "ÿ"
    ∷ "abcdefghijklmnopqrstuvwxyz0123456789-abcdefghijklmnopqrstuvwxyz0" ∷ [])

-- one of some pairs has a key or not; one key of some pairs is repeated or not
unfoldable pub key_case : String → List String → ℕ → Case
key_case k ws n = case k (truths (has_key (word k) (pairs_of ws) ∷ [])) (n ∷ [])

unfoldable pub repeat_case : String → List String → ℕ → Case
repeat_case w ws n = case w (truths (repeats (pairs_of ws) ∷ [])) (n ∷ [])

unfoldable pub key_cases : List Case
key_cases =
    key_case "VIN" [] 0
    ∷ key_case "VIN" ("VIN" ∷ "" ∷ []) 1
    ∷ key_case "vIN" ("Vin" ∷ "7" ∷ "A" ∷ "" ∷ []) 1
    ∷ key_case "VIN" ("A" ∷ "" ∷ "B" ∷ "" ∷ "vin" ∷ "7" ∷ []) 1
    ∷ key_case "VIN" ("VI" ∷ "VIN" ∷ "VINS" ∷ "VIN" ∷ []) 0
    ∷ repeat_case "no pairs" [] 0
    ∷ repeat_case "one" ("A" ∷ "A" ∷ []) 0
    ∷ repeat_case "none" ("A" ∷ "x" ∷ "B" ∷ "x" ∷ "AB" ∷ "x" ∷ []) 0
    ∷ repeat_case "neighbours" ("A" ∷ "x" ∷ "A" ∷ "y" ∷ []) 1
    ∷ repeat_case "case ignored" ("Ab" ∷ "1" ∷ "aB" ∷ "2" ∷ []) 1
    ∷ repeat_case "first and last" ("A" ∷ "x" ∷ "B" ∷ "y" ∷ "C" ∷ "z" ∷ "A" ∷ "" ∷ []) 1
    ∷ repeat_case "the last two" ("A" ∷ "x" ∷ "B" ∷ "y" ∷ "C" ∷ "z" ∷ "c" ∷ "" ∷ []) 1
    ∷ repeat_case "a value as a key" ("A" ∷ "B" ∷ "B" ∷ "A" ∷ []) 0
    ∷ []

-- the value of the first pair with a key, if there is one
unfoldable pub value_case : String → List String → List ℕ → Case
value_case k ws ns = case k (found (λ v. v ∷ []) (value_for (word k) (pairs_of ws))) ns

unfoldable pub value_cases : List Case
value_cases =
    value_case "VIN" [] missing
    ∷ value_case "VIN" ("VIN" ∷ "7" ∷ []) (there ("7" ∷ []))
    ∷ value_case "VIN" ("VIN" ∷ "" ∷ []) (there ("" ∷ []))
    ∷ value_case "vIN" ("A" ∷ "x" ∷ "Vin" ∷ "7 8" ∷ "B" ∷ "y" ∷ []) (there ("7 8" ∷ []))
    ∷ value_case "VIN" ("VIN" ∷ "7" ∷ "vin" ∷ "8" ∷ []) (there ("7" ∷ []))
    ∷ value_case "VIN" ("VI" ∷ "x" ∷ "VINS" ∷ "y" ∷ "A" ∷ "VIN" ∷ []) missing
    ∷ []

-- an order, of which 13, 14 and 15 are true or not, and the number that it is refused by, 0 for none
infix 100 ◌with◌is◌refused◌
unfoldable pub ◌with◌is◌refused◌ : String → List String → List ℕ → ℕ → Case
t with ws is ns refused n =
    let o = order_of t ws in
    let number : Judged → ℕ = λ j. elim j [ Refused m ↦ m | Good p ↦ 0 ] in
    case t (truths (has_bad_text o ∷ has_bad_name o ∷ repeats o.pairs ∷ []) ++ (number (judged_order o) ∷ [])) (ns ++ (n ∷ []))

unfoldable pub turn_cases : List Case
turn_cases =
    "" with [] is (0 ∷ 0 ∷ 0 ∷ []) refused 0
    ∷ "T" with ("A" ∷ "" ∷ "B" ∷ "x y" ∷ []) is (0 ∷ 0 ∷ 0 ∷ []) refused 0
    -- 13: the title, the first value, the last; no key
    ∷ " T" with [] is (1 ∷ 0 ∷ 0 ∷ []) refused 13
    ∷ "T " with [] is (1 ∷ 0 ∷ 0 ∷ []) refused 13
    ∷ "a\nb" with ("A" ∷ "x" ∷ []) is (1 ∷ 0 ∷ 0 ∷ []) refused 13
    ∷ "T" with ("A" ∷ "x\r" ∷ "B" ∷ "y" ∷ []) is (1 ∷ 0 ∷ 0 ∷ []) refused 13
    ∷ "T" with ("A" ∷ "x" ∷ "B" ∷ "y" ∷ "C" ∷ "\tz" ∷ []) is (1 ∷ 0 ∷ 0 ∷ []) refused 13
    -- 14: the first key, the last; no title and no value
    ∷ "T" with ("" ∷ "x" ∷ "B" ∷ "y" ∷ []) is (0 ∷ 1 ∷ 0 ∷ []) refused 14
    ∷ "T" with ("A" ∷ "x" ∷ "B" ∷ "y" ∷ "end" ∷ "z" ∷ []) is (0 ∷ 1 ∷ 0 ∷ []) refused 14
    ∷ "T" with ("A\n" ∷ "x" ∷ []) is (0 ∷ 1 ∷ 0 ∷ []) refused 14
    ∷ "END" with ("A" ∷ "END" ∷ "B" ∷ "a+" ∷ []) is (0 ∷ 0 ∷ 0 ∷ []) refused 0
    -- 15
    ∷ "T" with ("A" ∷ "x" ∷ "B" ∷ "y" ∷ "a" ∷ "z" ∷ []) is (0 ∷ 0 ∷ 1 ∷ []) refused 15
    -- two of them, and all
    ∷ "T" with ("" ∷ "x" ∷ "A" ∷ " " ∷ []) is (1 ∷ 1 ∷ 0 ∷ []) refused 13
    ∷ "T" with ("A" ∷ "x" ∷ "A" ∷ " " ∷ []) is (1 ∷ 0 ∷ 1 ∷ []) refused 13
    ∷ "T" with ("A" ∷ "" ∷ "a" ∷ "" ∷ "END" ∷ "" ∷ []) is (0 ∷ 1 ∷ 1 ∷ []) refused 14
    ∷ "T" with ("END" ∷ "" ∷ "end" ∷ "\n" ∷ []) is (1 ∷ 1 ∷ 1 ∷ []) refused 13
    ∷ []

-- a buffer, its number, and with 0 its order's title, keys and values
unfoldable pub judged_case : String → List ℕ → Case
judged_case w ns = case w (elim (judged (word w)) [ Refused n ↦ n ∷ [] | Good o ↦ 1 ∷ told (order_parts o) ]) ns

-- 12 comes before the others
unfoldable pub judged_cases : List Case
judged_cases =
    judged_case "\u{1}\0T\u{1}\u{3}VIN\u{1}\07" (there ("T" ∷ "VIN" ∷ "7" ∷ []))
    ∷ judged_case "\u{1}\0T\u{2}\u{1}B\0\0\u{1}A\u{1}\0x" (there ("T" ∷ "B" ∷ "" ∷ "A" ∷ "x" ∷ []))
    ∷ judged_case "" (12 ∷ [])
    ∷ judged_case "\u{1}\0 \0" (13 ∷ [])
    ∷ judged_case "\u{1}\0 \0x" (12 ∷ [])
    ∷ judged_case "\u{1}\0 " (12 ∷ [])
    ∷ judged_case "\0\0\u{1}\0\0\0" (14 ∷ [])
    ∷ judged_case "\0\0\u{1}\0\0\0x" (12 ∷ [])
    ∷ judged_case "\0\0\u{1}\0\0" (12 ∷ [])
    ∷ judged_case "\0\0\u{2}\u{1}A\0\0\u{1}a\0\0" (15 ∷ [])
    ∷ judged_case "\0\0\u{2}\u{1}A\0\0\u{1}a\0\0x" (12 ∷ [])
    ∷ judged_case "\0\0\u{2}\u{1}A\0\0\u{1}a\0" (12 ∷ [])
    ∷ []

-- opens these cases and what they are cases of
unfoldable pub OpenFaultCases : Type 1
unfolding OpenForms OpenFaults byte_cases text_cases name_cases key_case repeat_case key_cases value_case value_cases ◌with◌is◌refused◌ turn_cases judged_case judged_cases
OpenFaultCases = Type 0
