-- The buffer that an order comes in: where it is cut short, long, or of over 16 pairs.
use Rattle.std.specs.Prelude.{List, [], ◌∷◌, ◌++◌, ℕ, replicate}
use Prim.Native.String.{String}
use Rattle.text.specs.Runs.{word}
use Rattle.text.specs.Cases.{Case, case}
use Rattle.sheet.specs.Buffer.{cut, low_first, sized, pair_in, pairs_in, few_pairs_in, order_in, OpenBuffer}
use Rattle.sheet.specs.Pinned.Forms.{told, found, missing, there, pair_parts, order_parts, OpenForms}

unfoldable pub low_first_cases : List Case
low_first_cases =
    case "no bytes" (low_first [] ∷ []) (0 ∷ [])
    ∷ case "one byte" (low_first (7 ∷ []) ∷ low_first (255 ∷ []) ∷ []) (7 ∷ 255 ∷ [])
    ∷ case "two bytes" (low_first (1 ∷ 0 ∷ []) ∷ low_first (0 ∷ 1 ∷ []) ∷ low_first (52 ∷ 18 ∷ []) ∷ low_first (255 ∷ 255 ∷ []) ∷ [])
    (1 ∷ 256 ∷ 4660 ∷ 65535 ∷ [])
    ∷ case "three bytes" (low_first (1 ∷ 2 ∷ 3 ∷ []) ∷ []) (197121 ∷ [])
    ∷ []

-- n bytes from a buffer's front and what is left; some bytes after their length in n bytes
unfoldable pub cut_case : ℕ → String → List ℕ → Case
cut_case n w ns = case w (found (λ c. c.bytes ∷ c.rest ∷ []) (cut n (word w))) ns

unfoldable pub sized_case : ℕ → String → List ℕ → Case
sized_case n w ns = case w (found (λ c. c.bytes ∷ c.rest ∷ []) (sized n (word w))) ns

unfoldable pub cut_cases : List Case
cut_cases =
    cut_case 0 "" (there ("" ∷ "" ∷ []))
    ∷ cut_case 0 "a" (there ("" ∷ "a" ∷ []))
    ∷ cut_case 1 "" missing
    ∷ cut_case 2 "abc" (there ("ab" ∷ "c" ∷ []))
    ∷ cut_case 3 "abc" (there ("abc" ∷ "" ∷ []))
    ∷ cut_case 4 "abc" missing
    ∷ sized_case 1 "" missing
    ∷ sized_case 1 "\0" (there ("" ∷ "" ∷ []))
    ∷ sized_case 1 "\0a" (there ("" ∷ "a" ∷ []))
    ∷ sized_case 1 "\u{2}a" missing
    ∷ sized_case 1 "\u{2}ab" (there ("ab" ∷ "" ∷ []))
    ∷ sized_case 1 "\u{2}abc" (there ("ab" ∷ "c" ∷ []))
    ∷ sized_case 2 "\0" missing
    ∷ sized_case 2 "\0\0a" (there ("" ∷ "a" ∷ []))
    ∷ sized_case 2 "\u{2}\0a" missing
    ∷ sized_case 2 "\u{2}\0abc" (there ("ab" ∷ "c" ∷ []))
    ∷ sized_case 2 "\0\u{2}abc" missing
    ∷ []

-- a pair from a buffer's front and what is left; n pairs, with which the buffer ends
unfoldable pub pair_case : String → List ℕ → Case
pair_case w ns = case w (found (λ c. c.first.key ∷ c.first.value ∷ c.rest ∷ []) (pair_in (word w))) ns

unfoldable pub pairs_case : ℕ → String → List ℕ → Case
pairs_case n w ns = case w (found pair_parts (pairs_in n (word w))) ns

unfoldable pub pair_cases : List Case
pair_cases =
    pair_case "\u{3}VIN\u{1}\07" (there ("VIN" ∷ "7" ∷ "" ∷ []))
    ∷ pair_case "\u{3}VIN\u{2}\078\u{1}" (there ("VIN" ∷ "78" ∷ "\u{1}" ∷ []))
    ∷ pair_case "\0\0\0" (there ("" ∷ "" ∷ "" ∷ []))
    -- cut short in the key's length, the key, the value's length, the value
    ∷ pair_case "" missing
    ∷ pair_case "\u{3}VI" missing
    ∷ pair_case "\u{3}VIN" missing
    ∷ pair_case "\u{3}VIN\u{1}" missing
    ∷ pair_case "\u{3}VIN\u{1}\0" missing
    ∷ pair_case "\u{3}VIN\u{2}\07" missing
    ∷ pair_case "\u{3}VIN\0\u{1}7" missing
    ∷ []

unfoldable pub pairs_cases : List Case
pairs_cases =
    pairs_case 0 "" (there [])
    ∷ pairs_case 0 "x" missing
    ∷ pairs_case 1 "" missing
    ∷ pairs_case 1 "\u{1}A\u{1}\0x" (there ("A" ∷ "x" ∷ []))
    ∷ pairs_case 1 "\u{1}A\u{1}\0xy" missing
    ∷ pairs_case 1 "\u{1}A\u{1}\0" missing
    ∷ pairs_case 2 "\u{1}A\u{1}\0x" missing
    ∷ pairs_case 2 "\u{1}A\u{1}\0x\u{2}BC\0\0" (there ("A" ∷ "x" ∷ "BC" ∷ "" ∷ []))
    ∷ pairs_case 1 "\u{1}A\u{1}\0x\u{2}BC\0\0" missing
    ∷ pairs_case 2 "\u{1}A\u{1}\0x\u{2}BC\0" missing
    ∷ pairs_case 2 "\u{1}A\u{1}\0x\u{2}BC\0\0y" missing
    ∷ []

-- pairs of an empty key and an empty value: 16 of them, and 17
unfoldable pub few_cases : List Case
few_cases =
    case "16 pairs" (found pair_parts (few_pairs_in 16 (replicate 48 0))) (1 ∷ replicate 32 0)
    ∷ case "17 pairs" (found pair_parts (few_pairs_in 17 (replicate 51 0))) missing
    ∷ case "17 said, 16 there" (found pair_parts (few_pairs_in 17 (replicate 48 0))) missing
    ∷ case "16 pairs, cut short" (found pair_parts (few_pairs_in 16 (replicate 47 0))) missing
    ∷ case "no pairs" (found pair_parts (few_pairs_in 0 [])) (there [])
    ∷ []

unfoldable pub order_case : String → List ℕ → Case
order_case w ns = case w (found order_parts (order_in (word w))) ns

unfoldable pub order_cases : List Case
order_cases =
    order_case "\0\0\0" (there ("" ∷ []))
    ∷ order_case "\u{2}\0To\0" (there ("To" ∷ []))
    ∷ order_case "\u{1}\0T\u{1}\u{3}VIN\u{2}\078" (there ("T" ∷ "VIN" ∷ "78" ∷ []))
    ∷ order_case "\u{1}\0T\u{2}\u{1}B\0\0\u{1}A\u{1}\0x" (there ("T" ∷ "B" ∷ "" ∷ "A" ∷ "x" ∷ []))
    -- cut short in the title's length, the title, before the count, before and in the pair
    ∷ order_case "" missing
    ∷ order_case "\u{1}" missing
    ∷ order_case "\u{1}\0" missing
    ∷ order_case "\u{5}\0abc" missing
    ∷ order_case "\0\u{1}T\0" missing
    ∷ order_case "\0\0" missing
    ∷ order_case "\u{1}\0T" missing
    ∷ order_case "\u{1}\0T\u{1}" missing
    ∷ order_case "\u{1}\0T\u{1}\u{2}A" missing
    ∷ order_case "\u{1}\0T\u{1}\u{1}A" missing
    ∷ order_case "\u{1}\0T\u{1}\u{1}A\u{1}" missing
    ∷ order_case "\u{1}\0T\u{1}\u{1}A\u{2}\01" missing
    ∷ order_case "\u{1}\0T\u{2}\u{1}A\u{1}\01" missing
    -- one byte long
    ∷ order_case "\0\0\0\0" missing
    ∷ order_case "\u{1}\0T\0x" missing
    ∷ order_case "\u{1}\0T\u{1}\u{1}A\u{1}\01x" missing
    -- a title, a value and a key of more than 255, 255 and 254 bytes; 16 pairs, and 17
    ∷ case "long title" (found order_parts (order_in (2 ∷ 1 ∷ (replicate 258 97 ++ (0 ∷ []))))) (1 ∷ told (replicate 258 97 ∷ []))
    ∷ case "long value" (found order_parts (order_in (word "\0\0\u{1}\u{1}K\u{1}\u{1}" ++ replicate 257 98))) (1 ∷ told ([] ∷ word "K" ∷ replicate 257 98 ∷ []))
    ∷ case "long key" (found order_parts (order_in (0 ∷ 0 ∷ 1 ∷ 255 ∷ (replicate 255 99 ++ (0 ∷ 0 ∷ []))))) (1 ∷ told ([] ∷ replicate 255 99 ∷ [] ∷ []))
    ∷ case "16 pairs" (found order_parts (order_in (0 ∷ 0 ∷ 16 ∷ replicate 48 0))) (1 ∷ replicate 33 0)
    ∷ case "17 pairs" (found order_parts (order_in (0 ∷ 0 ∷ 17 ∷ replicate 51 0))) missing
    ∷ []

-- opens these cases and what they are cases of
unfoldable pub OpenBufferCases : Type 1
unfolding OpenForms OpenBuffer low_first_cases cut_case sized_case cut_cases pair_case pairs_case pair_cases pairs_cases few_cases order_case order_cases
OpenBufferCases = Type 0
