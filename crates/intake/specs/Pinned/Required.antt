-- The two keys that an order must carry: in any case, and neither missing nor empty.
use Rattle.std.specs.Prelude.{List, [], ◌∷◌, ◌++◌, ℕ}
use Prim.Native.String.{String}
use Rattle.text.specs.Runs.{word}
use Rattle.text.specs.Cases.{Case, case}
use Rattle.sheet.specs.Pinned.Forms.{told, order_of, truths}
use Rattle.intake.specs.Required.{value_of, request_of, vin_of, lacks_key, OpenRequired}
use Rattle.intake.specs.Pinned.Forms.{OpenForms}

-- a key's value in some pairs
unfoldable pub value_case : String → List String → String → Case
value_case k ws v = case k (value_of (word k) (order_of "T" ws)) (word v)

unfoldable pub value_cases : List Case
value_cases =
    value_case "N" [] ""
    ∷ value_case "N" ("N" ∷ "x" ∷ []) "x"
    ∷ value_case "N" ("N" ∷ "" ∷ []) ""
    ∷ value_case "N" ("T" ∷ "x" ∷ "n" ∷ "y z" ∷ "M" ∷ "N" ∷ []) "y z"
    ∷ value_case "n" ("NN" ∷ "x" ∷ "N" ∷ "y" ∷ []) "y"
    ∷ value_case "T" ("N" ∷ "T" ∷ []) ""
    ∷ []

-- the request and the car of some pairs; 1 where one is missing or empty
infix 100 ◌request◌car◌lacks◌
unfoldable pub ◌request◌car◌lacks◌ : List String → String → String → ℕ → Case
ws request r car v lacks n =
    let o = order_of "T" ws in
    case r (told (request_of o ∷ vin_of o ∷ []) ++ truths (lacks_key o ∷ [])) (told (word r ∷ word v ∷ []) ++ (n ∷ []))

unfoldable pub required_cases : List Case
required_cases =
    ("REQUEST" ∷ "r1" ∷ "VIN" ∷ "7" ∷ []) request "r1" car "7" lacks 0
    ∷ ("VIN" ∷ "7" ∷ "REQUEST" ∷ "r1" ∷ []) request "r1" car "7" lacks 0
    ∷ ("request" ∷ "r1" ∷ "vin" ∷ "7" ∷ []) request "r1" car "7" lacks 0
    ∷ ("N" ∷ "" ∷ "rEQUESt" ∷ "r" ∷ "M" ∷ "x" ∷ "Vin" ∷ "\0" ∷ []) request "r" car "\0" lacks 0
    -- `REQUEST` missing, empty
    ∷ ("VIN" ∷ "7" ∷ []) request "" car "7" lacks 1
    ∷ ("REQUEST" ∷ "" ∷ "VIN" ∷ "7" ∷ []) request "" car "7" lacks 1
    ∷ ("REQUES" ∷ "r1" ∷ "VIN" ∷ "7" ∷ []) request "" car "7" lacks 1
    ∷ ("REQUESTS" ∷ "r1" ∷ "VIN" ∷ "7" ∷ []) request "" car "7" lacks 1
    ∷ ("N" ∷ "REQUEST" ∷ "VIN" ∷ "7" ∷ []) request "" car "7" lacks 1
    -- `VIN` missing, empty
    ∷ ("REQUEST" ∷ "r1" ∷ []) request "r1" car "" lacks 1
    ∷ ("REQUEST" ∷ "r1" ∷ "VIN" ∷ "" ∷ []) request "r1" car "" lacks 1
    ∷ ("REQUEST" ∷ "r1" ∷ "VI" ∷ "7" ∷ []) request "r1" car "" lacks 1
    ∷ ("REQUEST" ∷ "r1" ∷ "VINS" ∷ "7" ∷ []) request "r1" car "" lacks 1
    ∷ ("REQUEST" ∷ "VIN" ∷ "N" ∷ "7" ∷ []) request "VIN" car "" lacks 1
    -- both
    ∷ ("REQUEST" ∷ "" ∷ "VIN" ∷ "" ∷ []) request "" car "" lacks 1
    ∷ [] request "" car "" lacks 1
    ∷ []

-- opens these cases and what they are cases of
unfoldable pub OpenRequiredCases : Type 1
unfolding OpenForms OpenRequired value_case value_cases ◌request◌car◌lacks◌ required_cases
OpenRequiredCases = Type 0
