-- What is said of each kind  [01 "A record"], [01 "Numbers of an answer"], [02 order 4].
use Rattle.std.specs.Prelude.{List, [], ◌∷◌, map, ltb, suc}
use Rattle.text.specs.Cases.{Case, case, below, OpenCases}
use Rattle.rules.specs.Kind.{kinds, last_kind, holds_sections, holds_elements, is_holder, counts_depth, is_bound, is_run, OpenKind}

-- the numbers of the table's rows, and the numbers that are kinds which hold something, count for depth, bound the search for a closer or run on
unfoldable pub kind_cases : List Case
kind_cases =
    case "in order" (map (λ x. x.number) kinds) (below (suc last_kind) (ltb 0) [])
    ∷ case "sections" (below 20 holds_sections []) (1 ∷ 2 ∷ [])
    ∷ case "elements" (below 20 holds_elements []) (3 ∷ 7 ∷ 8 ∷ 18 ∷ [])
    ∷ case "anything" (below 20 is_holder []) (1 ∷ 2 ∷ 3 ∷ 5 ∷ 7 ∷ 8 ∷ 10 ∷ 17 ∷ 18 ∷ [])
    ∷ case "depth" (below 20 counts_depth []) (7 ∷ 8 ∷ 17 ∷ [])
    ∷ case "bounds" (below 20 is_bound []) (3 ∷ 7 ∷ 8 ∷ [])
    ∷ case "runs" (below 20 is_run []) (12 ∷ 13 ∷ 16 ∷ [])
    ∷ []

-- opens these cases and what they are cases of
unfoldable pub OpenKindCases : Type 1
unfolding OpenCases OpenKind kind_cases
OpenKindCases = Type 0
