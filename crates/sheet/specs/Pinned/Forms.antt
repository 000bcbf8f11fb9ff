-- Forms of a case: orders written in words, and what is found in numbers.
use Rattle.std.specs.Prelude.{Bool, List, [], ◌∷◌, ◌++◌, map, ℕ, length}
use Rattle.std.proofs.Math.Option.{Option, none, some}
use Prim.Native.String.{String}
use Rattle.text.specs.Runs.{word}
use Rattle.text.specs.Cases.{OpenCases}
use Rattle.dates.specs.Reads.{pick}
use Rattle.sheet.specs.Order.{Pair, Order}

-- some runs of bytes in numbers, each after its length
unfoldable pub told : List (List ℕ) → List ℕ
told [] = []
told (x ∷ xs) = length x ∷ (x ++ told xs)

-- what may be there, in numbers: 0 where it is not, else 1 and its runs of bytes
unfoldable pub found : {A : Type 0} → (A → List (List ℕ)) → Option A → List ℕ
unfolding told
found f none = 0 ∷ []
found f (some a) = 1 ∷ told (f a)

-- the same in words
unfoldable pub missing : List ℕ
missing = 0 ∷ []

unfoldable pub there : List String → List ℕ
unfolding told
there ws = 1 ∷ told (map word ws)

unfoldable pub pair_parts : List Pair → List (List ℕ)
pair_parts [] = []
pair_parts (p ∷ ps) = p.key ∷ p.value ∷ pair_parts ps

unfoldable pub order_parts : Order → List (List ℕ)
unfolding pair_parts
order_parts o = o.title ∷ pair_parts o.pairs

-- pairs given by keys and values in turn, and an order of such
unfoldable pub pairs_of : List String → List Pair
pairs_of [] = []
pairs_of (k ∷ []) = []
pairs_of (k ∷ v ∷ ws) = record { key = word k; value = word v } ∷ pairs_of ws

unfoldable pub order_of : String → List String → Order
unfolding pairs_of
order_of t ws = record { title = word t; pairs = pairs_of ws }

-- tests in numbers: 1 true, 0 false
unfoldable pub truths : List Bool → List ℕ
truths [] = []
truths (b ∷ bs) = pick b 1 0 ∷ truths bs

-- opens these forms
unfoldable pub OpenForms : Type 1
unfolding OpenCases told found missing there pair_parts order_parts pairs_of order_of truths
OpenForms = Type 0
