-- An order: a title, and pairs of a key and a value  [02 order 5].
use Rattle.std.specs.Prelude.{Bool, true, false, ◌||◌, List, [], ◌∷◌, ℕ}
use Rattle.std.proofs.Math.Option.{Option, none, some}
use Rattle.text.specs.Runs.{same, OpenRuns}

pub record Pair : Type 0 where
  pub key : List ℕ
  pub value : List ℕ

abbrev pub pair : List ℕ → List ℕ → Pair
pair k v = record { key = k; value = v }

pub record Order : Type 0 where
  pub title : List ℕ
  pub pairs : List Pair

-- a test of a pair passes at one of them
unfoldable pub some_pair : (Pair → Bool) → List Pair → Bool
some_pair f [] = false
some_pair f (p ∷ ps) = f p || some_pair f ps

-- one of the pairs has that key, case ignored
unfoldable pub has_key : List ℕ → List Pair → Bool
unfolding some_pair
has_key k ps = some_pair (λ p. same p.key k) ps

-- the value of the first pair with that key
unfoldable pub value_for : List ℕ → List Pair → Option (List ℕ)
value_for k [] = none
value_for k (p ∷ ps) = elim (same p.key k) [ true ↦ some p.value | false ↦ value_for k ps ]

-- opens the definitions of this file and of those it stands on, for computed examples
unfoldable pub OpenOrder : Type 1
unfolding OpenRuns some_pair has_key value_for
OpenOrder = Type 0
