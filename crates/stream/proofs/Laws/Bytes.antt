-- Laws of bytes that all pass a test: of two runs of them, and of one byte again and again.
-- Assumes nothing.
use mathlib.Core.Path.{◌≡◌, refl, sym}
use mathlib.Core.Bool.{Bool, true, ◌&&◌, and_assoc}
use mathlib.Core.List.{List, [], ◌∷◌, ◌++◌}
use Prim.Native.Nat.{ℕ, zero, suc}
use lib.ListN.{replicate}
use Rattle.text.specs.Runs.{all}

pub all_append : (f : ℕ → Bool) (x y : List ℕ) → all f (x ++ y) ≡ (all f x && all f y)
unfolding all
all_append f [] y = refl
all_append f (b ∷ x) y = rw (all_append f x y) (sym (and_assoc (f b) (all f x) (all f y)))

pub all_replicate : (f : ℕ → Bool) (b : ℕ) → f b ≡ true → (n : ℕ) → all f (replicate n b) ≡ true
unfolding all
all_replicate f b h zero = refl
all_replicate f b h (suc n) = rw h (all_replicate f b h n)
