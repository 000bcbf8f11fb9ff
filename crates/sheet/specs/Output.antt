-- Bytes laid over a lent output.
use Rattle.std.specs.Prelude.{◌≡◌, List, ◌++◌, ℕ, ◌+◌, length, take, drop}

-- x laid over d from byte a on: what is before it, and what is past it, stays as it was
unfoldable pub laid : List ℕ → ℕ → List ℕ → List ℕ
laid d a x = take a d ++ (x ++ drop (a + length x) d)

-- x is laid over d from byte a on, which leaves d' and ends at byte e
pub record Puts (d : List ℕ) (a : ℕ) (x d' : List ℕ) (e : ℕ) : Type 0 where
  pub output : d' ≡ laid d a x
  pub next : e ≡ a + length x
