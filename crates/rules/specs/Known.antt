-- What is known of the closers that lie ahead, so that a search that must be in vain is not made. No promise of an entry point rests on this.
use Rattle.std.specs.Prelude.{◌≡◌, Bool, false, List, [], ◌∷◌, ◌++◌, ℕ, ◌+◌, ◌-◌, ◌*◌, ◌/◌, ◌%◌, ◌^◌, eqb}
use Rattle.std.proofs.Math.Option.{none}
use Rattle.text.specs.Bytes.{lower}
use Rattle.text.specs.Runs.{word}
use Rattle.text.specs.Parts.{lines_in}
use Rattle.rules.specs.Elements.{lines_before, OpenElements}

-- no line from byte p up to byte e has the body x
abbrev pub NoLine : List ℕ → List ℕ → ℕ → ℕ → Type 0
NoLine x s p e = lines_before x (lines_in s p e) ≡ none

-- a number below 63 for a name, the same for names that differ in case only
unfoldable pub number_from : ℕ → List ℕ → ℕ
number_from n [] = n
number_from n (b ∷ x) = number_from ((n * 5 + lower b) % 63) x

unfoldable pub name_number : List ℕ → ℕ
unfolding number_from
name_number x = number_from 0 x

-- some names, as a number: the binary digit of a name's number is 1 in it
unfoldable pub has_name : ℕ → List ℕ → Bool
has_name m x = eqb (m / 2 ^ name_number x % 2) 1

-- every name, and a digit more by which that is told from all of the 63
abbrev pub any_name : ℕ
any_name = 2 ^ 64 - 1

-- the name of every `#+end_NAME` line from byte p up to byte e is one of m
abbrev pub Names : List ℕ → ℕ → ℕ → ℕ → Type 0
Names s p e m = (x : List ℕ) → has_name m x ≡ false → NoLine (word "#+end_" ++ x) s p e

-- of the lines from byte p up to byte e it is known whether an `:END:` line may be one, and that the names of `#+end_NAME` lines are some of m
pub record Knows (s : List ℕ) (p e : ℕ) (b : Bool) (m : ℕ) : Type 0 where
  pub ends : b ≡ false → NoLine (word ":end:") s p e
  pub names : Names s p e m

-- opens the definitions of this file and of those it stands on, for computed examples
unfoldable pub OpenKnown : Type 1
unfolding OpenElements number_from name_number has_name
OpenKnown = Type 0
