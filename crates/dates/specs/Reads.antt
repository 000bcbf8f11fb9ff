-- Reading from the front: what is read and what follows it, or nothing.
use Rattle.std.specs.Prelude.{◌≡◌, Bool, true, false, ◌&&◌, List, [], ◌∷◌, ℕ, ◌+◌, ◌*◌, ◌-◌, ◌≤◌, eqb, length, drop}
use Rattle.std.proofs.Math.Option.{Option, none, some}
use Rattle.text.specs.Bytes.{is_blank, is_digit}
use Rattle.text.specs.Runs.{is_empty, run, after_run, begins, OpenRuns}
use Rattle.text.specs.Parts.{part}

abbrev pub Read : Type 0 → Type 0
Read A = Option (A × List ℕ)

abbrev pub pick {ℓ} : {A : Type ℓ} → Bool → A → A → A
pick true a b = a
pick false a b = b

-- a reading goes on with what was read and what follows it
infixl 20 ◌then◌
abbrev pub ◌then◌ : {A B : Type 0} → Read A → (A → List ℕ → Read B) → Read B
none then f = none
(some r) then f = f r.0 r.1

-- a word
unfoldable pub expect : List ℕ → List ℕ → Read (Unit {0})
expect w x = pick (begins x w) (some (tt, drop (length w) x)) none

-- one or more blank bytes
unfoldable pub gap : List ℕ → Read (Unit {0})
gap x = pick (is_empty (run is_blank x)) none (some (tt, after_run is_blank x))

-- bytes of a shape, in which `0` stands for any digit and every other byte for itself
unfoldable pub fits : ℕ → ℕ → Bool
fits c b = pick (eqb c 48) (is_digit b) (eqb b c)

unfoldable pub shaped : List ℕ → List ℕ → Bool
shaped [] x = true
shaped (c ∷ w) [] = false
shaped (c ∷ w) (b ∷ x) = fits c b && shaped w x

-- the value of digits, after those of value v; what is no digit counts as 0
unfoldable pub digit : ℕ → ℕ
digit b = pick (is_digit b) (b - 48) 0

unfoldable pub value_from : ℕ → List ℕ → ℕ
value_from v [] = v
value_from v (b ∷ x) = value_from (v * 10 + digit b) x

unfoldable pub value : List ℕ → ℕ
value x = value_from 0 x

-- opens the definitions of this file and of those it stands on, for computed examples
unfoldable pub OpenReads : Type 1
unfolding OpenRuns expect gap fits shaped digit value_from value
OpenReads = Type 0

-- ---- for contracts: what code found in a text from byte p up to byte e, a value and the byte after it, is what is read there

abbrev pub rest_of : {A : Type 0} → List ℕ → ℕ → Option (A × ℕ) → Read A
rest_of s e none = none
rest_of s e (some r) = some (r.0, part s r.1 e)

abbrev pub Ends : {A : Type 0} → ℕ → ℕ → Option (A × ℕ) → Type 0
Ends p e none = Unit {0}
Ends p e (some r) = (p ≤ r.1) × (r.1 ≤ e)

pub record Reads {A : Type 0} (s : List ℕ) (p e : ℕ) (f : List ℕ → Read A) (o : Option (A × ℕ)) : Type 0 where
  pub is : f (part s p e) ≡ rest_of s e o
  pub within : Ends p e o

-- the same of what may be missing: a value in any case
pub record Takes {A : Type 0} (s : List ℕ) (p e : ℕ) (f : List ℕ → A × List ℕ) (v : A) (q : ℕ) : Type 0 where
  pub is : f (part s p e) ≡ (v, part s q e)
  pub from : p ≤ q
  pub to : q ≤ e
