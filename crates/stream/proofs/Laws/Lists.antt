-- Laws of a list of headings, three numbers each.
use mathlib.Core.Path.{◌≡◌, refl, ap, ◌∙◌}
use mathlib.Core.List.{List, [], ◌∷◌, ◌++◌}
use Prim.Native.Nat.{ℕ, suc, ◌+◌, ◌*◌, ◌≤◌}
use native.Mathlib.Omega.{arith}
use native.Mathlib.Nat.{zero-add}
use lib.ListN.{length, set}
use lib.Seq.{sets, sets-eq}
use Rattle.std.specs.Int.{from_bool}
use Rattle.std.specs.Prelude.{Bool, is_some, option_to_list}
use Rattle.stream.specs.declared.heading.Heading.{Heading}
use Rattle.std.specs.declared.option.Option.{Option}
use Rattle.std.specs.declared.option.Option.TheVariants.{Some, None}
use Rattle.stream.specs.Headings.{heading_size, numbers_of, numbers}
use Rattle.stream.specs.Call.{room, written}

-- a heading that is finished, counted
pub count-one : (f : Option Heading) (b : Bool) → b ≡ is_some f → from_bool b ≡ length (option_to_list f)
count-one (Some h) b i = rw i refl
count-one None b i = rw i refl

pub numbers-append : (hs ks : List Heading) → numbers (hs ++ ks) ≡ numbers hs ++ numbers ks
unfolding numbers
numbers-append [] ks = refl
numbers-append (h ∷ hs) ks = ap (λ (x : List ℕ). numbers_of h ++ x) (numbers-append hs ks)

pub numbers-length : (hs : List Heading) → length (numbers hs) ≡ heading_size * length hs
unfolding numbers
numbers-length [] = refl
numbers-length (h ∷ hs) = omega (arith, numbers-length hs)

-- numbers written in two parts
pub sets-append : (t : List ℕ) (i : ℕ) (x y : List ℕ) → sets t i (x ++ y) ≡ sets (sets t i x) (i + length x) y
sets-append t i [] y = let here : i ≡ i + 0 = omega arith in ap (λ (j : ℕ). sets t j y) here
sets-append t i (a ∷ x) y =
    let next : suc i + length x ≡ i + suc (length x) = omega arith in
    sets-append (set t i a) (suc i) x y ∙ ap (λ (j : ℕ). sets (sets (set t i a) (suc i) x) j y) next

-- headings that have room, written at the front
module _ (hs : List Heading) (t : List ℕ) (h : length hs ≤ room t) where
  pub numbers-room : length (numbers hs) ≤ length t
  numbers-room = omega (arith, h, numbers-length hs)

  pub sets-written : sets t 0 (numbers hs) ≡ written hs t
  sets-written = sets-eq (numbers hs) t 0 (omega (arith, numbers-room)) ∙ rw (zero-add, numbers-length hs)
