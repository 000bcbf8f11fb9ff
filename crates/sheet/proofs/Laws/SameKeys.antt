-- Keys that are the same, case ignored: both are good or both are bad, and what is the same as one is the same as the other. Byte by byte: two bytes
-- that are the same, case ignored, are one byte or two letters, and no letter is blank.
use mathlib.Core.Path.{◌≡◌, refl, sym, ap, ◌∙◌}
use mathlib.Core.Logic.{◌⊎◌, inl, inr}
use mathlib.Core.Bool.{true, false≢true}
use mathlib.Core.List.{List, [], ◌∷◌}
use Prim.Native.Nat.{ℕ, ◌≤◌}
use native.Mathlib.Omega.{arith}
use lib.Dec.{eqb}
use borrow.Author.Tests.{eqb-true, eq-eqb}
use Rattle.text.specs.Bytes.{is_non_blank, lower}
use Rattle.text.specs.Runs.{all, same}
use Rattle.text.proofs.Basics.{on, and_first, and_second}
use Rattle.text.proofs.Laws.Bytes.{is_non_blank-yes, lower-either}
use Rattle.text.proofs.Laws.Runs.{same_length}
use Rattle.lookup.specs.Stages.{is_bad_key}
use Rattle.lookup.proofs.Laws.Keys.{same-empty, same-plus}

-- ---- bytes

letter-nonblank : (b : ℕ) → 65 ≤ b → is_non_blank b ≡ true
letter-nonblank b h = is_non_blank-yes b (λ j. omega arith) (λ j. omega arith) (λ j. omega arith) (λ j. omega arith)

module _ (b c : ℕ) (h : lower b ≡ lower c) where
  byte-either : (b ≡ c) ⊎ ((65 ≤ b) × (65 ≤ c))
  byte-either = on (lower-either b)
      (λ i. on (lower-either c) (λ j. inl (omega arith)) (λ j. inr (omega arith, omega arith)))
      (λ i. on (lower-either c) (λ j. inr (omega arith, omega arith)) (λ j. inl (omega arith)))

  is_non_blank-same : is_non_blank b ≡ is_non_blank c
  is_non_blank-same = on byte-either (ap is_non_blank) (λ i. letter-nonblank b i.0 ∙ sym (letter-nonblank c i.1))

-- ---- keys, byte by byte

data Cased : List ℕ → List ℕ → Type 0 where
  cased-nil : Cased [] []
  cased-cons : {b c : ℕ} {x y : List ℕ} → lower b ≡ lower c → Cased x y → Cased (b ∷ x) (c ∷ y)

same-cased : (x y : List ℕ) → same x y ≡ true → Cased x y
unfolding same
same-cased [] [] h = cased-nil
same-cased [] (c ∷ y) h = absurd (false≢true h)
same-cased (b ∷ x) [] h = absurd (false≢true h)
same-cased (b ∷ x) (c ∷ y) h =
    cased-cons (eqb-true (lower b) (lower c) (and_first _ (same x y) h)) (same-cased x y (and_second (eqb (lower b) (lower c)) _ h))

cased-same : {x y : List ℕ} → Cased x y → same x y ≡ true
unfolding same
cased-same cased-nil = refl
cased-same (cased-cons {b} {c} h t) = rw (eq-eqb (lower b) (lower c) h) (cased-same t)

cased-nonblank : {x y : List ℕ} → Cased x y → all is_non_blank x ≡ all is_non_blank y
unfolding all
cased-nonblank cased-nil = refl
cased-nonblank (cased-cons {b} {c} h t) = rw (is_non_blank-same b c h, cased-nonblank t)

cased-both : {x y z : List ℕ} → Cased x z → Cased y z → Cased x y
cased-both cased-nil cased-nil = cased-nil
cased-both (cased-cons h t) (cased-cons i u) = cased-cons (h ∙ sym i) (cased-both t u)

pub is_bad_key-same : (x y : List ℕ) → same x y ≡ true → is_bad_key x ≡ is_bad_key y
unfolding is_bad_key
is_bad_key-same x y h = rw (same-empty x y h, same_length x y h, cased-nonblank (same-cased x y h), same-plus x y h)

-- two keys that are the same as a third
pub same-both : (x y z : List ℕ) → same x z ≡ true → same y z ≡ true → same x y ≡ true
same-both x y z h i = cased-same (cased-both (same-cased x z h) (same-cased y z i))
