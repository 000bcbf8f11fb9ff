-- Laws of what is read of a buffer at a byte: a number low first, bytes after their length, a pair.
use mathlib.Core.Path.{◌≡◌}
use mathlib.Core.List.{List}
use mathlib.Core.Option.{none, some}
use Prim.Native.Nat.{ℕ, zero, suc, ◌+◌, ◌-◌, ◌*◌, ◌≤◌, ◌<◌}
use native.Mathlib.Omega.{arith}
use native.Mathlib.Numerals.{add-one}
use lib.ListN.{length, drop, get_or, length-drop}
use lib.Seq.{drop-drop}
use borrow.Author.Tests.{le-leb, lt-leb}
use Rattle.text.specs.Parts.{part}
use Rattle.text.proofs.Laws.Parts.{part-nil, part-cons, part_slice}
use Rattle.sheet.specs.Buffer.{cut_as, cut, low_first, sized}
use Rattle.sheet.specs.Spans.{widest, reach}

-- ---- a number, low byte first

module _ (x : List ℕ) (p e : ℕ) where
  pub low-none : e ≤ p → 0 ≡ low_first (part x p e)
  unfolding low_first
  low-none h = rw (part-nil x p e h)

  pub low_turn : p < e → e ≤ length x → (n : ℕ) → n ≡ low_first (part x (p + 1) e) → n * 256 + get_or x p 0 ≡ low_first (part x p e)
  unfolding low_first
  low_turn h k n i = rw (part-cons x p e h k, i) (omega arith)

pub low_byte : (x : List ℕ) (p : ℕ) → p < length x → low_first (part x p (p + 1)) ≡ get_or x p 0
low_byte x p h = omega (arith, low_turn x p (p + 1) (omega arith) (omega arith) 0 (low-none x (p + 1) (p + 1) (omega arith)))

pub reach-none : 0 < reach 0
unfolding reach
reach-none = omega arith

pub reach-more : (n : ℕ) → reach (n + 1) ≡ 256 * reach n
unfolding reach
reach-more n = rw (add-one n)

-- a number in so few bytes fits
pub reach-fits : (n : ℕ) → n ≤ widest → reach n ≤ 4294967296
unfolding reach
reach-fits zero h = omega arith
reach-fits (suc zero) h = omega arith
reach-fits (suc (suc zero)) h = omega arith
reach-fits (suc (suc (suc zero))) h = omega arith
reach-fits (suc (suc (suc (suc zero)))) h = omega arith
reach-fits (suc (suc (suc (suc (suc n))))) h = absurd (omega arith)

-- ---- bytes after their length

module _ (x : List ℕ) (p n : ℕ) (h : p ≤ length x) where
  pub cut-yes : p + n ≤ length x → cut n (drop p x) ≡ some (cut_as (part x p (p + n)) (drop (p + n) x))
  unfolding cut
  cut-yes i =
      let k : p + n - p ≡ n = omega arith in
      rw (le-leb n (length (drop p x)) (omega (arith, length-drop p x)), cut, drop-drop n p x, ← part_slice x p (p + n) (omega arith), k)

  pub cut-no : length x < p + n → cut n (drop p x) ≡ none
  unfolding cut
  cut-no i = rw (lt-leb n (length (drop p x)) (omega (arith, length-drop p x)), cut)

module _ (x : List ℕ) (p n : ℕ) where
  pub sized-cut : p ≤ length x → length x < p + n → sized n (drop p x) ≡ none
  unfolding sized
  sized-cut h i = rw (cut-no x p n h i)

  module _ (i : p + n ≤ length x) (m : ℕ) (e : m ≡ low_first (part x p (p + n))) where
    pub sized-yes : p + n + m ≤ length x → sized n (drop p x) ≡ some (cut_as (part x (p + n) (p + n + m)) (drop (p + n + m) x))
    unfolding sized
    sized-yes j = rw (cut-yes x p n (omega arith) i, ← e) (cut-yes x (p + n) m i j)

    pub sized-no : length x < p + n + m → sized n (drop p x) ≡ none
    unfolding sized
    sized-no j = rw (cut-yes x p n (omega arith) i, ← e) (cut-no x (p + n) m i j)
