-- Lines put in parts: in a loop, what is put so far, followed by the line or lines of what is left, stays the same with each turn.
-- Assumes nothing.
use mathlib.Core.Path.{◌≡◌}
use mathlib.Core.List.{List, [], ◌∷◌, ◌++◌, append_assoc, append-nil}
use Prim.Native.Nat.{ℕ, suc, ◌+◌, ◌-◌, ◌*◌, ◌≤◌, ◌<◌}
use native.Mathlib.Numerals.{add-one}
use native.Mathlib.Omega.{arith}
use lib.ListN.{length, take, drop, get_or}
use lib.Seq.{slice, slice-cons, slice_empty, drop-drop}
use Rattle.table.specs.Records.{record_size}
use Rattle.text.specs.Runs.{word}
use Rattle.orgtable.specs.Printed.{newline, space, decimal, line, record_lines, refused}

line-more : (t : List ℕ) (i e : ℕ) → suc i < e → e ≤ length t → line (slice i e t) ≡ decimal (get_or t i 0) ++ space ∷ line (slice (suc i) e t)
unfolding line
line-more t i e h l = rw (slice-cons i e t 0 (omega arith) l, slice-cons (suc i) e t 0 h l)

line-last : (t : List ℕ) (i : ℕ) → suc i ≤ length t → line (slice i (suc i) t) ≡ decimal (get_or t i 0) ++ newline ∷ []
unfolding line
line-last t i l = rw (slice-cons i (suc i) t 0 (omega arith) l, slice_empty (suc i) t)

-- of a line of the numbers from i up to e, x is put; x₁ with number i and what stands after it
module _ (t : List ℕ) (i e : ℕ) (x x₁ w : List ℕ) (all : x ++ line (slice i e t) ≡ w) where
  pub line-turn : i + 1 < e → e ≤ length t → x₁ ≡ x ++ decimal (get_or t i 0) ++ space ∷ [] → x₁ ++ line (slice (i + 1) e t) ≡ w
  line-turn h l one =
      let more = rw (line-more t i e (omega arith) l) at all in
      rw (one, add-one) (simp append_assoc more)

  pub line-end : i + 1 ≡ e → e ≤ length t → x₁ ≡ x ++ decimal (get_or t i 0) ++ newline ∷ [] → x₁ ≡ w
  line-end h l one =
      let last = rw (← h, add-one, line-last t i (omega arith)) at all in
      rw one (simp append_assoc last)

-- of the lines of n records, x is put, those before record i; x₁ with record i
module _ (t : List ℕ) (i n : ℕ) (x w : List ℕ) (all : x ++ record_lines (n - i) (drop (i * record_size) t) ≡ w) where
  pub lines-turn : (x₁ : List ℕ) → i < n → x₁ ≡ x ++ line (take record_size (drop (i * record_size) t)) → x₁ ++ record_lines (n - (i + 1)) (drop ((i + 1) * record_size) t) ≡ w
  unfolding record_lines
  lines-turn x₁ h one =
      let e : n - i ≡ suc (n - (i + 1)) = omega arith in
      let f : (i + 1) * record_size ≡ i * record_size + record_size = omega arith in
      let more = rw (e, drop-drop record_size (i * record_size) t) at all in
      rw (one, f) (simp append_assoc more)

  pub lines_end : n ≤ i → x ≡ w
  unfolding record_lines
  lines_end h =
      let e : n - i ≡ 0 = omega arith in
      rw (e, append-nil) at all

-- the line of a refusal of number n, put in parts after w
module _ (w : List ℕ) (n : ℕ) (x : List ℕ) (number : x ≡ w ++ word "refused " ++ decimal n) where
  pub refused-alone : (x₁ : List ℕ) → x₁ ≡ x ++ newline ∷ [] → x₁ ≡ w ++ refused (n ∷ [])
  unfolding refused line
  refused-alone x₁ end = rw (end, number) (simp append_assoc)

  pub refused-with : (m : ℕ) (x₁ x₂ x₃ : List ℕ) → x₁ ≡ x ++ space ∷ [] → x₂ ≡ x₁ ++ decimal m → x₃ ≡ x₂ ++ newline ∷ [] → x₃ ≡ w ++ refused (n ∷ m ∷ [])
  unfolding refused line
  refused-with m x₁ x₂ x₃ after count end = rw (end, count, after, number) (simp append_assoc)
