-- Laws of line numbers: so many lines further on, the line number is so much greater  [02 order 7].
-- Assumes nothing.
use mathlib.Core.Path.{◌≡◌, refl, sym, ap, ◌∙◌}
use mathlib.Core.Bool.{Bool}
use mathlib.Core.List.{List, [], ◌∷◌, ◌++◌}
use Prim.Native.Nat.{ℕ, zero, suc, ◌+◌, ◌-◌, ◌≤◌, ◌<◌}
use native.Mathlib.Nat.{zero-add}
use native.Mathlib.Omega.{arith}
use lib.ListN.{length, take, drop, length-take, length-drop}
use lib.Seq.{take-add, take-take}
use borrow.Table.Steps.{cases}
use Rattle.text.specs.Bytes.{is_newline}
use Rattle.text.specs.Lines.{lines, size}
use Rattle.text.specs.Parts.{part, lines_in, line_in, LineStart}
use Rattle.text.specs.LineNumbers.{count, line_number}
use Rattle.text.proofs.Laws.Lines.{line, rest, line-newline, line_other, take-line, lines-some, size-take-add, size-head_line}
use Rattle.text.proofs.Laws.Parts.{part_slice, part-take, part_length}
use Rattle.text.proofs.Laws.LinesIn.{line_in-to}
use Rattle.text.proofs.Laws.LineStarts.{lines_in-start, lines-between}

count-append : (f : ℕ → Bool) (x y : List ℕ) → count f (x ++ y) ≡ count f x + count f y
unfolding count
count-append f [] y = sym (zero-add (count f y))
count-append f (b ∷ x) y = cases (f b)
    (λ h. rw (h, count) (omega (arith, count-append f x y)))
    (λ h. rw (h, count) (count-append f x y))

count-le : (f : ℕ → Bool) (x : List ℕ) → count f x ≤ length x
unfolding count
count-le f [] = omega arith
count-le f (b ∷ x) = cases (f b)
    (λ h. rw (h, count) (omega (arith, count-le f x)))
    (λ h. rw (h, count) (omega (arith, count-le f x)))

-- a line that is not the last has one byte 10
line-newline-one : (t : List ℕ) → length (line t) < length t → count is_newline (line t) ≡ 1
unfolding count
line-newline-one [] h = absurd (omega arith)
line-newline-one (b ∷ t) h = cases (is_newline b)
    (λ i. rw (line-newline b t i) (rw (i, count)))
    (λ i. rw (line_other b t i) (rw (i, count) (line-newline-one t (let j = rw (line_other b t i) at h in omega arith))))

-- so many lines from the text's start on, not at its end
lines-number : (a : ℕ) (t : List ℕ) → size (take a (lines t)) < length t → count is_newline (take (size (take a (lines t))) t) ≡ a
unfolding size count
lines-number zero t h = refl
lines-number (suc a) t h =
    let step = lines-some t (omega arith) in
    let k = size (take a (lines (rest t))) in
    let few : length (line t) + k < length t = rw step at h in
    let more = lines-number a (rest t) (omega (arith, length-drop (length (line t)) t)) in
    rw step
    (rw (take-add (length (line t)) k t, take-line t, count-append is_newline (line t) (take k (rest t)))
    (omega (arith, line-newline-one t (omega arith), more)))

-- only the last byte of a text's first line can be byte 10
count-line : (t : List ℕ) (j : ℕ) → j < length (line t) → count is_newline (take j t) ≡ 0
unfolding count
count-line t zero h = refl
count-line [] (suc j) h = refl
count-line (b ∷ t) (suc j) h = cases (is_newline b)
    (λ e. absurd (omega (arith, ap length (line-newline b t e))))
    (λ e. rw (e, count) (count-line t j (omega (arith, ap length (line_other b t e)))))

module _ (s : List ℕ) where
  pub line_number-zero : line_number s 0 ≡ 0
  unfolding line_number count
  line_number-zero = refl

  line_number-start : (p : ℕ) (h : LineStart s p) → p < length s → line_number s p ≡ h.number
  unfolding line_number
  line_number-start p h i = rw h.is (lines-number h.number s (omega (arith, h.is)))

  -- between two bytes
  line_number-part : (p k : ℕ) → line_number s (p + k) ≡ line_number s p + count is_newline (take k (drop p s))
  unfolding line_number
  line_number-part p k = rw (take-add p k s) (count-append is_newline (take p s) (take k (drop p s)))

  pub line_number-le : (p : ℕ) → line_number s p ≤ p
  unfolding line_number
  line_number-le p = omega (arith, count-le is_newline (take p s), length-take p s)

  -- n of the lines from byte p up to byte e further on, and before e
  pub line_number-in : (p e n : ℕ) → p ≤ e → e ≤ length s → p + size (take n (lines_in s p e)) < e
      → line_number s (p + size (take n (lines_in s p e))) ≡ line_number s p + n
  unfolding lines_in
  line_number-in p e n o t h =
      let k = size (take n (lines (part s p e))) in
      let slice : take k (drop p s) ≡ take k (part s p e) =
      let e' : p + k - p ≡ k = omega arith in
      rw e' at (part_slice s p (p + k) (omega arith)) ∙ sym (part-take s k p e (omega arith)) in
      rw (line_number-part p k, slice) (ap (λ (x : ℕ). line_number s p + x) (lines-number n (part s p e) (omega (arith, part_length s p e t))))

  -- n of the lines from byte p up to byte e further on
  pub line_number-after : (p e n : ℕ) → LineStart s p → LineStart s e → p ≤ e → n ≤ length (lines_in s p e)
      → p + size (take n (lines_in s p e)) < length s → line_number s (p + size (take n (lines_in s p e))) ≡ line_number s p + n
  unfolding line_number
  line_number-after p e n h k o i j =
      let (m, b) = lines-between s p e h k o in
      let all = lines_in s p (length s) in
      let few : n ≤ m = omega (arith, ap length b, length-take m all) in
      let same : take n (lines_in s p e) ≡ take n (drop h.number (lines s)) =
      rw b (take-take n m all few ∙ ap (take n) (lines_in-start s p h)) in
      let a = h.number in
      let q : p + size (take n (lines_in s p e)) ≡ size (take (a + n) (lines s)) = rw same (omega (arith, h.is, size-take-add a n (lines s))) in
      let number = lines-number (a + n) s (omega (arith, q)) in
      rw q (number ∙ ap (λ (x : ℕ). x + n) (sym (line_number-start p h (omega arith))))

  -- the next line, before byte e
  pub line_number-next : (p e q : ℕ) → p < e → e ≤ length s → q ≡ p + length (line_in s p e) → q < e → line_number s q ≡ line_number s p + 1
  unfolding line_in
  line_number-next p e q h t i j =
      let one : q ≡ p + size (take 1 (lines_in s p e)) = i ∙ ap (λ (k : ℕ). p + k) (size-head_line (lines_in s p e)) in
      rw one (line_number-in p e 1 (omega arith) t (rw one at j))

  -- inside the line at byte p, up to byte e
  pub line_number-inside : (p e j : ℕ) → j < length (line_in s p e) → p ≤ e → e ≤ length s → line_number s (p + j) ≡ line_number s p
  unfolding line_in lines_in
  line_number-inside p e j h o t =
      let to = line_in-to s p e o t in
      let slice : take j (drop p s) ≡ take j (part s p e) =
      let e' : p + j - p ≡ j = omega arith in
      rw e' at (part_slice s p (p + j) (omega arith)) ∙ sym (part-take s j p e (omega arith)) in
      rw (line_number-part p j, slice) (omega (arith, count-line (part s p e) j h))
