-- Laws of the names that close blocks: a name's number, byte by byte; a binary digit more, for a name more; and the lines that a name does not
-- close, line by line.
-- Assumes nothing.
use mathlib.Core.Path.{◌≡◌, refl, sym, ap, ◌∙◌}
use mathlib.Core.Bool.{true, false, ◌&&◌, false≢true}
use mathlib.Core.List.{List, [], ◌∷◌, ◌++◌}
use mathlib.Core.Option.{map}
use Prim.Native.Nat.{ℕ, suc, ◌+◌, ◌*◌, ◌/◌, ◌%◌, ◌^◌, ◌≤◌, ◌<◌, max}
use native.Mathlib.Omega.{arith}
use lib.Dec.{eqb}
use lib.Bits.{bit_and, and_mask, and_comm, and_shr, bit_or, or_step, or_shr}
use lib.Pow.{shl_exact, shl-shr}
use native.Mathlib.Numerals.{add-one}
use lib.ListN.{length, get_or, drop, drop_of_length-le}
use lib.Seq.{drop-cons}
use borrow.Table.Steps.{cases}
use borrow.Author.Tests.{eqb-true, eqb-false, ne_eqb}
use Rattle.text.specs.Bytes.{lower}
use Rattle.text.specs.Runs.{word, same, begins}
use Rattle.text.specs.Parts.{part}
use Rattle.text.specs.Spans.{line_span}
use Rattle.text.specs.declared.line.LineSpan.{LineSpan}
use Rattle.text.proofs.Laws.Parts.{part_length, part-drop}
use Rattle.text.proofs.Laws.LinesIn.{lines_in-nil}
use Rattle.rules.specs.Known.{NoLine, number_from, name_number, has_name, any_name, Names}
use Rattle.rules.proofs.Basics.{and_yes}
use Rattle.rules.proofs.Laws.LineOf.{line_span-start, line_of, line_of-order, line_of-body, line_of-lines}
use Rattle.rules.proofs.Laws.Blocks.{begins-length}
use Rattle.rules.proofs.Laws.Closers.{lines_before-nil, lines_before-pass}

-- ---- the number of a name

module _ (x : List ℕ) (i n : ℕ) where
  pub number-end : length x ≤ i → number_from n (drop i x) ≡ n
  unfolding number_from
  number-end h = rw (drop_of_length-le x {i = i} h)

  pub number_step : i < length x → number_from n (drop i x) ≡ number_from ((n * 5 + lower (get_or x i 0)) % 63) (drop (i + 1) x)
  unfolding number_from
  number_step h = rw (drop-cons x i 0 h, add-one)

-- names that differ in case only have the same
number_from-same : (n : ℕ) (x y : List ℕ) → same x y ≡ true → number_from n x ≡ number_from n y
unfolding same number_from
number_from-same n [] [] h = refl
number_from-same n [] (c ∷ y) h = absurd (false≢true h)
number_from-same n (b ∷ x) [] h = absurd (false≢true h)
number_from-same n (b ∷ x) (c ∷ y) h =
    let w = and_yes (eqb (lower b) (lower c)) (same x y) h in
    rw (eqb-true (lower b) (lower c) w.0) (number_from-same ((n * 5 + lower c) % 63) x y w.1)

number-differ : (x y : List ℕ) → (name_number y ≡ name_number x → ⊥) → same x y ≡ false
unfolding name_number
number-differ x y h = cases (same x y) (λ t. absurd (h (sym (number_from-same 0 x y t)))) (λ t. t)

-- it is below 63
number_from-below : (n : ℕ) (x : List ℕ) → n < 63 → number_from n x < 63
unfolding number_from
number_from-below n [] h = h
number_from-below n (b ∷ x) h = number_from-below ((n * 5 + lower b) % 63) x (omega arith)

name_number-below : (x : List ℕ) → name_number x < 63
unfolding name_number
name_number-below x = number_from-below 0 x (omega arith)

-- ---- every binary digit

-- of 64 digits 1, digit k: what the digit alone leaves of them
ones-digit : (k : ℕ) → k < 64 → any_name / 2 ^ k % 2 ≡ 1
ones-digit k h =
    let a : ℕ = 1 * 2 ^ k in
    let one : a / 2 ^ k ≡ 1 = shl-shr 1 k in
    let whole : bit_and a any_name ≡ a = and_mask a 64 ∙ shl_exact 1 k 64 (omega arith) (omega arith) in
    sym (and_mask (any_name / 2 ^ k) 1) ∙ and_comm (any_name / 2 ^ k) 1 ∙ ap (λ (n : ℕ). bit_and n (any_name / 2 ^ k)) (sym one)
    ∙ sym (and_shr a any_name k) ∙ ap (λ (n : ℕ). n / 2 ^ k) whole ∙ one

pub has_name-any : (x : List ℕ) → has_name any_name x ≡ true
unfolding has_name
has_name-any x = rw (ones-digit (name_number x) (omega (arith, name_number-below x)))

-- ---- a binary digit more

or-odd : (a b : ℕ) → bit_or a b % 2 ≡ max (a % 2) (b % 2)
or-odd a b = omega (arith, or_step a b)

or-digit : (a b k : ℕ) → bit_or a b / 2 ^ k % 2 ≡ max (a / 2 ^ k % 2) (b / 2 ^ k % 2)
or-digit a b k = ap (λ (n : ℕ). n % 2) (or_shr a b k) ∙ or-odd (a / 2 ^ k) (b / 2 ^ k)

one-digit : (k : ℕ) → k < 64 → 1 * 2 ^ k % 2 ^ 64 / 2 ^ k % 2 ≡ 1
one-digit k h = ap (λ (n : ℕ). n / 2 ^ k % 2) (shl_exact 1 k 64 (omega arith) (omega arith)) ∙ ap (λ (n : ℕ). n % 2) (shl-shr 1 k)

pub has_name-more : (m k : ℕ) → k < 64 → (x : List ℕ) → has_name (bit_or m (1 * 2 ^ k % 2 ^ 64)) x ≡ false → (has_name m x ≡ false) × (name_number x ≡ k → ⊥)
unfolding has_name
has_name-more m k h x g =
    let one : ℕ = 1 * 2 ^ k % 2 ^ 64 in
    let no = eqb-false (bit_or m one / 2 ^ name_number x % 2) 1 g in
    let digit = or-digit m one (name_number x) in (
      ne_eqb (m / 2 ^ name_number x % 2) 1 (λ i. no (omega arith)),
      λ i. let d : one / 2 ^ name_number x % 2 ≡ 1 = rw i (one-digit k h) in no (omega arith),
    )

-- ---- bytes against a word and what follows it

same-append : (w x y : List ℕ) → same y (w ++ x) ≡ (begins y w && same (drop (length w) y) x)
unfolding same begins
same-append [] x y = refl
same-append (c ∷ w) x [] = refl
same-append (c ∷ w) x (b ∷ y) = rw (same-append w x y) (cases (eqb (lower b) (lower c)) (λ e. rw e) (λ e. rw e))

-- ---- lines that a name does not close

-- a name that is none of m closes no line from byte p up to byte e, where it closes none from byte q on
abbrev pub NamesTo : List ℕ → ℕ → ℕ → ℕ → ℕ → Type 0
NamesTo s p q e m = (x : List ℕ) → has_name m x ≡ false → NoLine (word "#+end_" ++ x) s q e → NoLine (word "#+end_" ++ x) s p e

pub names-all : (s : List ℕ) (p q e m : ℕ) → e ≤ q → NamesTo s p q e m → Names s p e m
names-all s p q e m h v x i = v x i (rw (lines_in-nil s q e h) (lines_before-nil (word "#+end_" ++ x)))

-- the line l that `line_at` answers at byte q
module _ (s : List ℕ) (l : LineSpan) (q e : ℕ) (g : l ≡ line_span s q e) (h : q < e) (k : e ≤ length s) where
  abbrev text : List ℕ
  text = part s l.from l.to

  no_line-pass : (x : List ℕ) → same text x ≡ false → NoLine x s l.end e → NoLine x s q e
  no_line-pass x i n =
      let o = line_of s l q e h k g in
      rw (← line_span-start s l q e g, line_of-lines s l e o) (lines_before-pass x _ _ (rw (← line_of-body s l e o) i) ∙ ap (map suc) n)

  pub names-other : begins text (word "#+end_") ≡ false → (p m : ℕ) → NamesTo s p q e m → NamesTo s p l.end e m
  names-other i p m v x a n = v x a (no_line-pass (word "#+end_" ++ x) (same-append (word "#+end_") x text ∙ rw i) n)

  module _ (i : begins text (word "#+end_") ≡ true) where
    pub end-order : (l.from + 6 ≤ l.to) × (l.to ≤ length s)
    unfolding word
    end-order =
        let o = line_of-order s l e (line_of s l q e h k g) in
        omega (arith, begins-length (word "#+end_") text i, part_length s l.from l.to (omega arith))

    -- r has the names of m, and the line's name, of number d
    pub names-one : (p m r d : ℕ) → d ≡ name_number (part s (l.from + 6) l.to)
        → ((x : List ℕ) → has_name r x ≡ false → (has_name m x ≡ false) × (name_number x ≡ d → ⊥)) → NamesTo s p q e m → NamesTo s p l.end e r
    unfolding word
    names-one p m r d j f v x a n =
        let w = f x a in
        let rest = number-differ (part s (l.from + 6) l.to) x (λ t. w.1 (t ∙ sym j)) in
        v x w.0 (no_line-pass (word "#+end_" ++ x) (same-append (word "#+end_") x text ∙ rw (i, part-drop s 6 l.from l.to) rest) n)
