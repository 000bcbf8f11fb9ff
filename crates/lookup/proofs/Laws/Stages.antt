-- Laws of the stages of a lookup.
-- Assumes nothing.
use mathlib.Core.Path.{◌≡◌, refl, sym, ap, ◌∙◌}
use mathlib.Core.Bool.{true, false, ◌&&◌, true≢false, false≢true}
use mathlib.Core.List.{List, [], ◌∷◌}
use Prim.Native.Nat.{ℕ, zero, suc, ◌+◌, ◌≤◌, ◌<◌}
use native.Mathlib.Omega.{arith}
use native.Mathlib.Nat.{add-zero, add_assoc}
use lib.ListN.{length, take, drop}
use lib.Seq.{take-nil}
use borrow.Table.Steps.{cases}
use Rattle.text.specs.Bytes.{is_newline}
use Rattle.text.specs.Runs.{is_empty, same}
use Rattle.text.specs.Lines.{Line, join_first, lines, size, blank_line, body, body_end, first_run, value_start, leading, blanks}
use Rattle.text.specs.Parts.{lines_in, line_in, first_line, line_starts, LineStart}
use Rattle.text.proofs.Basics.{and_first}
use Rattle.text.proofs.Laws.Lines.{some-lines, body_end-le}
use Rattle.text.proofs.Laws.LinesIn.{lines_in-drop, size-lines_in}
use Rattle.rules.specs.Headings.{is_heading}
use Rattle.rules.specs.LineTests.{property_name}
use Rattle.rules.proofs.Laws.PropertyDrawers.{property_name-blank, HeadingLine, heading_line-some, heading_line-to}
use Rattle.std.specs.declared.option.Option.TheVariants.{None, Some}
use Rattle.lookup.specs.declared.span.Span.{Span}
use Rattle.lookup.specs.Spans.{span}
use Rattle.lookup.specs.Stages.{is_bad_key, heading_at, value_in}

-- ---- where a line starts

size-join : (b n : ℕ) (ls : List Line) → size (take (suc n) (join_first b ls)) ≡ suc (size (take (suc n) ls))
unfolding join_first size
size-join b n [] = omega (arith, ap size (take-nil n))
size-join b n (l ∷ ls) = omega arith

module _ (b : ℕ) (s : List ℕ) where
  size-newline : (n : ℕ) → is_newline b ≡ true → size (take (suc n) (lines (b ∷ s))) ≡ suc (size (take n (lines s)))
  unfolding lines size
  size-newline n h = rw (h, lines) (omega arith)

  size-other : (n : ℕ) → is_newline b ≡ false → 0 < n → size (take n (lines (b ∷ s))) ≡ suc (size (take n (lines s)))
  unfolding lines
  size-other zero h i = absurd (omega arith)
  size-other (suc n) h i = rw (h, lines) (size-join b n (lines s))

  some_number : (n p : ℕ) → suc p ≡ size (take n (lines s)) → 0 < n
  unfolding size
  some_number zero p h = absurd (omega arith)
  some_number (suc n) p h = omega arith

-- the end of the first n lines
starts-yes : (s : List ℕ) (n p : ℕ) → p ≡ size (take n (lines s)) → p < length s → line_starts s p ≡ true
unfolding line_starts size
starts-yes s n zero h k = refl
starts-yes [] n (suc p) h k = absurd (omega arith)
starts-yes (b ∷ s) zero (suc p) h k = absurd (omega arith)
starts-yes (b ∷ s) (suc n) (suc zero) h k =
    cases (is_newline b) (λ e. e) (λ e. absurd (omega (arith, size-other b s (suc n) e (omega arith), some-lines (suc n) s (omega arith) (omega arith))))
starts-yes (b ∷ s) (suc n) (suc (suc p)) h k = cases (is_newline b)
    (λ e. starts-yes s n (suc p) (omega (arith, size-newline b s n e)) (omega arith))
    (λ e. starts-yes s (suc n) (suc p) (omega (arith, size-other b s (suc n) e (omega arith))) (omega arith))

starts-line : (s : List ℕ) (p : ℕ) → line_starts s p ≡ true → LineStart s p
unfolding line_starts size is_newline
starts-line s zero h = record { number = 0; is = refl }
starts-line [] (suc p) h = absurd (false≢true h)
starts-line (b ∷ s) (suc zero) h = record { number = 1; is = sym (size-newline b s 0 h) }
starts-line (b ∷ s) (suc (suc p)) h =
    let i = starts-line s (suc p) h in
    cases (is_newline b)
    (λ e. record { number = suc i.number; is = omega (arith, size-newline b s i.number e) })
    (λ e. record { number = i.number; is = omega (arith, size-other b s i.number e (some_number b s i.number p i.is)) })

-- ---- the heading line

module _ (s : List ℕ) (p : ℕ) where
  abbrev line : Line
  line = line_in s p (length s)

  test-yes : HeadingLine s p → (line_starts s p && is_heading line) ≡ true
  test-yes h = rw (starts-yes s h.start.number p h.start.is (heading_line-some s p h)) h.heading

  test-line : (line_starts s p && is_heading line) ≡ true → HeadingLine s p
  test-line h =
      let i = and_first (line_starts s p) (is_heading line) h in
      record { start = starts-line s p i; heading = rw i at h }

  -- there is one at byte p, or there is none
  pub heading_line-or-not {χ} : {A : Type χ} → (HeadingLine s p → A) → ((HeadingLine s p → ⊥) → A) → A
  heading_line-or-not f g = cases (line_starts s p && is_heading line) (λ e. f (test-line e)) (λ e. g (λ h. true≢false (sym (test-yes h) ∙ e)))

  pub heading_at-true : (line_starts s p && is_heading line) ≡ true → heading_at s p ≡ Some (p + length line)
  unfolding heading_at
  heading_at-true h = rw (h, heading_at)

  pub heading_at-false : (line_starts s p && is_heading line) ≡ false → heading_at s p ≡ None
  unfolding heading_at
  heading_at-false h = rw (h, heading_at)

  pub heading_at-yes : HeadingLine s p → heading_at s p ≡ Some (p + length line)
  heading_at-yes h = heading_at-true (test-yes h)

  pub heading_at-no : (HeadingLine s p → ⊥) → heading_at s p ≡ None
  heading_at-no h = cases (line_starts s p && is_heading line) (λ e. absurd (h (test-line e))) heading_at-false

  pub heading_at-to : (q : ℕ) → heading_at s p ≡ Some q → q ≤ length s
  heading_at-to q h =
      heading_line-or-not
      (λ l. let i = heading_at-yes l in let n : q ≡ p + length line = cc in rw n (heading_line-to s p l))
      (λ n. let i = heading_at-no n in absurd (let z : ◌≡◌ {A = ℕ} 0 1 = cc in omega arith))

-- ---- the key's line

module _ (k : List ℕ) (p : ℕ) where
  pub value_in-nil : value_in k p [] ≡ None
  unfolding value_in
  value_in-nil = refl

  module _ (l : Line) (ls : List Line) where
    pub value_in-here : same (property_name l) k ≡ true → value_in k p (l ∷ ls) ≡ Some (span (p + value_start (length (first_run (body l))) l) (p + body_end l))
    unfolding value_in
    value_in-here h = rw (h, value_in)

    pub value_in-skip : same (property_name l) k ≡ false → value_in k p (l ∷ ls) ≡ value_in k (p + length l) ls
    unfolding value_in
    value_in-skip h = rw (h, value_in)

value_in-order : (k : List ℕ) (p : ℕ) (ls : List Line) (v : Span) → value_in k p ls ≡ Some v → (v.start ≤ v.end) × (v.end ≤ p + size ls)
unfolding size value_start
value_in-order k p [] v h = let n = value_in-nil k p in absurd (let z : ◌≡◌ {A = ℕ} 0 1 = cc in omega arith)
value_in-order k p (l ∷ ls) v h = cases (same (property_name l) k)
    (λ i. let n = value_in-here k p l ls i in
    let is : v ≡ span (p + value_start (length (first_run (body l))) l) (p + body_end l) = cc in
    rw is (omega (arith, body_end-le l)))
    (λ i. omega (arith, value_in-order k (p + length l) ls v (sym (value_in-skip k p l ls i) ∙ h)))

pub value_in-inside : (k s : List ℕ) (p e : ℕ) (v : Span) → p ≤ e → e ≤ length s → value_in k p (lines_in s p e) ≡ Some v → (v.start ≤ v.end) × (v.end ≤ length s)
value_in-inside k s p e v h i j = omega (arith, value_in-order k p (lines_in s p e) v j, size-lines_in s p e h i)

-- no blank line has the key
same-nil : (k : List ℕ) → is_bad_key k ≡ false → same [] k ≡ false
unfolding is_bad_key is_empty same
same-nil [] h = absurd (true≢false h)
same-nil (b ∷ k) h = refl

module _ (k : List ℕ) (h : is_bad_key k ≡ false) where
  value_in-blanks : (p : ℕ) (ls : List Line) → value_in k p ls ≡ value_in k (p + size (take (blanks ls) ls)) (drop (blanks ls) ls)
  unfolding blanks leading size
  value_in-blanks p [] = rw add-zero
  value_in-blanks p (l ∷ ls) = cases (blank_line l)
      (λ e. rw (e, leading, ← add_assoc)
      (value_in-skip k p l ls (ap (λ (x : List ℕ). same x k) (property_name-blank l e) ∙ same-nil k h) ∙ value_in-blanks (p + length l) ls))
      (λ e. rw (e, leading) (rw add-zero))

  pub value_in-first : (s : List ℕ) (p e : ℕ) → let a = first_line s p e in value_in k p (lines_in s p e) ≡ value_in k a (lines_in s a e)
  unfolding first_line
  value_in-first s p e = rw (lines_in-drop s p e (blanks (lines_in s p e))) (value_in-blanks p (lines_in s p e))
