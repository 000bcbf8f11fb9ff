-- The scans for an item's and a list's lines in a text: what is left of an item or a list that ends at e, from byte b on, is what the scan finds
-- there, among the lines up to h. It stays so past lines that the scan passes, and past the blank lines after them.
-- Assumes nothing.
use mathlib.Core.Path.{◌≡◌, ap, ◌∙◌}
use mathlib.Core.Bool.{true, false}
use mathlib.Core.List.{List, ◌∷◌}
use Prim.Native.Nat.{ℕ, suc, ◌+◌, ◌≤◌, ◌<◌, min}
use native.Mathlib.Omega.{arith}
use lib.Dec.{leb}
use lib.ListN.{length, take, drop, length-take}
use lib.Seq.{take-take, take_all}
use borrow.Table.Steps.{cases}
use borrow.Author.Tests.{leb-true, leb-false}
use Rattle.text.specs.Lines.{Line, size, blank_line, head_line, blanks}
use Rattle.text.specs.Parts.{lines_in, line_in, first_line, LineStart}
use Rattle.text.proofs.Laws.Lines.{size-take-add, head_line-take}
use Rattle.text.proofs.Laws.LineStarts.{line_start-in, line_start-first}
use Rattle.text.proofs.Laws.LinesIn.{lines_in-nil, lines_in-drop, lines_in-take, lines_in-step, within-lines_in, line_in-to}
use Rattle.text.proofs.Laws.LinesIn.{first_line-none, first_line-here, first_line-skip}
use Rattle.rules.specs.Lists.{with_blank}
use Rattle.rules.proofs.Laws.Scans.{split, with_blank-none, with_blank-some, Gapped}

-- ---- lines cut short

pub take_min : (n m : ℕ) (ls : List Line) → take n (take m ls) ≡ take (min n m) ls
take_min n m ls = cases (leb n m)
    (λ i. let h = leb-true n m i in let e : min n m ≡ n = omega arith in rw e (take-take n m ls h))
    (λ i. let h = leb-false n m i in let e : min n m ≡ m = omega arith in
    rw e (take_all n (take m ls) (omega (arith, length-take m ls))))

-- an element ends with the blank lines after its own lines
pub end-first : (s : List ℕ) (p e n : ℕ) → let ls = lines_in s p e in
    p + size (take (n + blanks (drop n ls)) ls) ≡ first_line s (p + size (take n ls)) e
unfolding first_line
end-first s p e n =
    let ls = lines_in s p e in
    rw (lines_in-drop s p e n) (omega (arith, size-take-add n (blanks (drop n ls)) ls))

-- ---- what is left from byte b on

pub record Rest (F : List Line → ℕ) (s : List ℕ) (h e b : ℕ) : Type 0 where
  pub end : e ≡ b + size (take (F (lines_in s b h)) (lines_in s b h))
  pub order : b ≤ h
  pub text : h ≤ length s

module _ {F : List Line → ℕ} {s : List ℕ} {h e b : ℕ} (gapped : Gapped F) (rest : Rest F s h e b) where
  abbrev ls : List Line
  ls = lines_in s b h

  pub rest_from : b ≤ e
  rest_from = omega (arith, rest.end)

  pub rest-to : e ≤ h
  rest-to = omega (arith, rest.end, within-lines_in s b h rest.order rest.text (F ls))

  pub rest_lines : lines_in s b e ≡ take (F ls) ls
  rest_lines = ap (lines_in s b) rest.end ∙ lines_in-take s b h (F ls) rest.order rest.text

  pub rest_some : b < e → 0 < F ls
  unfolding size
  rest_some i = split 0 (F ls) (λ j. j) (λ j. let z : F ls ≡ 0 = omega arith in absurd (let k = rw z at rest.end in omega arith))

  pub rest-none : F ls ≡ 0 → e ≡ b
  unfolding size
  rest-none z = let k = rw z at rest.end in omega arith

  -- past lines that the scan passes
  pub rest-pass : (n : ℕ) → F ls ≡ n + F (drop n ls) → Rest F s h e (b + size (take n ls))
  rest-pass n i =
      let q = b + size (take n ls) in
      record {
        end = rw (lines_in-drop s b h n) (omega (arith, rest.end, ap (λ (m : ℕ). size (take m ls)) i, size-take-add n (F (drop n ls)) ls));
        order = within-lines_in s b h rest.order rest.text n;
        text = rest.text;
      }

  -- its first line
  module _ (some : 0 < F ls) where
    rest_more : b < h
    rest_more = split b h (λ i. i) (λ i. absurd (let z = ap F (lines_in-nil s b h i) in omega (arith, gapped.nil)))

    pub rest-head : line_in s b e ≡ line_in s b h
    unfolding line_in
    rest-head = ap head_line rest_lines ∙ head_line-take (F ls) ls some

    abbrev l : Line
    l = line_in s b h

    abbrev next : ℕ
    next = b + length l

    step : ls ≡ l ∷ lines_in s next h
    step = lines_in-step s b h rest_more rest.text

    -- a blank line, and the one after it
    module _ (blank : blank_line l ≡ true) where
      next-nonblank : blank_line (line_in s next h) ≡ false
      unfolding line_in
      next-nonblank = cases (blank_line (head_line (lines_in s next h)))
          (λ i. absurd (omega (arith, ap F step, gapped.two l (lines_in s next h) blank i)))
          (λ i. i)

      gap : F ls ≡ with_blank (F (lines_in s next h))
      unfolding line_in
      gap = ap F step ∙ gapped.gap l (lines_in s next h) blank next-nonblank

      next-some : 0 < F (lines_in s next h)
      next-some =
          split 0 (F (lines_in s next h)) (λ i. i) (λ i. absurd (omega (arith, gap, with_blank-none (F (lines_in s next h)) (omega arith))))

      next-rest : Rest F s h e next
      unfolding size
      next-rest =
          let n = F (lines_in s next h) in
          let many : F ls ≡ suc n = gap ∙ with_blank-some n next-some in
          record {
            end = omega (arith, rest.end, ap (λ (m : ℕ). size (take m ls)) many, ap (λ (x : List Line). size (take (suc n) x)) step);
            order = line_in-to s b h rest.order rest.text;
            text = rest.text;
          }

-- ---- from the first line that is not blank on

pub record First (F : List Line → ℕ) (s : List ℕ) (h e p : ℕ) : Type 0 where
  pub start : LineStart s p
  pub rest : Rest F s h e p
  pub nonblank : p < e → blank_line (line_in s p h) ≡ false

module _ {F : List Line → ℕ} {s : List ℕ} {h e b : ℕ} (gapped : Gapped F) (rest : Rest F s h e b) (at_b : LineStart s b) (at-h : LineStart s h) where
  pub rest_end : LineStart s e
  rest_end = rw rest.end (line_start-in s b h at_b at-h rest.order (F (lines_in s b h)))

  first-start : LineStart s (first_line s b e)
  first-start = line_start-first s b e at_b rest_end (rest_from gapped rest)

  first-blank : (some : 0 < F (lines_in s b h)) (blank : blank_line (line_in s b h) ≡ true) → first_line s b e ≡ next gapped rest some
  first-blank some blank =
      let head = rest-head gapped rest some in
      let n = next gapped rest some in
      let later = rest-head gapped (next-rest gapped rest some blank) (next-some gapped rest some blank) in
      first_line-skip s b e (rw head blank) ∙ ap (λ (l : Line). first_line s (b + length l) e) head
      ∙ first_line-here s n e (rw later (next-nonblank gapped rest some blank))

  first_plain : 0 < F (lines_in s b h) → blank_line (line_in s b h) ≡ false → first_line s b e ≡ b
  first_plain some plain = first_line-here s b e (rw (rest-head gapped rest some) plain)

  first-none : F (lines_in s b h) ≡ 0 → first_line s b e ≡ b
  first-none none = first_line-none s b e (omega (arith, rest-none gapped rest none))

  -- one blank line may stand there, not two
  first-cases : (P : ℕ → Type 0) → ((some : 0 < F (lines_in s b h)) → blank_line (line_in s b h) ≡ true → P (next gapped rest some))
      → (0 < F (lines_in s b h) → blank_line (line_in s b h) ≡ false → P b) → (F (lines_in s b h) ≡ 0 → P b) → P (first_line s b e)
  first-cases P f g k =
      split 0 (F (lines_in s b h))
      (λ some. cases (blank_line (line_in s b h))
      (λ i. rw (first-blank some i) (f some i))
      (λ i. rw (first_plain some i) (g some i)))
      (λ i. let none : F (lines_in s b h) ≡ 0 = omega arith in rw (first-none none) (k none))

  pub rest-first : First F s h e (first_line s b e)
  rest-first =
      record {
        start = first-start;
        rest = first-cases (Rest F s h e) (next-rest gapped rest) (λ some i. rest) (λ none. rest);
        nonblank =
            first-cases (λ p. p < e → blank_line (line_in s p h) ≡ false)
            (λ some i j. next-nonblank gapped rest some i)
            (λ some i j. i)
            (λ none j. absurd (omega (arith, rest-none gapped rest none)));
      }
