-- Laws of the scans for an item's lines and for a list's: line by line, past lines that go with the line before them, and past a blank line.
-- Assumes nothing.
use mathlib.Core.Path.{◌≡◌, refl, ap, ◌∙◌}
use mathlib.Core.Bool.{true, false, ◌&&◌}
use mathlib.Core.List.{List, [], ◌∷◌}
use Prim.Native.Nat.{ℕ, zero, suc, ◌+◌, ◌-◌, ◌≤◌, ◌<◌}
use native.Mathlib.Omega.{arith}
use native.Mathlib.Nat.{zero-add}
use lib.Dec.{ltb, eqb}
use lib.ListN.{length, drop}
use borrow.Table.Steps.{cases}
use borrow.Author.Tests.{ltb-true, ltb-false, le-leb, lt-leb}
use Rattle.text.specs.Lines.{Line, blank_line, head_line, tail_lines, leading, blanks}
use Rattle.text.proofs.Laws.Lines.{blank_line-nil, leading-zero}
use Rattle.rules.specs.Items.{width, is_item}
use Rattle.rules.specs.Lists.{together, with_blank, item_lines, list_lines}
use Rattle.rules.proofs.Laws.Together.{together-least, together-most}

pub split {χ} : {X : Type χ} (m n : ℕ) → (m < n → X) → (n ≤ m → X) → X
split m n f g = cases (ltb m n) (λ e. f (ltb-true m n e)) (λ e. g (ltb-false m n e))

-- ---- a blank line and what follows it

with_blank-le : (n : ℕ) → with_blank n ≤ suc n
unfolding with_blank
with_blank-le zero = omega arith
with_blank-le (suc n) = omega arith

pub with_blank-none : (n : ℕ) → n ≡ 0 → with_blank n ≡ 0
unfolding with_blank
with_blank-none n h = rw h

pub with_blank-some : (n : ℕ) → 0 < n → with_blank n ≡ suc n
unfolding with_blank
with_blank-some zero h = absurd (omega arith)
with_blank-some (suc n) h = refl

-- ---- line by line

module _ (w : ℕ) where
  pub item_lines-nil : (m : ℕ) → item_lines w m [] ≡ 0
  unfolding item_lines
  item_lines-nil zero = refl
  item_lines-nil (suc m) = refl

  pub list_lines-nil : (m : ℕ) → list_lines w m [] ≡ 0
  unfolding list_lines
  list_lines-nil zero = refl
  list_lines-nil (suc m) = refl

module _ (w : ℕ) (l : Line) (ls : List Line) where
  pub item_lines-skip : (m : ℕ) → item_lines w (suc m) (l ∷ ls) ≡ suc (item_lines w m ls)
  unfolding item_lines
  item_lines-skip m = refl

  pub item_lines-two : blank_line l ≡ true → blank_line (head_line ls) ≡ true → item_lines w 0 (l ∷ ls) ≡ 0
  unfolding item_lines
  item_lines-two h i = rw (h, i, item_lines)

  pub item_lines-gap : blank_line l ≡ true → blank_line (head_line ls) ≡ false → item_lines w 0 (l ∷ ls) ≡ with_blank (item_lines w 0 ls)
  unfolding item_lines
  item_lines-gap h i = rw (h, i, item_lines)

  pub item_lines-out : blank_line l ≡ false → width l ≤ w → item_lines w 0 (l ∷ ls) ≡ 0
  unfolding item_lines
  item_lines-out h i = rw (h, le-leb (width l) w i, item_lines)

  pub item_lines-in : blank_line l ≡ false → w < width l → item_lines w 0 (l ∷ ls) ≡ suc (item_lines w (together (l ∷ ls) - 1) ls)
  unfolding item_lines
  item_lines-in h i = rw (h, lt-leb (width l) w i, item_lines)

  pub list_lines-skip : (m : ℕ) → list_lines w (suc m) (l ∷ ls) ≡ suc (list_lines w m ls)
  unfolding list_lines
  list_lines-skip m = refl

  pub list_lines-two : blank_line l ≡ true → blank_line (head_line ls) ≡ true → list_lines w 0 (l ∷ ls) ≡ 0
  unfolding list_lines
  list_lines-two h i = rw (h, i, list_lines)

  pub list_lines-gap : blank_line l ≡ true → blank_line (head_line ls) ≡ false → list_lines w 0 (l ∷ ls) ≡ with_blank (list_lines w 0 ls)
  unfolding list_lines
  list_lines-gap h i = rw (h, i, list_lines)

  pub list_lines-out : blank_line l ≡ false → (is_item l && eqb (width l) w) ≡ false → list_lines w 0 (l ∷ ls) ≡ 0
  unfolding list_lines
  list_lines-out h i = rw (h, i, list_lines)

  pub list_lines-in : blank_line l ≡ false → (is_item l && eqb (width l) w) ≡ true → list_lines w 0 (l ∷ ls) ≡ suc (list_lines w (item_lines w 0 ls) ls)
  unfolding list_lines
  list_lines-in h i = rw (h, i, list_lines)

-- ---- they are among the lines

pub item_lines-le : (w m : ℕ) (ls : List Line) → item_lines w m ls ≤ length ls
item_lines-le w m [] = omega (arith, item_lines-nil w m)
item_lines-le w (suc m) (l ∷ ls) = omega (arith, item_lines-skip w l ls m, item_lines-le w m ls)
item_lines-le w zero (l ∷ ls) =
    cases (blank_line l)
    (λ e. cases (blank_line (head_line ls))
    (λ d. omega (arith, item_lines-two w l ls e d))
    (λ d. omega (arith, item_lines-gap w l ls e d, with_blank-le (item_lines w 0 ls), item_lines-le w 0 ls)))
    (λ e. split w (width l)
    (λ d. omega (arith, item_lines-in w l ls e d, item_lines-le w (together (l ∷ ls) - 1) ls))
    (λ d. omega (arith, item_lines-out w l ls e d)))

pub list_lines-le : (w m : ℕ) (ls : List Line) → list_lines w m ls ≤ length ls
list_lines-le w m [] = omega (arith, list_lines-nil w m)
list_lines-le w (suc m) (l ∷ ls) = omega (arith, list_lines-skip w l ls m, list_lines-le w m ls)
list_lines-le w zero (l ∷ ls) =
    cases (blank_line l)
    (λ e. cases (blank_line (head_line ls))
    (λ d. omega (arith, list_lines-two w l ls e d))
    (λ d. omega (arith, list_lines-gap w l ls e d, with_blank-le (list_lines w 0 ls), list_lines-le w 0 ls)))
    (λ e. cases (is_item l && eqb (width l) w)
    (λ d. omega (arith, list_lines-in w l ls e d, list_lines-le w (item_lines w 0 ls) ls))
    (λ d. omega (arith, list_lines-out w l ls e d)))

-- ---- past lines that go with the line before them

pub item_lines-pass : (w m : ℕ) (ls : List Line) → m ≤ length ls → item_lines w m ls ≡ m + item_lines w 0 (drop m ls)
item_lines-pass w zero ls h = rw zero-add
item_lines-pass w (suc m) [] h = absurd (omega arith)
item_lines-pass w (suc m) (l ∷ ls) h = omega (arith, item_lines-skip w l ls m, item_lines-pass w m ls (omega arith))

pub list_lines-pass : (w m : ℕ) (ls : List Line) → m ≤ length ls → list_lines w m ls ≡ m + list_lines w 0 (drop m ls)
list_lines-pass w zero ls h = rw zero-add
list_lines-pass w (suc m) [] h = absurd (omega arith)
list_lines-pass w (suc m) (l ∷ ls) h = omega (arith, list_lines-skip w l ls m, list_lines-pass w m ls (omega arith))

-- past the lines that stand or fall with the first
pub item_lines-together : (w : ℕ) (l : Line) (ls : List Line) → blank_line l ≡ false → w < width l → let m = together (l ∷ ls) in
    item_lines w 0 (l ∷ ls) ≡ m + item_lines w 0 (drop m (l ∷ ls))
unfolding tail_lines
item_lines-together w l ls h i =
    let m = together (l ∷ ls) - 1 in
    let some : together (l ∷ ls) ≡ suc m = omega (arith, together-least (l ∷ ls)) in
    let few : m ≤ length ls = omega (arith, together-most (l ∷ ls)) in
    rw some (omega (arith, item_lines-in w l ls h i, item_lines-pass w m ls few))

-- the lines of a list after an item's first
unfoldable pub list_rest : ℕ → List Line → ℕ
list_rest w ls = list_lines w (item_lines w 0 ls) ls

-- past the item's
pub list_rest-pass : (w : ℕ) (ls : List Line) → let m = item_lines w 0 ls in list_rest w ls ≡ m + list_lines w 0 (drop m ls)
unfolding list_rest
list_rest-pass w ls = list_lines-pass w (item_lines w 0 ls) ls (item_lines-le w 0 ls)

-- ---- scans that go past one blank line, and end at two

pub record Gapped (F : List Line → ℕ) : Type 0 where
  pub nil : F [] ≡ 0
  pub two : (l : Line) (ls : List Line) → blank_line l ≡ true → blank_line (head_line ls) ≡ true → F (l ∷ ls) ≡ 0
  pub gap : (l : Line) (ls : List Line) → blank_line l ≡ true → blank_line (head_line ls) ≡ false → F (l ∷ ls) ≡ with_blank (F ls)

pub item-gapped : (w : ℕ) → Gapped (item_lines w 0)
item-gapped w = record { nil = item_lines-nil w 0; two = item_lines-two w; gap = item_lines-gap w }

pub list-gapped : (w : ℕ) → Gapped (list_lines w 0)
list-gapped w = record { nil = list_lines-nil w 0; two = list_lines-two w; gap = list_lines-gap w }

pub blanks-none : (ls : List Line) → blank_line (head_line ls) ≡ false → blanks ls ≡ 0
unfolding blanks
blanks-none ls h = leading-zero blank_line ls h

pub blanks-one : (l : Line) (ls : List Line) → blank_line l ≡ true → blanks (l ∷ ls) ≡ suc (blanks ls)
unfolding blanks leading
blanks-one l ls h = rw (h, leading)

-- the lines after the leading blank ones
abbrev pub later : List Line → List Line
later ls = drop (blanks ls) ls

module _ {F : List Line → ℕ} (g : Gapped F) where
  pub gapped-many : (ls : List Line) → 1 < blanks ls → F ls ≡ 0
  unfolding head_line blanks leading
  gapped-many [] h = g.nil
  gapped-many (l ∷ []) h = cases (blank_line l)
      (λ e. g.two l [] e blank_line-nil)
      (λ e. absurd (omega (arith, blanks-none (l ∷ []) e)))
  gapped-many (l ∷ m ∷ ls) h = cases (blank_line l)
      (λ e. cases (blank_line m)
      (λ d. g.two l (m ∷ ls) e d)
      (λ d. absurd (omega (arith, blanks-one l (m ∷ ls) e, blanks-none (m ∷ ls) d))))
      (λ e. absurd (omega (arith, blanks-none (l ∷ m ∷ ls) e)))

  -- a scan that finds nothing after them finds nothing
  pub gapped-none : (ls : List Line) → F (later ls) ≡ 0 → F ls ≡ 0
  unfolding head_line
  gapped-none [] h = g.nil
  gapped-none (l ∷ ls) h = cases (blank_line l)
      (λ e. cases (blank_line (head_line ls))
      (λ d. g.two l ls e d)
      (λ d. g.gap l ls e d ∙ with_blank-none (F ls) (rw (blanks-one l ls e, blanks-none ls d) at h)))
      (λ e. rw (blanks-none (l ∷ ls) e) at h)

  -- past one of them it goes on
  pub gapped-some : (ls : List Line) → blanks ls ≤ 1 → 0 < F (later ls) → F ls ≡ blanks ls + F (later ls)
  unfolding head_line blanks leading
  gapped-some [] k h = absurd (omega (arith, g.nil))
  gapped-some (l ∷ []) k h = cases (blank_line l)
      (λ e. absurd (let i = rw (blanks-one l [] e) at h in omega (arith, g.nil)))
      (λ e. rw (blanks-none (l ∷ []) e) (omega arith))
  gapped-some (l ∷ m ∷ ls) k h = cases (blank_line l)
      (λ e. cases (blank_line m)
      (λ d. absurd (omega (arith, blanks-one l (m ∷ ls) e, blanks-one m ls d)))
      (λ d.
      let one : blanks (l ∷ m ∷ ls) ≡ 1 = blanks-one l (m ∷ ls) e ∙ ap suc (blanks-none (m ∷ ls) d) in
      rw one (g.gap l (m ∷ ls) e d ∙ with_blank-some (F (m ∷ ls)) (rw one at h) ∙ omega arith)))
      (λ e. rw (blanks-none (l ∷ m ∷ ls) e) (omega arith))
