-- The last of the lines that stand or fall with a line that is not blank: the closer of a block or drawer, a row or formula line of a table, or the
-- line itself. It is not blank.
-- Assumes nothing.
use mathlib.Core.Path.{◌≡◌, refl, sym, ap, ◌∙◌}
use mathlib.Core.Bool.{true, false}
use mathlib.Core.List.{List, [], ◌∷◌}
use mathlib.Core.Option.{Option, none, some, map}
use Prim.Native.Nat.{ℕ, zero, suc, ◌+◌, ◌-◌, ◌<◌}
use native.Mathlib.Omega.{arith}
use lib.ListN.{drop}
use lib.Seq.{drop-drop}
use borrow.Table.Steps.{cases}
use Rattle.text.specs.Runs.{word, is_empty, same, begins}
use Rattle.text.specs.Lines.{Line, blank_line, body, head_line, tail_lines}
use Rattle.text.proofs.Laws.Lines.{leading-before}
use Rattle.rules.specs.Kind
use Rattle.rules.specs.LineTests.{block_name, is_drawer_line, is_row, is_formula}
use Rattle.rules.specs.Elements.{Found, found, rule, lines_before, block_of, block, drawer, line_and, row_lines, table}
use Rattle.rules.specs.Elements.{first_of, rules3to9, rules3to5}
use Rattle.rules.specs.Lists.{together}
use Rattle.rules.proofs.Basics.{options, some-none, all_nil, all_cons}
use Rattle.rules.proofs.Laws.LineRules.{If, if-when, if-first, if-default}
use Rattle.rules.proofs.Laws.Prefixes.{block_of-own}
use Rattle.rules.proofs.Laws.PropertyDrawers.{nonblank}
use Rattle.rules.proofs.Laws.Scans.{split}

-- a closer
closer-nonblank : (b : ℕ) (x : List ℕ) (ls : List Line) (n : ℕ) → lines_before (b ∷ x) ls ≡ some n → blank_line (head_line (drop n ls)) ≡ false
unfolding lines_before head_line same
closer-nonblank b x [] n h = absurd (some-none n (sym h))
closer-nonblank b x (l ∷ ls) n h = cases (same (body l) (b ∷ x))
    (λ e. let g = rw (e, lines_before) at h in let z : n ≡ 0 = cc in rw z (nonblank l (λ y. same y (b ∷ x)) refl e))
    (λ e. options (lines_before (b ∷ x) ls)
    (λ i. absurd (some-none n (sym (rw (e, i, lines_before) at h))))
    (λ m i. let g = rw (e, i, lines_before) at h in let z : n ≡ suc m = cc in rw z (closer-nonblank b x ls m i)))

-- a line whose body begins with some bytes
begins-nonblank : (b : ℕ) (x : List ℕ) (l : Line) → begins (body l) (b ∷ x) ≡ true → blank_line l ≡ false
unfolding begins
begins-nonblank b x l = nonblank l (λ y. begins y (b ∷ x)) refl

row-nonblank : (l : Line) → is_row l ≡ true → blank_line l ≡ false
unfolding is_row word
row-nonblank = begins-nonblank _ _

formula-nonblank : (l : Line) → is_formula l ≡ true → blank_line l ≡ false
unfolding is_formula word
formula-nonblank = begins-nonblank _ _

if-map : (P : Found → Type 0) (g : ℕ → Found) (o : Option ℕ) → ((n : ℕ) → o ≡ some n → P (g n)) → If P (map g o)
if-map P g none h = tt
if-map P g (some n) h = h n refl

module _ (l : Line) (ls : List Line) (e : blank_line l ≡ false) where
  abbrev all : List Line
  all = l ∷ ls

  -- the last of its own lines
  abbrev P : Found → Type 0
  P f = (m : ℕ) → f.own ≡ suc m → blank_line (head_line (drop m all)) ≡ false

  -- an opener, some lines and a closer
  closed-last : (g : ℕ → Found) → ((n : ℕ) → (g n).own ≡ n + 2) → (b : ℕ) (x : List ℕ) → If P (map g (lines_before (b ∷ x) ls))
  closed-last g own b x =
      if-map P g (lines_before (b ∷ x) ls)
      (λ n k m h. let z : m ≡ suc n = omega (arith, own n) in rw z (closer-nonblank b x ls n k))

  block_last : If P (block all)
  unfolding block head_line tail_lines word
  block_last =
      let x = block_name l in
      cases (is_empty x)
      (λ i. rw (i, block) tt)
      (λ i. rw (i, block) (closed-last (λ n. block_of x (n + 2)) (λ n. block_of-own x (n + 2)) _ _))

  drawer-last : If P (drawer all)
  unfolding drawer head_line tail_lines word
  drawer-last = cases (is_drawer_line l)
      (λ i. rw (i, drawer) (closed-last (λ n. found Kind.drawer (n + 2) 0) (λ n. refl) _ _))
      (λ i. rw (i, drawer) tt)

  row_last : (m : ℕ) → m < row_lines all → blank_line (head_line (drop m all)) ≡ false
  unfolding row_lines line_and head_line tail_lines
  row_last zero h = e
  row_last (suc m) h = row-nonblank _ (leading-before is_row ls m (omega arith))

  table-last : If P (table all)
  unfolding table
  table-last =
      let n = row_lines all in
      if-when P _ _
      (λ i m h. split m n (row_last m)
      (λ k.
      let z : n + (m - n) ≡ m = omega arith in
      let at : drop (m - n) (drop n all) ≡ drop m all = drop-drop (m - n) n all ∙ ap (λ (j : ℕ). drop j all) z in
      rw (← at) (formula-nonblank _ (leading-before is_formula (drop n all) (m - n) (omega arith)))))

  pub together-last : (m : ℕ) → together all ≡ suc m → blank_line (head_line (drop m all)) ≡ false
  unfolding together rules3to5 rules3to9 head_line
  together-last =
      if-default P all (first_of rules3to5 all) (found Kind.paragraph 1 0)
      (if-first P all
      (all_cons {a = rule (word "#") block} block_last
      (all_cons {a = rule (word ":") drawer} drawer-last (all_cons {a = rule (word "|") table} table-last all_nil))))
      (λ m h. let z : m ≡ 0 = omega arith in rw z e)
