-- The scans for two indentations: the scan for an item's lines passes those of an item indented no less, and those of a list indented more, and goes on
-- after them.
-- Assumes nothing.
use mathlib.Core.Path.{◌≡◌, ap, ◌∙◌}
use mathlib.Core.Bool.{true, false, ◌&&◌}
use mathlib.Core.List.{List, [], ◌∷◌}
use Prim.Native.Nat.{ℕ, zero, suc, ◌+◌, ◌-◌, ◌≤◌, ◌<◌}
use native.Mathlib.Omega.{arith}
use native.Mathlib.Nat.{zero-add}
use lib.Dec.{eqb}
use lib.ListN.{length, drop, length-drop}
use lib.Seq.{drop-drop}
use borrow.Table.Steps.{cases}
use borrow.Author.Tests.{eqb-true}
use Rattle.text.specs.Lines.{Line, blank_line, head_line}
use Rattle.rules.specs.Items.{width, is_item}
use Rattle.rules.specs.Lists.{together, with_blank, item_lines, list_lines}
use Rattle.rules.proofs.Basics.{and_yes}
use Rattle.rules.proofs.Laws.Alone.{Alone, item-alone}
use Rattle.rules.proofs.Laws.Scans.{split, with_blank-none, with_blank-some, item_lines-nil, item_lines-skip, item_lines-two, item_lines-gap, item_lines-out}
use Rattle.rules.proofs.Laws.Scans.{item_lines-in, item_lines-le, list_lines-nil, list_lines-two, list_lines-gap, list_lines-out, list_lines-in, list_lines-le}
use Rattle.rules.proofs.Laws.Scans.{list_lines-pass}
use Rattle.rules.proofs.Laws.Together.{together-one}

-- the scan passes n lines and goes on after them
abbrev pub Passes : ℕ → List Line → ℕ → Type 0
Passes w ls n = item_lines w 0 ls ≡ n + item_lines w 0 (drop n ls)

pub passes_none : (w : ℕ) (ls : List Line) (n : ℕ) → n ≡ 0 → Passes w ls n
passes_none w ls n h = rw h (rw zero-add)

-- a line that is not blank and stands by itself
pub item_lines-one : (w : ℕ) (l : Line) (ls : List Line) → blank_line l ≡ false → Alone (l ∷ ls) → w < width l → item_lines w 0 (l ∷ ls) ≡ suc (item_lines w 0 ls)
item_lines-one w l ls e a d = item_lines-in w l ls e d ∙ ap (λ (m : ℕ). suc (item_lines w (m - 1) ls)) (together-one (l ∷ ls) a)

-- past a blank line
passes-blank : (w : ℕ) (l : Line) (ls : List Line) (n : ℕ) → blank_line l ≡ true → blank_line (head_line ls) ≡ false → Passes w ls n
    → Passes w (l ∷ ls) (with_blank n)
passes-blank w l ls n e d h =
    split 0 n
    (λ i. rw (with_blank-some n i) (omega (arith, item_lines-gap w l ls e d, with_blank-some (item_lines w 0 ls) (omega arith))))
    (λ i. passes_none w (l ∷ ls) (with_blank n) (with_blank-none n (omega arith)))

-- ---- an item's lines

pub item_lines-passes : (w v : ℕ) → w ≤ v → (m : ℕ) (ls : List Line)
    → item_lines w m ls ≡ item_lines v m ls + item_lines w 0 (drop (item_lines v m ls) ls)
item_lines-passes w v h m [] = rw (item_lines-nil w m, item_lines-nil v m, item_lines-nil w 0)
item_lines-passes w v h (suc m) (l ∷ ls) =
    rw (item_lines-skip v l ls m) (omega (arith, item_lines-skip w l ls m, item_lines-passes w v h m ls))
item_lines-passes w v h zero (l ∷ ls) =
    cases (blank_line l)
    (λ e. cases (blank_line (head_line ls))
    (λ d. passes_none w (l ∷ ls) (item_lines v 0 (l ∷ ls)) (item_lines-two v l ls e d))
    (λ d. rw (item_lines-gap v l ls e d) (passes-blank w l ls (item_lines v 0 ls) e d (item_lines-passes w v h 0 ls))))
    (λ e. split v (width l)
    (λ d. rw (item_lines-in v l ls e d)
    (omega (arith, item_lines-in w l ls e (omega arith), item_lines-passes w v h (together (l ∷ ls) - 1) ls)))
    (λ d. passes_none w (l ∷ ls) (item_lines v 0 (l ∷ ls)) (item_lines-out v l ls e d)))

-- ---- a list's lines

-- an item line of indentation v
abbrev pub ItemOf : ℕ → Line → Type 0
ItemOf v l = (is_item l && eqb (width l) v) ≡ true

pub item_of-item : (v : ℕ) (l : Line) → ItemOf v l → is_item l ≡ true
item_of-item v l h = (and_yes (is_item l) (eqb (width l) v) h).0

pub item_of-width : (v : ℕ) (l : Line) → ItemOf v l → width l ≡ v
item_of-width v l h = eqb-true (width l) v (and_yes (is_item l) (eqb (width l) v) h).1

-- past an item's lines
passes-item : (w v : ℕ) → w < v → (l : Line) (ls : List Line) → blank_line l ≡ false → ItemOf v l
    → (let rest = drop (item_lines v 0 ls) ls in Passes w rest (list_lines v 0 rest)) → Passes w (l ∷ ls) (list_lines v 0 (l ∷ ls))
unfolding head_line
passes-item w v h l ls e d later =
    let a = item_lines v 0 ls in
    let c = list_lines v 0 (drop a ls) in
    let many : list_lines v 0 (l ∷ ls) ≡ suc (a + c) = list_lines-in v l ls e d ∙ ap suc (list_lines-pass v a ls (item_lines-le v 0 ls)) in
    let first = item_lines-one w l ls e (item-alone (l ∷ ls) (item_of-item v l d)) (omega (arith, item_of-width v l d)) in
    let inner = item_lines-passes w v (omega arith) 0 ls in
    rw (many, ← drop-drop c a ls) (omega (arith, first, inner, later))

-- a list's lines are passed where those of every shorter rest are
list-passes : (w v : ℕ) → w < v → (ls : List Line) → ((rest : List Line) → length rest < length ls → Passes w rest (list_lines v 0 rest))
    → Passes w ls (list_lines v 0 ls)
list-passes w v h [] f = passes_none w [] (list_lines v 0 []) (list_lines-nil v 0)
list-passes w v h (l ∷ ls) f =
    cases (blank_line l)
    (λ e. cases (blank_line (head_line ls))
    (λ d. passes_none w (l ∷ ls) (list_lines v 0 (l ∷ ls)) (list_lines-two v l ls e d))
    (λ d. rw (list_lines-gap v l ls e d) (passes-blank w l ls (list_lines v 0 ls) e d (f ls (omega arith)))))
    (λ e. cases (is_item l && eqb (width l) v)
    (λ d. let a = item_lines v 0 ls in passes-item w v h l ls e d (f (drop a ls) (omega (arith, length-drop a ls))))
    (λ d. passes_none w (l ∷ ls) (list_lines v 0 (l ∷ ls)) (list_lines-out v l ls e d)))

-- by a bound on how many lines there are
list-passes-few : (w v : ℕ) → w < v → (n : ℕ) (ls : List Line) → length ls ≤ n → Passes w ls (list_lines v 0 ls)
list-passes-few w v h zero ls b = passes_none w ls (list_lines v 0 ls) (omega (arith, list_lines-le v 0 ls))
list-passes-few w v h (suc n) ls b = list-passes w v h ls (λ rest d. list-passes-few w v h n rest (omega arith))

pub list_lines-passes : (w v : ℕ) → w < v → (ls : List Line) → Passes w ls (list_lines v 0 ls)
list_lines-passes w v h ls = list-passes-few w v h (length ls) ls (omega arith)
