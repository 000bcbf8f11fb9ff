-- Lines of an item that go on to the end: where each that is not blank is indented more than the item, and no two blank lines stand before one, the
-- item has all of them up to the last that is not blank, whatever blocks, drawers and tables there are.
-- Assumes nothing.
use mathlib.Core.Path.{◌≡◌, sym, ap, ◌∙◌}
use mathlib.Core.Bool.{true, false, true≢false}
use mathlib.Core.List.{List, [], ◌∷◌}
use Prim.Native.Nat.{ℕ, zero, suc, ◌+◌, ◌-◌, ◌≤◌, ◌<◌}
use native.Mathlib.Omega.{arith}
use lib.ListN.{length, drop, length-drop, drop_of_length-le}
use borrow.Table.Steps.{cases}
use Rattle.text.specs.Lines.{Line, blank_line, head_line, leading, blanks}
use Rattle.text.proofs.Laws.Lines.{blank_line-nil, leading-before}
use Rattle.rules.specs.Items.{width}
use Rattle.rules.specs.Lists.{together, item_lines}
use Rattle.rules.proofs.Laws.LastLines.{together-last}
use Rattle.rules.proofs.Laws.Scans.{split, with_blank-some, item_lines-nil, item_lines-gap, item_lines-together, item-gapped, gapped-none}
use Rattle.rules.proofs.Laws.Scans.{blanks-none, blanks-one, later}
use Rattle.rules.proofs.Laws.Together.{together-least}

-- lines of which the first n are indented more than w, one blank line before each at most, and all others are blank
pub data Deep (w : ℕ) : ℕ → List Line → Type 0 where
  rest : {ls : List Line} → later ls ≡ [] → Deep w 0 ls
  line : {n : ℕ} {l : Line} {ls : List Line} → blank_line l ≡ false → w < width l → Deep w n ls → Deep w (suc n) (l ∷ ls)
  gap : {n : ℕ} {b l : Line} {ls : List Line} → blank_line b ≡ true → blank_line l ≡ false → w < width l → Deep w n ls
      → Deep w (suc (suc n)) (b ∷ l ∷ ls)

later-blank : (ls : List Line) → later ls ≡ [] → (j : ℕ) → blank_line (head_line (drop j ls)) ≡ true
unfolding head_line blanks
later-blank ls h j =
    split j (blanks ls)
    (leading-before blank_line ls j)
    (λ i. let few : length ls ≤ j = omega (arith, length-drop (blanks ls) ls, ap length h) in rw (drop_of_length-le ls few) blank_line-nil)

-- past some of them, up to one that is not blank
deep-pass : {w n : ℕ} {ls : List Line} → Deep w n ls → (j : ℕ) → blank_line (head_line (drop j ls)) ≡ false
    → (k : ℕ) × (n ≡ suc j + k) × Deep w k (drop (suc j) ls)
unfolding head_line
deep-pass {ls = ls} (rest h) j i = absurd (true≢false (sym (later-blank ls h j) ∙ i))
deep-pass (line {n = n} e d x) zero i = (n, omega arith, x)
deep-pass (line e d x) (suc j) i = let (k, a, y) = deep-pass x j i in (k, omega arith, y)
deep-pass (gap b e d x) zero i = absurd (true≢false (sym b ∙ i))
deep-pass (gap {n = n} b e d x) (suc zero) i = (n, omega arith, x)
deep-pass (gap b e d x) (suc (suc j)) i = let (k, a, y) = deep-pass x j i in (k, omega arith, y)

-- the scan passes them all, where it passes all of any fewer
deep_step : (w n : ℕ) (ls : List Line) → ((k : ℕ) (x : List Line) → k < n → Deep w k x → item_lines w 0 x ≡ k) → Deep w n ls → item_lines w 0 ls ≡ n
unfolding head_line
deep_step w zero ls f (rest r) = gapped-none (item-gapped w) ls (ap (item_lines w 0) r ∙ item_lines-nil w 0)
deep_step w (suc n) [] f r = elim r [ ]
deep_step w (suc n) (l ∷ ls) f (line e d x) =
    let j = together (l ∷ ls) - 1 in
    let one : together (l ∷ ls) ≡ suc j = omega (arith, together-least (l ∷ ls)) in
    let (k, a, y) = deep-pass (line e d x) j (together-last l ls e j one) in
    item_lines-together w l ls e d ∙ rw one (omega (arith, f k (drop (suc j) (l ∷ ls)) (omega arith) y))
deep_step w (suc (suc n)) (b ∷ l ∷ ls) f (gap g e d x) =
    let after = f (suc n) (l ∷ ls) (omega arith) (line e d x) in
    omega (arith, item_lines-gap w b (l ∷ ls) g e, with_blank-some (item_lines w 0 (l ∷ ls)) (omega arith))

-- by a bound on how many there are
deep-few : (w c n : ℕ) (ls : List Line) → n ≤ c → Deep w n ls → item_lines w 0 ls ≡ n
deep-few w zero n ls h = deep_step w n ls (λ k x i. absurd (omega arith))
deep-few w (suc c) n ls h = deep_step w n ls (λ k x i. deep-few w c k x (omega arith))

pub deep-lines : (w n : ℕ) (ls : List Line) → Deep w n ls → item_lines w 0 ls ≡ n
deep-lines w n ls = deep-few w n n ls (omega arith)

-- the next line that is not blank, and those after it
pub deep-next : (w n : ℕ) (l : Line) (after ls : List Line) → blank_line l ≡ false → w < width l → Deep w n after → blanks ls ≤ 1
    → later ls ≡ l ∷ after → (m : ℕ) → m ≡ blanks ls + suc n → Deep w m ls
unfolding blanks leading head_line
deep-next w n l after [] e d x few h m i = absurd (let z : ◌≡◌ {A = ℕ} 0 1 = cc in omega arith)
deep-next w n l after (b ∷ ls) e d x few h m i = cases (blank_line b)
    (λ g.
    let none : blanks ls ≡ 0 = omega (arith, blanks-one b ls g) in
    let z : m ≡ suc (suc n) = omega (arith, blanks-one b ls g) in
    let same : ls ≡ l ∷ after = rw (blanks-one b ls g, none) at h in
    rw (z, same) (gap g e d x))
    (λ g.
    let z : m ≡ suc n = omega (arith, blanks-none (b ∷ ls) g) in
    let same : b ∷ ls ≡ l ∷ after = rw (blanks-none (b ∷ ls) g) at h in
    rw (z, same) (line e d x))
