-- Lines of an item in a text, counted one by one: where they end, how many they are, and where they go on to the end.
-- Assumes nothing.
use mathlib.Core.Path.{◌≡◌, sym, ap, ◌∙◌}
use mathlib.Core.List.{List, []}
use Prim.Native.Nat.{ℕ, suc, ◌+◌, ◌≤◌, ◌<◌}
use native.Mathlib.Omega.{arith}
use lib.ListN.{length, take, drop, length-drop}
use Rattle.text.specs.Lines.{Line, size, blanks}
use Rattle.text.specs.Parts.{lines_in, line_in, first_line}
use Rattle.text.proofs.Laws.Lines.{size-take-add}
use Rattle.text.proofs.Laws.LinesIn.{lines_in-nil, lines_in-drop, lines_in-length, within-lines_in}
use Rattle.rules.specs.Lists.{item_lines}
use Rattle.rules.specs.Scans.{run_by, item_run}
use Rattle.rules.proofs.Laws.LineOf.{line-next}
use Rattle.rules.proofs.Laws.Paragraphs.{line_run, line_run-same}
use Rattle.rules.proofs.Laws.Scans.{later}
use Rattle.rules.proofs.Laws.ScanRuns.{IsNext, next-from, next-nonblank, next-later, next-after, next-few}
use Rattle.rules.proofs.Laws.ToEnd.{Deep, rest, deep-lines, deep-next}

-- byte p comes after n of the lines from byte a up to byte e
pub record After (s : List ℕ) (a e p n : ℕ) : Type 0 where
  pub is : p ≡ a + size (take n (lines_in s a e))
  pub few : n ≤ length (lines_in s a e)

pub after-start : (s : List ℕ) (a e : ℕ) → After s a e a 0
unfolding size
after-start s a e = record { is = omega arith; few = omega arith }

module _ {s : List ℕ} {a e p n : ℕ} (o : a ≤ e) (t : e ≤ length s) (h : After s a e p n) where
  abbrev ls : List Line
  ls = lines_in s a e

  pub after-order : (a ≤ p) × (p ≤ e) × (n ≤ e)
  after-order = omega (arith, h.is, h.few, within-lines_in s a e o t n, lines_in-length s a e o t)

  after-lines : lines_in s p e ≡ drop n ls
  after-lines = ap (λ (x : ℕ). lines_in s x e) h.is ∙ lines_in-drop s a e n

  -- past the next line
  pub after_next : {q b v k : ℕ} → IsNext s p e q b v k → (x : ℕ) → x ≡ q + length (line_in s q e) → After s a e x (n + (k + 1))
  after_next {k = k} next x i =
      let to = after-order.1 in
      let end = next-after next to t x i in
      let sizes = ap (λ (y : List Line). size (take (k + 1) y)) after-lines in
      record {
        is = omega (arith, h.is, end, sizes, size-take-add n (k + 1) ls);
        few = omega (arith, h.few, next-few next to t, ap length after-lines, length-drop n ls);
      }

  -- they are all that an item has
  pub after-item : (w : ℕ) → item_lines w 0 ls ≡ n → line_run p n ≡ item_run s a e w
  unfolding item_run run_by
  after-item w i = rw i (line_run-same h.is (omega arith))

-- past it no more lines are counted than there are bytes, and it ends further on
pub after-further : {s : List ℕ} {a e p n q b v k : ℕ} → a ≤ e → e ≤ length s → After s a e p n → IsNext s p e q b v k → (x : ℕ)
    → x ≡ q + length (line_in s q e) → (n + (k + 1) ≤ e) × (p < x) × (x ≤ e)
after-further o t h next x i =
    omega (arith, after-order o t (after_next o t h next x i), next-from next, line-next _ _ _ x i next.some t)

-- ---- lines that go on to the end

-- up to byte p they are indented more than w: they go on to the end if those from there on do
abbrev pub DeepTo : ℕ → List ℕ → ℕ → ℕ → ℕ → ℕ → Type 0
DeepTo w s a e p n = (j : ℕ) → Deep w j (lines_in s p e) → Deep w (n + j) (lines_in s a e)

module _ (w : ℕ) (s : List ℕ) (a e p n : ℕ) (o : p ≤ e) (t : e ≤ length s) (h : DeepTo w s a e p n) where
  pub deep-line : {q b v k : ℕ} → IsNext s p e q b v k → w < v → (x : ℕ) → x ≡ q + length (line_in s q e) → DeepTo w s a e x (n + (k + 1))
  deep-line {q = q} {k = k} next i x g j d =
      let line = line_in s q e in
      let same : n + (k + 1) + j ≡ n + (k + suc j) = omega arith in
      rw same
      (h (k + suc j)
      (deep-next w j line _ (lines_in s p e) (next-nonblank next o t) (rw next.wide at i) (rw g at d) (rw next.gap at next.few)
      (next-later next o t) (k + suc j) (ap (λ (m : ℕ). m + suc j) next.gap)))

  -- only blank lines are left
  pub deep-all : e ≤ first_line s p e → item_lines w 0 (lines_in s a e) ≡ n
  unfolding first_line
  deep-all i =
      let ls = lines_in s p e in
      let none : later ls ≡ [] = sym (lines_in-drop s p e (blanks ls)) ∙ lines_in-nil s _ e i in
      deep-lines w (n + 0) (lines_in s a e) (h 0 (rest none)) ∙ omega arith
