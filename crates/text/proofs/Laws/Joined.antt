-- Laws of two texts in one, the first of which ends its last line, and of the byte 10 that a text's last line lacks.
-- Assumes nothing.
use mathlib.Core.Path.{◌≡◌, refl, ap, ◌∙◌}
use mathlib.Core.Bool.{Bool, true, false, true≢false}
use mathlib.Core.List.{List, [], ◌∷◌, ◌++◌}
use Prim.Native.Nat.{ℕ, zero, suc, ◌<◌}
use native.Mathlib.Omega.{arith}
use lib.ListN.{length, get_or, drop}
use borrow.Table.Steps.{cases}
use Rattle.text.specs.Bytes.{is_newline, is_indent, is_non_blank}
use Rattle.text.specs.Runs.{run, after_run, trim_end}
use Rattle.text.specs.Lines.{Line, join_first, lines, is_ended, body}
use Rattle.text.proofs.Laws.Lines.{lines_step}
use Rattle.text.proofs.Laws.Runs.{trim_end-blank}

-- ---- where a text ends its last line, and where it does not

pub ended-line : (s : List ℕ) → is_ended (s ++ (10 ∷ [])) ≡ true
unfolding is_ended is_newline
ended-line [] = refl
ended-line (b ∷ []) = refl
ended-line (b ∷ c ∷ s) = ended-line (c ∷ s)

pub ended-drop : (n : ℕ) (s : List ℕ) → is_ended s ≡ true → is_ended (drop n s) ≡ true
unfolding is_ended
ended-drop zero s h = h
ended-drop (suc n) [] h = h
ended-drop (suc n) (b ∷ []) h = ended-drop n [] refl
ended-drop (suc n) (b ∷ c ∷ s) h = ended-drop n (c ∷ s) h

pub open-drop : (n : ℕ) (s : List ℕ) → is_ended s ≡ false → n < length s → is_ended (drop n s) ≡ false
unfolding is_ended
open-drop zero s h i = h
open-drop (suc n) [] h i = absurd (omega arith)
open-drop (suc n) (b ∷ []) h i = absurd (omega arith)
open-drop (suc n) (b ∷ c ∷ s) h i = open-drop n (c ∷ s) h (omega arith)

-- the last byte tells it
pub ended-byte : (s : List ℕ) (p : ℕ) → length s ≡ suc p → is_newline (get_or s p 0) ≡ is_ended s
unfolding is_ended
ended-byte [] p h = absurd (omega arith)
ended-byte (b ∷ []) zero h = refl
ended-byte (b ∷ []) (suc p) h = absurd (omega arith)
ended-byte (b ∷ c ∷ s) zero h = absurd (omega arith)
ended-byte (b ∷ c ∷ s) (suc p) h = ended-byte (c ∷ s) p (omega arith)

-- ---- the lines of both are the lines of each

pub lines-append : (s t : List ℕ) → is_ended s ≡ true → lines (s ++ t) ≡ lines s ++ lines t
unfolding lines join_first is_ended
lines-append [] t h = refl
lines-append (b ∷ []) t h = rw (h, lines)
lines-append (b ∷ c ∷ s) t h = cases (is_newline b)
    (λ n. rw (n, lines) (ap (λ (x : List Line). (b ∷ []) ∷ x) (lines-append (c ∷ s) t h)))
    (λ n. rw (n, lines) (rw (lines-append (c ∷ s) t h, lines_step c s)))

-- ---- a byte 10 more at the end

-- two lists of lines, alike but for a byte 10 that the second one's last line may have more
pub data Alike : List Line → List Line → Type 0 where
  alike-nil : Alike [] []
  alike-last : (l : Line) → Alike (l ∷ []) ((l ++ (10 ∷ [])) ∷ [])
  alike-cons : {ls ms : List Line} (l : Line) → Alike ls ms → Alike (l ∷ ls) (l ∷ ms)

alike-join : (b : ℕ) (ls ms : List Line) → Alike ls ms → Alike (join_first b ls) (join_first b ms)
unfolding join_first
alike-join b _ _ alike-nil = alike-cons (b ∷ []) alike-nil
alike-join b _ _ (alike-last l) = alike-last (b ∷ l)
alike-join b _ _ (alike-cons l h) = alike-cons (b ∷ l) h

pub alike-lines : (s : List ℕ) → is_ended s ≡ false → Alike (lines s) (lines (s ++ (10 ∷ [])))
unfolding is_ended lines join_first is_newline
alike-lines [] h = absurd (true≢false h)
alike-lines (b ∷ []) h = rw (h, lines) (alike-last (b ∷ []))
alike-lines (b ∷ c ∷ s) h = cases (is_newline b)
    (λ n. rw (n, lines) (alike-cons (b ∷ []) (alike-lines (c ∷ s) h)))
    (λ n. rw (n, lines) (alike-join b _ _ (alike-lines (c ∷ s) h)))

-- A run that byte 10 ends does not see it, nor does a body.
module _ (f : ℕ → Bool) (n : f 10 ≡ false) where
  pub run_more : (l : Line) → run f (l ++ (10 ∷ [])) ≡ run f l
  unfolding run
  run_more [] = rw (n, run)
  run_more (b ∷ l) = cases (f b) (λ h. rw (h, run) (ap (λ (x : Line). b ∷ x) (run_more l))) (λ h. rw (h, run))

  after_run-more : (l : Line) → after_run f (l ++ (10 ∷ [])) ≡ after_run f l ++ (10 ∷ [])
  unfolding after_run
  after_run-more [] = rw (n, after_run)
  after_run-more (b ∷ l) = cases (f b) (λ h. rw (h, after_run) (after_run-more l)) (λ h. rw (h, after_run))

pub body_more : (l : Line) → body (l ++ (10 ∷ [])) ≡ body l
unfolding body is_indent is_non_blank
body_more l = ap trim_end (after_run-more is_indent refl l) ∙ trim_end-blank (after_run is_indent l) 10 refl
