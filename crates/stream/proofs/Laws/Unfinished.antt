-- Laws of the unfinished line: where a text is a line, its byte 10 and what follows, the lines after the first are those of what follows, and so is
-- the unfinished one.
-- Assumes nothing.
use mathlib.Core.Path.{◌≡◌, refl, ◌∙◌}
use mathlib.Core.Bool.{true, false, true≢false}
use mathlib.Core.List.{List, [], ◌∷◌, ◌++◌}
use Prim.Native.Nat.{ℕ, ◌≤◌}
use native.Mathlib.Omega.{arith}
use lib.Dec.{eqb}
use lib.ListN.{length}
use borrow.Author.Tests.{not-true}
use borrow.Table.Steps.{cases}
use Rattle.text.specs.Bytes.{is_newline, is_not}
use Rattle.text.specs.Runs.{all}
use Rattle.text.specs.Lines.{Line, join_first, lines, is_ended, size}
use Rattle.text.proofs.Basics.{and_first, and_second}
use Rattle.text.proofs.Laws.Lines.{lines_step, size-lines}
use Rattle.stream.specs.State.{last_line, unfinished}
use Rattle.stream.proofs.Laws.Bytes.{all_append}

-- a line before its byte 10
abbrev pub NoNewline : Line → Type 0
NoNewline u = all (is_not 10) u ≡ true

module _ (b : ℕ) (u : Line) (h : NoNewline (b ∷ u)) where
  pub no-newline-first : is_newline b ≡ false
  unfolding all is_not is_newline
  no-newline-first = not-true (eqb b 10) (and_first (is_not 10 b) (all (is_not 10) u) h)

  pub no-newline-rest : NoNewline u
  unfolding all
  no-newline-rest = and_second (is_not 10 b) (all (is_not 10) u) h

pub no-newline-more : (u : Line) (b : ℕ) → NoNewline u → is_newline b ≡ false → NoNewline (u ++ (b ∷ []))
unfolding all is_not is_newline
no-newline-more u b h i = rw (all_append (is_not 10) u (b ∷ []), h, i)

-- ---- a line's byte 10, and none

pub lines-ended : (u x : List ℕ) → NoNewline u → lines (u ++ (10 ∷ x)) ≡ (u ++ (10 ∷ [])) ∷ lines x
unfolding lines join_first is_newline
lines-ended [] x h = refl
lines-ended (b ∷ u) x h = rw (no-newline-first b u h, lines) (rw (lines-ended u x (no-newline-rest b u h)))

pub lines-open : (b : ℕ) (u : Line) → NoNewline (b ∷ u) → lines (b ∷ u) ≡ (b ∷ u) ∷ []
unfolding lines join_first
lines-open b [] h = rw (no-newline-first b [] h, lines)
lines-open b (c ∷ u) h = rw (no-newline-first b (c ∷ u) h, lines) (rw (lines-open c u (no-newline-rest b (c ∷ u) h)))

is_ended-open : (b : ℕ) (u : Line) → NoNewline (b ∷ u) → is_ended (b ∷ u) ≡ false
unfolding is_ended
is_ended-open b [] h = no-newline-first b [] h
is_ended-open b (c ∷ u) h = is_ended-open c u (no-newline-rest b (c ∷ u) h)

is_ended-after : (u x : List ℕ) → is_ended (u ++ (10 ∷ x)) ≡ is_ended x
unfolding is_ended is_newline
is_ended-after [] [] = refl
is_ended-after [] (c ∷ x) = refl
is_ended-after (b ∷ []) x = is_ended-after [] x
is_ended-after (b ∷ c ∷ u) x = is_ended-after (c ∷ u) x

-- ---- the last line

last_line-after : (l : Line) (x : List ℕ) → is_ended x ≡ false → last_line (l ∷ lines x) ≡ last_line (lines x)
unfolding is_ended last_line
last_line-after l [] h = absurd (true≢false h)
last_line-after l (c ∷ x) h = rw (lines_step c x)

pub unfinished-open : (u : Line) → NoNewline u → unfinished u ≡ u
unfolding unfinished last_line is_ended
unfinished-open [] h = refl
unfinished-open (b ∷ u) h = rw (is_ended-open b u h, unfinished) (rw (lines-open b u h))

pub unfinished-after : (u x : List ℕ) → NoNewline u → unfinished (u ++ (10 ∷ x)) ≡ unfinished x
unfolding unfinished
unfinished-after u x h = cases (is_ended x)
    (λ e. rw (is_ended-after u x ∙ e, e, unfinished))
    (λ e. rw (is_ended-after u x ∙ e, e, unfinished) (rw (lines-ended u x h) (last_line-after (u ++ (10 ∷ [])) x e)))

last_line-le : (ls : List Line) → length (last_line ls) ≤ size ls
unfolding last_line size
last_line-le [] = omega arith
last_line-le (l ∷ []) = omega arith
last_line-le (l ∷ m ∷ ls) = omega (arith, last_line-le (m ∷ ls))

pub unfinished-le : (s : List ℕ) → length (unfinished s) ≤ length s
unfolding unfinished
unfinished-le s = cases (is_ended s)
    (λ e. rw (e, unfinished) (omega arith))
    (λ e. rw (e, unfinished) (omega (arith, last_line-le (lines s), size-lines s)))
