-- Two texts in one, by the lines that tell an answer: what follows the next heading line does not matter, nor where the lines stand but for the
-- shift in place.
-- Assumes nothing.
use mathlib.Core.Path.{◌≡◌, refl, sym, ap, ◌∙◌}
use mathlib.Core.Bool.{true}
use mathlib.Core.List.{List, [], ◌∷◌, ◌++◌, map}
use Prim.Native.Nat.{ℕ, zero, suc, ◌+◌, ◌≤◌, ◌<◌}
use native.Mathlib.Omega.{arith}
use native.Mathlib.Nat.{add-zero, add_assoc}
use lib.ListN.{length, drop, length-append, length-drop, get_or-append}
use lib.Seq.{drop-append-le, drop-append-add, get_or-append-add}
use borrow.Table.Steps.{cases}
use Rattle.text.specs.Bytes.{is_newline}
use Rattle.text.specs.Limits.{text_limit}
use Rattle.text.specs.Lines.{Line, lines, size, is_ended, head_line, tail_lines, leading}
use Rattle.text.specs.Parts.{line_starts}
use Rattle.text.proofs.Laws.Lines.{size-lines, lines-some}
use Rattle.text.proofs.Laws.Joined.{ended-drop, ended-byte, lines-append}
use Rattle.rules.specs.Headings.{is_heading}
use Rattle.lookup.specs.Stages.{is_bad_key}
use Rattle.lookup.specs.Lookup.{lookup}
use Rattle.lookup.specs.Joined.{shift, headings_from, heading_starts}
use Rattle.lookup.proofs.Laws.Lookup.{lookup-bad}
use Rattle.lookup.proofs.Laws.Local.{section_lines, look, look_at, lookup-look_at, look-shift}

-- ---- where a line starts in both

pub starts-append : (s t : List ℕ) (p : ℕ) → p ≤ length s → line_starts (s ++ t) p ≡ line_starts s p
unfolding line_starts
starts-append s t zero h = refl
starts-append s t (suc p) h = ap is_newline (get_or-append s t 0 p (omega arith))

module _ (s t : List ℕ) (ended : is_ended s ≡ true) where
  starts-seam : (n : ℕ) → length s ≡ n → line_starts (s ++ t) (n + 0) ≡ line_starts t 0
  unfolding line_starts
  starts-seam zero h = refl
  starts-seam (suc n) h = rw (add-zero (suc n), get_or-append s t 0 n (omega arith)) (ended-byte s n h ∙ ended)

  starts-later : (q : ℕ) → line_starts (s ++ t) (length s + q) ≡ line_starts t q
  unfolding line_starts
  starts-later zero = starts-seam (length s) refl
  starts-later (suc q) = let m : length s + suc q ≡ suc (length s + q) = omega arith in rw m (ap is_newline (get_or-append-add s t q 0))

-- ---- more lines, from a heading line on

section-stop : (ls ms : List Line) → is_heading (head_line ms) ≡ true → section_lines (ls ++ ms) ≡ section_lines ls
unfolding section_lines leading head_line
section-stop [] [] h = refl
section-stop [] (l ∷ ms) h = rw (h, leading)
section-stop (l ∷ ls) ms h = cases (is_heading l)
    (λ i. rw (i, leading))
    (λ i. rw (i, leading) (ap (λ (x : List Line). l ∷ x) (section-stop ls ms h)))

look-more : (k : List ℕ) (p : ℕ) (l : Line) (ls ms : List Line) → is_heading (head_line ms) ≡ true → look k p ((l ∷ ls) ++ ms) ≡ look k p (l ∷ ls)
unfolding look head_line tail_lines
look-more k p l ls ms h = rw (section-stop ls ms h)

-- ---- an answer in both

module _ (s t k : List ℕ) (ended : is_ended s ≡ true) where
  look_at-later : (q : ℕ) → look_at k (s ++ t) (length s + q) ≡ shift (length s) (look_at k t q)
  unfolding look_at shift
  look_at-later q = cases (line_starts t q)
      (λ h. rw (starts-later s t ended q, h, drop-append-add s t q) (look-shift k (length s) q (lines (drop q t))))
      (λ h. rw (starts-later s t ended q, h))

  look_at-earlier : is_heading (head_line (lines t)) ≡ true → (p : ℕ) → p < length s → look_at k (s ++ t) p ≡ look_at k s p
  unfolding look_at
  look_at-earlier h p i =
      rw (starts-append s t p (omega arith), drop-append-le p s t (omega arith), lines-append (drop p s) t (ended-drop p s ended))
      (rw (lines-some (drop p s) (omega (arith, length-drop p s)), look-more k p _ _ (lines t) h))

  module _ (long : length (s ++ t) ≤ text_limit) where
    -- what the second text holds is looked up there as in the second alone, but for the shift in place
    pub lookup-later : (q : ℕ) → lookup (s ++ t) (length s + q) k ≡ shift (length s) (lookup t q k)
    unfolding shift
    lookup-later q =
        let n = length-append s t in
        cases (is_bad_key k)
        (λ h. rw (lookup-bad (s ++ t) (length s + q) k long h, lookup-bad t q k (omega arith) h))
        (λ h. lookup-look_at (s ++ t) (length s + q) k long h ∙ look_at-later q ∙ ap (shift (length s)) (sym (lookup-look_at t q k (omega arith) h)))

    -- what the first holds is looked up as before, where the second starts with a heading line
    pub lookup-earlier : is_heading (head_line (lines t)) ≡ true → (p : ℕ) → p < length s → lookup (s ++ t) p k ≡ lookup s p k
    lookup-earlier g p i =
        let n = length-append s t in
        cases (is_bad_key k)
        (λ h. lookup-bad (s ++ t) p k long h ∙ sym (lookup-bad s p k (omega arith) h))
        (λ h. lookup-look_at (s ++ t) p k long h ∙ look_at-earlier g p i ∙ sym (lookup-look_at s p k (omega arith) h))

-- ---- the headings of both

headings-shift : (n p : ℕ) (ls : List Line) → headings_from (n + p) ls ≡ map (λ q. n + q) (headings_from p ls)
unfolding headings_from
headings-shift n p [] = refl
headings-shift n p (l ∷ ls) = cases (is_heading l)
    (λ h. rw (h, headings_from) (ap (λ (x : List ℕ). (n + p) ∷ x) (rw (add_assoc n p (length l)) (headings-shift n (p + length l) ls))))
    (λ h. rw (h, headings_from) (rw (add_assoc n p (length l)) (headings-shift n (p + length l) ls)))

headings-append : (p : ℕ) (ls ms : List Line) → headings_from p (ls ++ ms) ≡ headings_from p ls ++ headings_from (p + size ls) ms
unfolding headings_from size
headings-append p [] ms = rw (add-zero p)
headings-append p (l ∷ ls) ms = cases (is_heading l)
    (λ h. rw (h, headings_from) (ap (λ (x : List ℕ). p ∷ x) (rw (← add_assoc p (length l) (size ls)) (headings-append (p + length l) ls ms))))
    (λ h. rw (h, headings_from) (rw (← add_assoc p (length l) (size ls)) (headings-append (p + length l) ls ms)))

pub headings-joined : (s t : List ℕ) → is_ended s ≡ true → heading_starts (s ++ t) ≡ heading_starts s ++ map (λ q. length s + q) (heading_starts t)
unfolding heading_starts
headings-joined s t h =
    let n : 0 + size (lines s) ≡ length s + 0 = omega (arith, size-lines s) in
    rw (lines-append s t h, headings-append 0 (lines s) (lines t), n, headings-shift (length s) 0 (lines t))
