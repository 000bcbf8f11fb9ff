-- A byte 10 that a text's last line lacks changes no answer: no test of a line sees it, and what an answer tells of lines is told by those before a
-- closer, which stay as they are.
-- Assumes nothing.
use mathlib.Core.Path.{◌≡◌, refl, sym, ap, ◌∙◌}
use mathlib.Core.Bool.{Bool, true, false, ◌&&◌, false≢true}
use mathlib.Core.List.{List, [], ◌∷◌, ◌++◌}
use Prim.Native.Nat.{ℕ, ◌+◌, ◌<◌}
use native.Mathlib.Omega.{arith}
use lib.Dec.{eqb, ltb}
use lib.ListN.{length, get_or, drop, length-append}
use lib.Seq.{drop-append-le}
use borrow.Table.Steps.{cases}
use Rattle.text.specs.Bytes.{is_star}
use Rattle.text.specs.Limits.{text_limit}
use Rattle.text.specs.Runs.{is_empty, run}
use Rattle.text.specs.Lines.{Line, is_ended, blank_line, head_line, tail_lines, leading, blanks}
use Rattle.text.proofs.Laws.Lines.{blank_line-body}
use Rattle.text.proofs.Laws.Joined.{open-drop, Alike, alike-nil, alike-last, alike-cons, alike-lines, run_more, body_more}
use Rattle.rules.specs.Headings.{stars, is_heading}
use Rattle.rules.specs.LineTests.{is_planning, is_properties_line, is_end_line}
use Rattle.lookup.specs.Drawers.{has_end, before_end, first_other_in}
use Rattle.lookup.specs.Stages.{is_bad_key}
use Rattle.lookup.specs.Lookup.{lookup}
use Rattle.lookup.proofs.Laws.Lookup.{lookup-bad}
use Rattle.lookup.proofs.Laws.Local.{look_opened, look_other, look_in, look_after, section_lines, look, look_at, lookup-look_at}
use Rattle.lookup.proofs.Laws.Joined.{starts-append}

-- ---- the tests of a line

-- after the stars the byte is the same, or there is none and it is byte 10
after-stars : (l : Line) → eqb (get_or (l ++ (10 ∷ [])) (stars l) 0) 32 ≡ eqb (get_or l (stars l) 0) 32
unfolding stars run
after-stars [] = refl
after-stars (b ∷ l) = cases (is_star b) (λ h. rw (h, run) (after-stars l)) (λ h. rw (h, run))

module _ (l : Line) where
  abbrev more : Line
  more = l ++ (10 ∷ [])

  stars-more : stars more ≡ stars l
  unfolding stars is_star
  stars-more = ap length (run_more is_star refl l)

  heading-more : is_heading more ≡ is_heading l
  unfolding is_heading
  heading-more = rw stars-more (ap (λ (b : Bool). ltb 0 (stars l) && b) (after-stars l))

  planning-more : is_planning more ≡ is_planning l
  unfolding is_planning
  planning-more = rw (body_more l)

  opener-more : is_properties_line more ≡ is_properties_line l
  unfolding is_properties_line
  opener-more = rw (body_more l)

  end_more : is_end_line more ≡ is_end_line l
  unfolding is_end_line
  end_more = rw (body_more l)

  blank-more : blank_line more ≡ blank_line l
  blank-more = blank_line-body more ∙ ap is_empty (body_more l) ∙ sym (blank_line-body l)

-- ---- lines that are alike

has_end-alike : {ls ms : List Line} → Alike ls ms → has_end ls ≡ has_end ms
unfolding has_end
has_end-alike alike-nil = refl
has_end-alike (alike-last l) = rw (end_more l)
has_end-alike (alike-cons l h) = rw (has_end-alike h)

-- a closer stands after all that come before it
before_end-alike : {ls ms : List Line} → Alike ls ms → has_end ls ≡ true → before_end ls ≡ before_end ms
unfolding has_end before_end
before_end-alike alike-nil h = refl
before_end-alike (alike-last l) h = cases (is_end_line l)
    (λ i. rw (i, end_more l ∙ i, before_end))
    (λ i. absurd (false≢true (rw i at h)))
before_end-alike (alike-cons l g) h = cases (is_end_line l)
    (λ i. rw (i, before_end))
    (λ i. rw (i, before_end) (ap (λ (x : List Line). l ∷ x) (before_end-alike g (rw i at h))))

section-alike : {ls ms : List Line} → Alike ls ms → Alike (section_lines ls) (section_lines ms)
unfolding section_lines leading
section-alike alike-nil = alike-nil
section-alike (alike-last l) = cases (is_heading l)
    (λ i. rw (i, heading-more l ∙ i, leading) alike-nil)
    (λ i. rw (i, heading-more l ∙ i, leading) (alike-last l))
section-alike (alike-cons l h) = cases (is_heading l)
    (λ i. rw (i, leading) alike-nil)
    (λ i. rw (i, leading) (alike-cons l (section-alike h)))

-- ---- the answer that they tell

other-alike : {ls ms : List Line} → Alike ls ms → look_other ls ≡ look_other ms
unfolding look_other blanks leading head_line
other-alike alike-nil = refl
other-alike (alike-last l) = cases (blank_line l)
    (λ b. rw (b, blank-more l ∙ b, leading))
    (λ b. rw (b, blank-more l ∙ b, leading, opener-more l))
other-alike (alike-cons l h) = cases (blank_line l) (λ b. rw (b, leading) (other-alike h)) (λ b. rw (b, leading))

module _ (k : List ℕ) where
  opened-alike : (p : ℕ) (l : Line) {ls ms : List Line} → Alike ls ms → look_opened k p (l ∷ ls) ≡ look_opened k p (l ∷ ms)
  unfolding look_opened head_line tail_lines first_other_in
  opened-alike p l {ls} {ms} h = cases (has_end ls)
      (λ e. rw (e, sym (has_end-alike h) ∙ e, before_end-alike h e))
      (λ e. rw (e, sym (has_end-alike h) ∙ e))

  in-alike : (p : ℕ) {ls ms : List Line} → Alike ls ms → look_in k p ls ≡ look_in k p ms
  unfolding look_in look_opened head_line tail_lines has_end
  in-alike p alike-nil = refl
  in-alike p (alike-last l) = cases (is_properties_line l)
      (λ o. rw (o, opener-more l ∙ o))
      (λ o. rw (o, opener-more l ∙ o) (other-alike (alike-last l)))
  in-alike p (alike-cons l h) = cases (is_properties_line l) (λ o. rw o (opened-alike p l h)) (λ o. rw o (other-alike (alike-cons l h)))

  -- of no lines it is the same at any byte
  in-nil : (p q : ℕ) → look_in k p [] ≡ look_in k q []
  unfolding look_in look_opened head_line tail_lines has_end
  in-nil p q = refl

  after-nil : (p q : ℕ) → look_after k p [] ≡ look_after k q []
  unfolding look_after head_line tail_lines
  after-nil p q = rw (in-nil (p + 0) (q + 0), in-nil p q)

  after-alike : (p : ℕ) {ls ms : List Line} → Alike ls ms → look_after k p ls ≡ look_after k p ms
  unfolding look_after head_line tail_lines
  after-alike p alike-nil = refl
  after-alike p (alike-last l) = rw (planning-more l, in-nil (p + length l) (p + length (more l)), in-alike p (alike-last l))
  after-alike p (alike-cons l h) = rw (in-alike (p + length l) h, in-alike p (alike-cons l h))

  look-alike : (p : ℕ) {ls ms : List Line} → Alike ls ms → look k p ls ≡ look k p ms
  unfolding look head_line tail_lines section_lines leading
  look-alike p alike-nil = refl
  look-alike p (alike-last l) = rw (heading-more l, after-nil (p + length l) (p + length (more l)))
  look-alike p (alike-cons l h) = rw (after-alike (p + length l) (section-alike h))

-- ---- in a text

look_at-newline : (k s : List ℕ) → is_ended s ≡ false → (p : ℕ) → p < length s → look_at k (s ++ (10 ∷ [])) p ≡ look_at k s p
unfolding look_at
look_at-newline k s h p i =
    rw (starts-append s (10 ∷ []) p (omega arith), drop-append-le p s (10 ∷ []) (omega arith), look-alike k p (alike-lines (drop p s) (open-drop p s h i)))

pub lookup-newline : (s k : List ℕ) → is_ended s ≡ false → length s < text_limit → (p : ℕ) → p < length s → lookup (s ++ (10 ∷ [])) p k ≡ lookup s p k
lookup-newline s k lacks long p i =
    let n = length-append s (10 ∷ []) in
    cases (is_bad_key k)
    (λ h. lookup-bad (s ++ (10 ∷ [])) p k (omega arith) h ∙ sym (lookup-bad s p k (omega arith) h))
    (λ h. lookup-look_at (s ++ (10 ∷ [])) p k (omega arith) h ∙ look_at-newline k s lacks p i ∙ sym (lookup-look_at s p k (omega arith) h))
