-- The place after an item's first line: rules 1 and 2 have none there, whatever stood before, and so up to the next heading line. For an item's line
-- is no planning line, which starts with a word of letters, and no comment's.
-- Assumes nothing.
use mathlib.Core.Path.{◌≡◌, refl, sym, ◌∙◌}
use mathlib.Core.Bool.{true, false, and-false, true≢false}
use mathlib.Core.List.{List, [], ◌∷◌}
use Prim.Native.Nat.{ℕ}
use native.Mathlib.Omega.{arith}
use lib.Dec.{leb, eqb}
use lib.ListN.{get_or}
use borrow.Table.Steps.{cases}
use borrow.Author.Tests.{eqb-true, ne_eqb, leb-true}
use Rattle.text.specs.Bytes.{is_indent, is_non_blank, lower, is_letter, is_digit}
use Rattle.text.specs.Runs.{word, after_run, cons_unless_end, trim_end, begins}
use Rattle.text.specs.Lines.{Line, body}
use Rattle.text.proofs.Laws.Bytes.{is_letter-below}
use Rattle.dates.proofs.Laws.Planning.{planning-off}
use Rattle.rules.specs.Headings.{is_heading}
use Rattle.rules.specs.Items.{is_sign, is_mark, is_item}
use Rattle.rules.specs.LineTests.{is_planning, is_comment}
use Rattle.rules.specs.Places.{place_after, place_next}
use Rattle.rules.specs.declared.place.Place.{Place}
use Rattle.rules.specs.declared.place.Place.TheVariants.{AfterHeading, AfterPlanning, Opening, AfterComment, Elsewhere, InLine}
use Rattle.rules.proofs.Basics.{and_yes}
use Rattle.rules.proofs.Laws.Bodies.{lower-mark, cons_unless_end-cons}
use Rattle.rules.proofs.Laws.ItemFirst.{Shape, by_sign, by-digit, by-letter, item-shape, starts-not, item-first, item-nonblank}
use Rattle.rules.proofs.Laws.Named.{comment-first}
use Rattle.rules.proofs.Laws.Places.{place_next-plain}

-- ---- it is no comment's line

item-comment : (l : Line) → is_item l ≡ true → is_comment l ≡ false
unfolding is_sign is_letter is_digit lower
item-comment l h = cases (is_comment l)
    (λ e. let b = get_or (body l) 0 0 in absurd (lower-mark b 35 refl (starts-not b 35 (item-first l h) refl) (comment-first l e).first))
    (λ e. e)

-- ---- it is no planning line

sign-letter : (b : ℕ) → is_sign true b ≡ true → is_letter b ≡ false
unfolding is_sign is_letter lower
sign-letter b h = cases (eqb b 45)
    (λ e. rw (eqb-true b 45 e))
    (λ e. cases (eqb b 43) (λ d. rw (eqb-true b 43 d)) (λ d. rw (eqb-true b 42 (rw (e, d) at h))))

digit-letter : (b : ℕ) → is_digit b ≡ true → is_letter b ≡ false
unfolding is_digit
digit-letter b h = is_letter-below b (omega (arith, leb-true b 57 (and_yes (leb 48 b) (leb b 57) h).1))

mark-nonblank : (c : ℕ) → is_mark c ≡ true → is_non_blank c ≡ true
unfolding is_mark is_non_blank
mark-nonblank c h = cases (eqb c 46) (λ e. rw (eqb-true c 46 e)) (λ e. rw (eqb-true c 41 (rw e at h)))

mark-letter : (c : ℕ) → is_mark c ≡ true → is_letter c ≡ false
unfolding is_mark is_letter lower
mark-letter c h = cases (eqb c 46) (λ e. rw (eqb-true c 46 e)) (λ e. rw (eqb-true c 41 (rw e at h)))

letter-other : (b a : ℕ) → is_letter b ≡ false → is_letter a ≡ true → eqb (lower b) (lower a) ≡ false
unfolding is_letter
letter-other b a n h = ne_eqb (lower b) (lower a) (λ e. true≢false (sym h ∙ rw (← e) n))

-- a word of two letters or more starts otherwise
module _ (a d : ℕ) (r : List ℕ) (h : is_letter a ≡ true) (k : is_letter d ≡ true) where
  begins-no : (b : ℕ) (x : List ℕ) → is_letter b ≡ false → begins (trim_end (b ∷ x)) (a ∷ d ∷ r) ≡ false
  unfolding trim_end cons_unless_end begins
  begins-no b x n = go (trim_end x)
    where
      go : (y : List ℕ) → begins (cons_unless_end b y) (a ∷ d ∷ r) ≡ false
      go [] = cases (is_non_blank b) (λ e. rw (e, cons_unless_end, letter-other b a n h)) (λ e. rw (e, cons_unless_end))
      go (c ∷ y) = rw (letter-other b a n h)

  shape-begins : (x : List ℕ) → Shape x → begins (trim_end x) (a ∷ d ∷ r) ≡ false
  unfolding trim_end begins cons_unless_end
  shape-begins [] i = elim i [ ]
  shape-begins (b ∷ x) (by_sign i) = begins-no b x (sign-letter b i)
  shape-begins (b ∷ c ∷ x) (by-digit i m) = begins-no b (c ∷ x) (digit-letter b i)
  shape-begins (b ∷ c ∷ x) (by-letter i m) =
      rw (cons_unless_end-cons c (trim_end x) (mark-nonblank c m), letter-other c d (mark-letter c m) k) (and-false (eqb (lower b) (lower a)))

item-planning : (l : Line) → is_item l ≡ true → is_planning l ≡ false
unfolding is_planning body word is_letter lower
item-planning l h =
    let x = after_run is_indent l in
    let no : (a d : ℕ) (r : List ℕ) → is_letter a ≡ true → is_letter d ≡ true → begins (trim_end x) (a ∷ d ∷ r) ≡ false =
    λ a d r i k. shape-begins a d r i k x (item-shape l h) in
    planning-off (body l) (rw (no 99 108 (word "osed:") refl refl, no 100 101 (word "adline:") refl refl, no 115 99 (word "heduled:") refl refl))

-- ---- so the place after it is elsewhere

item-after : (pl : Place) (l : Line) → is_item l ≡ true → place_after pl l ≡ Elsewhere
unfolding place_after
item-after AfterHeading l h = rw (item-planning l h, place_after)
item-after AfterPlanning l h = refl
item-after Opening l h = rw (item-nonblank l h, item-comment l h, place_after)
item-after AfterComment l h = rw (item-comment l h, place_after)
item-after Elsewhere l h = refl
item-after InLine l h = refl

pub item-next : (pl : Place) (l : Line) → is_item l ≡ true → is_heading l ≡ false → place_next pl l ≡ Elsewhere
item-next pl l h n = place_next-plain pl l n ∙ item-after pl l h
