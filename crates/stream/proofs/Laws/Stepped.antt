-- A byte more: what it makes of the state with a line is the state with that line and the byte, or after byte 10 with no line.
-- Assumes nothing.
use mathlib.Core.Path.{◌≡◌, sym, ap, ◌∙◌}
use mathlib.Core.Bool.{true, false, ◌||◌, and-true, and-false, or-true, true≢false}
use mathlib.Core.List.{[], ◌∷◌, ◌++◌}
use Prim.Native.Nat.{ℕ, suc, ◌<◌}
use native.Mathlib.Omega.{arith}
use lib.Dec.{ltb, eqb}
use lib.ListN.{length, length-append}
use borrow.Author.Tests.{eq-eqb, ne_eqb, ltb-false, lt-ltb, le-ltb}
use borrow.Table.Steps.{cases}
use Rattle.text.specs.Bytes.{is_newline, is_non_blank, is_star}
use Rattle.text.specs.Runs.{all, run}
use Rattle.text.specs.Lines.{Line}
use Rattle.rules.specs.Headings.{stars, is_heading}
use Rattle.rules.proofs.Laws.Headings.{stars-some, stars-lt}
use Rattle.stream.specs.Headings.{title}
use Rattle.stream.specs.State.{stars_so_far, title_so_far, state_with}
use Rattle.stream.specs.Steps.{in_heading, stars_then, title_then, stepped}
use Rattle.stream.proofs.Laws.Bytes.{all_append}
use Rattle.stream.proofs.Laws.Stars.{stars-alone, stars-all, stars-next, heading-next, stars-short, stars-more, heading-more}
use Rattle.stream.proofs.Laws.Titles.{heading-longer, title-blank, title-here, title-inside}

-- ---- what a line has been so far

module _ (u : Line) where
  pub stars_so_far-alone : all is_star u ≡ true → stars_so_far u ≡ length u
  unfolding stars_so_far
  stars_so_far-alone h =
      let test : (is_heading u || all is_star u) ≡ true = rw h (or-true (is_heading u)) in
      rw (test, stars_so_far) (stars-all u h)

  pub stars_so_far-heading : is_heading u ≡ true → stars_so_far u ≡ stars u
  unfolding stars_so_far
  stars_so_far-heading h = rw (h, stars_so_far)

  pub stars_so_far-none : is_heading u ≡ false → all is_star u ≡ false → stars_so_far u ≡ 0
  unfolding stars_so_far
  stars_so_far-none h i = rw (h, i, stars_so_far)

  pub title_so_far-heading : is_heading u ≡ true → title_so_far u ≡ length (title u)
  unfolding title_so_far
  title_so_far-heading h = rw (h, title_so_far)

  pub title_so_far-none : is_heading u ≡ false → title_so_far u ≡ 0
  unfolding title_so_far
  title_so_far-none h = rw (h, title_so_far)

  stars_so_far-short : all is_star u ≡ false → stars_so_far u < length u
  stars_so_far-short h =
      let l = stars-short u h in
      cases (is_heading u) (λ i. rw (stars_so_far-heading i) l) (λ i. rw (stars_so_far-none i h) (omega arith))

  -- the state tells a heading line
  pub heading-state : (n : ℕ) → in_heading (state_with n u) ≡ is_heading u
  unfolding in_heading
  heading-state n = cases (is_heading u)
      (λ h. rw (stars_so_far-heading h, lt-ltb 0 (stars u) (stars-some u h), lt-ltb (stars u) (length u) (stars-lt u h), h))
      (λ h. cases (all is_star u)
      (λ i. rw (stars_so_far-alone i, le-ltb (length u) (length u) (omega arith), h) (and-false (ltb 0 (length u))))
      (λ i. rw (stars_so_far-none h i, h)))

-- ---- a byte that does not end it

module _ (n : ℕ) (u : Line) (b : ℕ) where
  abbrev more : Line
  more = u ++ (b ∷ [])

  length_more : length more ≡ suc (length u)
  length_more = omega (arith, length-append u (b ∷ []))

  module _ (h : all is_star u ≡ true) where
    all-next : all is_star more ≡ is_star b
    unfolding all
    all-next = all_append is_star u (b ∷ []) ∙ rw h (and-true (is_star b))

    -- no star after stars alone: they stand where it is byte 32
    module _ (i : is_star b ≡ false) where
      stars_so_far-space : eqb b 32 ≡ true → stars_so_far more ≡ length u
      stars_so_far-space j =
          let test = heading-next u h b [] i in
          cases (ltb 0 (length u))
          (λ k. stars_so_far-heading more (test ∙ rw (k, j)) ∙ stars-next u h b [] i)
          (λ k. stars_so_far-none more (test ∙ rw k) (all-next ∙ i) ∙ omega (arith, ltb-false 0 (length u) k))

      stars_so_far-other : eqb b 32 ≡ false → stars_so_far more ≡ 0
      stars_so_far-other j = stars_so_far-none more (heading-next u h b [] i ∙ rw j (and-false (ltb 0 (length u)))) (all-next ∙ i)

  stars_so_far-more : all is_star u ≡ false → stars_so_far more ≡ stars_so_far u
  stars_so_far-more h =
      let e = heading-more u (b ∷ []) h in
      cases (is_heading u)
      (λ i. stars_so_far-heading more (e ∙ i) ∙ stars-more u (b ∷ []) h ∙ sym (stars_so_far-heading u i))
      (λ i. stars_so_far-none more (e ∙ i) (all_append is_star u (b ∷ []) ∙ rw h) ∙ sym (stars_so_far-none u i h))

  stars_then-more : stars_then (state_with n u) b ≡ stars_so_far more
  unfolding stars_then
  stars_then-more = cases (all is_star u)
      (λ h. let e = stars_so_far-alone u h in
      rw (eq-eqb (stars_so_far u) (length u) e, stars_then)
      (cases (is_star b)
      (λ i. rw i (ap suc e ∙ sym length_more ∙ sym (stars_so_far-alone more (all-next h ∙ i))))
      (λ i. rw i (cases (eqb b 32) (λ j. rw j (e ∙ sym (stars_so_far-space h i j))) (λ j. rw j (sym (stars_so_far-other h i j)))))))
      (λ h. rw (ne_eqb (stars_so_far u) (length u) (λ e. omega (arith, stars_so_far-short u h)), stars_then) (sym (stars_so_far-more h)))

  -- what becomes a heading line has no title yet
  title_so_far-first : is_heading u ≡ false → title_so_far more ≡ 0
  title_so_far-first h = cases (is_heading more)
      (λ i. title_so_far-heading more i
      ∙ cases (all is_star u)
      (λ j. omega (arith, stars-alone u (b ∷ []) j, title-inside more i, length_more))
      (λ j. absurd (true≢false (sym i ∙ heading-more u (b ∷ []) j ∙ h))))
      (λ i. title_so_far-none more i)

  title_then-more : title_then (state_with n u) b ≡ title_so_far more
  unfolding title_then
  title_then-more = cases (is_heading u)
      (λ h. let e = title_so_far-heading more (heading-more u (b ∷ []) (heading-longer u h) ∙ h) in
      cases (is_non_blank b)
      (λ i. rw (heading-state u n ∙ h, i, title_then) (rw (stars_so_far-heading u h) (sym (e ∙ title-here u h b i))))
      (λ i. rw (heading-state u n ∙ h, i, title_then) (title_so_far-heading u h ∙ sym (e ∙ ap length (title-blank u h b i)))))
      (λ h. rw (heading-state u n ∙ h, title_then) (title_so_far-none u h ∙ sym (title_so_far-first h)))

  pub stepped-more : is_newline b ≡ false → stepped (state_with n u) b ≡ state_with (suc n) (u ++ (b ∷ []))
  unfolding stepped
  stepped-more h = rw (h, stepped, stars_then-more, title_then-more, length_more)

-- ---- byte 10

pub stepped-newline : (n : ℕ) (u : Line) (b : ℕ) → is_newline b ≡ true → stepped (state_with n u) b ≡ state_with (suc n) []
unfolding stepped stars_so_far title_so_far is_heading stars run all
stepped-newline n u b h = rw (h, stepped)
