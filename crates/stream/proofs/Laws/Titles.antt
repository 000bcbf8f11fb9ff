-- Laws of a heading line's title with a byte more: it grows to the byte where that is non-blank, and else stays.
-- Assumes nothing.
use mathlib.Core.Path.{◌≡◌, sym, ap, ◌∙◌}
use mathlib.Core.Bool.{true, false, true≢false}
use mathlib.Core.List.{[], ◌∷◌, ◌++◌}
use Prim.Native.Nat.{ℕ, suc, ◌-◌, ◌<◌}
use native.Mathlib.Omega.{arith}
use native.Mathlib.Numerals.{add-one}
use lib.ListN.{length, drop, length-append, length-drop, length-take}
use lib.Seq.{drop-append-le, drop-append-add}
use borrow.Table.Steps.{cases}
use Rattle.text.specs.Bytes.{is_non_blank, is_star}
use Rattle.text.specs.Runs.{all, trim_end}
use Rattle.text.specs.Lines.{Line}
use Rattle.text.proofs.Laws.Runs.{trim_end-blank, trim_end-here, trim_end-take}
use Rattle.rules.specs.Headings.{stars, is_heading}
use Rattle.rules.proofs.Laws.Headings.{stars-lt}
use Rattle.stream.specs.Headings.{title}
use Rattle.stream.proofs.Laws.Stars.{heading-alone, stars-next, stars-more}

module _ (u : Line) (h : is_heading u ≡ true) where
  -- it is more than stars
  pub heading-longer : all is_star u ≡ false
  heading-longer = cases (all is_star u) (λ i. absurd (true≢false (sym h ∙ heading-alone u i))) (λ i. i)

  title-more : (b : ℕ) → title (u ++ (b ∷ [])) ≡ trim_end (drop (suc (stars u)) u ++ (b ∷ []))
  unfolding title
  title-more b = rw (stars-more u (b ∷ []) heading-longer, drop-append-le (suc (stars u)) u (b ∷ []) (stars-lt u h))

  pub title-blank : (b : ℕ) → is_non_blank b ≡ false → title (u ++ (b ∷ [])) ≡ title u
  unfolding title
  title-blank b i = title-more b ∙ trim_end-blank (drop (suc (stars u)) u) b i

  pub title-here : (b : ℕ) → is_non_blank b ≡ true → length (title (u ++ (b ∷ []))) ≡ length u - stars u
  title-here b i =
      let x = drop (suc (stars u)) u in
      let e = ap length (title-more b ∙ trim_end-here x b i) in
      omega (arith, length-append x (b ∷ []), length-drop (suc (stars u)) u, stars-lt u h)

  -- the stars, their space and the title are bytes of the line
  pub title-inside : length (title u) < length u - stars u
  unfolding title
  title-inside =
      let x = drop (suc (stars u)) u in
      omega (arith, ap length (trim_end-take x), length-take (length (trim_end x)) x, length-drop (suc (stars u)) u, stars-lt u h)

-- what follows stars alone and a byte after them
pub title-next : (u : Line) → all is_star u ≡ true → (b : ℕ) (x : Line) → is_star b ≡ false → title (u ++ (b ∷ x)) ≡ trim_end x
unfolding title
title-next u h b x i = rw (stars-next u h b x i, ← add-one (length u), drop-append-add u (b ∷ x) 1)
