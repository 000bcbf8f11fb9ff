-- Laws of the heading of a line that is finished, as it stands or with its byte 10, and of the headings of lines, one by one.
-- Assumes nothing.
use mathlib.Core.Path.{◌≡◌, refl, sym, ◌∙◌}
use mathlib.Core.Bool.{true, false, and-false}
use mathlib.Core.List.{List, [], ◌∷◌, ◌++◌}
use Prim.Native.Nat.{ℕ, suc, ◌+◌, ◌-◌}
use native.Mathlib.Omega.{arith}
use lib.Dec.{ltb}
use lib.ListN.{length, length-append}
use borrow.Table.Steps.{cases}
use Rattle.text.specs.Bytes.{is_non_blank, is_star}
use Rattle.text.specs.Runs.{all}
use Rattle.text.specs.Lines.{Line, lines}
use Rattle.rules.specs.Headings.{is_heading}
use Rattle.stream.specs.Headings.{heading_at, headings_from}
use Rattle.stream.specs.State.{state_with}
use Rattle.stream.specs.Steps.{last_heading}
use Rattle.stream.proofs.Laws.Unfinished.{NoNewline, lines-open}
use Rattle.stream.proofs.Laws.Stars.{heading-alone, heading-next, stars-more, heading-more}
use Rattle.stream.proofs.Laws.Titles.{heading-longer, title-blank}
use Rattle.stream.proofs.Laws.Stepped.{stars_so_far-heading, title_so_far-heading, heading-state}

module _ (n : ℕ) (u : Line) where
  pub last_heading-yes : is_heading u ≡ true → last_heading (state_with n u) ≡ heading_at (n - length u) u ∷ []
  unfolding last_heading
  last_heading-yes h = rw (heading-state u n ∙ h, last_heading) (rw (stars_so_far-heading u h, title_so_far-heading u h))

  pub last_heading-no : is_heading u ≡ false → last_heading (state_with n u) ≡ []
  unfolding last_heading
  last_heading-no h = rw (heading-state u n ∙ h, last_heading)

-- ---- its byte 10 changes nothing

module _ (u : Line) where
  pub heading-ended : is_heading (u ++ (10 ∷ [])) ≡ is_heading u
  unfolding is_star
  heading-ended = cases (all is_star u)
      (λ h. heading-next u h 10 [] refl ∙ and-false (ltb 0 (length u)) ∙ sym (heading-alone u h))
      (λ h. heading-more u (10 ∷ []) h)

  pub heading_at-ended : (p : ℕ) → is_heading u ≡ true → heading_at p (u ++ (10 ∷ [])) ≡ heading_at p u
  unfolding is_non_blank
  heading_at-ended p h = rw (stars-more u (10 ∷ []) (heading-longer u h), title-blank u h 10 refl)

-- ---- the headings of lines, where line u starts at byte p and its last byte is byte n - 1

module _ (p n : ℕ) (u : Line) (e : n ≡ p + length u) where
  last-yes : is_heading u ≡ true → last_heading (state_with n u) ≡ heading_at p u ∷ []
  last-yes h = let i : n - length u ≡ p = omega arith in last_heading-yes n u h ∙ rw i

  -- those of a line as it stands
  headings-one : headings_from p (u ∷ []) ≡ last_heading (state_with n u)
  unfolding headings_from
  headings-one = cases (is_heading u)
      (λ h. rw (h, headings_from) (sym (last-yes h)))
      (λ h. rw (h, headings_from) (sym (last_heading-no n u h)))

  -- and of one with its byte 10, and those that follow it
  pub headings-cons : (ls : List Line) → headings_from p ((u ++ (10 ∷ [])) ∷ ls) ≡ last_heading (state_with n u) ++ headings_from (suc n) ls
  unfolding headings_from
  headings-cons ls =
      let i : p + length (u ++ (10 ∷ [])) ≡ suc n = omega (arith, length-append u (10 ∷ [])) in
      cases (is_heading u)
      (λ h. rw (heading-ended u ∙ h, headings_from) (rw (last-yes h, heading_at-ended u p h, i)))
      (λ h. rw (heading-ended u ∙ h, headings_from) (rw (last_heading-no n u h, i)))

pub headings-open : (p n : ℕ) (u : Line) → n ≡ p + length u → NoNewline u → headings_from p (lines u) ≡ last_heading (state_with n u)
unfolding headings_from lines all
headings-open p n [] e h = sym (last_heading-no n [] (heading-alone [] refl))
headings-open p n (b ∷ u) e h = rw (lines-open b u h) (headings-one p n (b ∷ u) e)
