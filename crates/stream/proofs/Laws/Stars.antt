-- Laws of a line's stars, and of what makes it a heading line, with more bytes after it. A line that is more than stars keeps both.
-- Assumes nothing.
use mathlib.Core.Path.{◌≡◌, sym, ap, ◌∙◌}
use mathlib.Core.Bool.{true, false, ◌&&◌, and-false, true≢false}
use mathlib.Core.List.{[], ◌∷◌, ◌++◌, append-nil}
use Prim.Native.Nat.{ℕ, suc, ◌+◌, ◌<◌}
use native.Mathlib.Omega.{arith}
use native.Mathlib.Nat.{add-zero}
use lib.Dec.{ltb, eqb}
use lib.ListN.{length, get_or, get_or-append, get_or-eq_default}
use lib.Seq.{get_or-append_seam}
use borrow.Author.Tests.{ne_eqb}
use borrow.Table.Steps.{cases}
use Rattle.text.specs.Bytes.{is_star}
use Rattle.text.specs.Runs.{all, run}
use Rattle.text.specs.Lines.{Line}
use Rattle.text.proofs.Basics.{and_first, and_second}
use Rattle.rules.specs.Headings.{stars, is_heading}

-- ---- stars alone

pub stars-alone : (u x : Line) → all is_star u ≡ true → stars (u ++ x) ≡ length u + stars x
unfolding stars run all
stars-alone [] x h = omega arith
stars-alone (b ∷ u) x h =
    let i = stars-alone u x (and_second (is_star b) (all is_star u) h) in
    rw (and_first (is_star b) (all is_star u) h, run) (omega arith)

module _ (u : Line) (h : all is_star u ≡ true) where
  pub stars-all : stars u ≡ length u
  unfolding stars run
  stars-all = ap (λ (l : Line). stars l) (sym (append-nil u)) ∙ stars-alone u [] h ∙ add-zero (length u)

  pub heading-alone : is_heading u ≡ false
  unfolding is_heading
  heading-alone =
      let n = get_or-eq_default u 0 {n = stars u} (omega (arith, stars-all)) in
      rw (ne_eqb (get_or u (stars u) 0) 32 (λ e. omega arith)) (and-false (ltb 0 (stars u)))

  -- the byte after them tells it
  module _ (b : ℕ) (x : Line) (i : is_star b ≡ false) where
    pub stars-next : stars (u ++ (b ∷ x)) ≡ length u
    unfolding stars run
    stars-next = stars-alone u (b ∷ x) h ∙ rw (i, run) (add-zero (length u))

    pub heading-next : is_heading (u ++ (b ∷ x)) ≡ (ltb 0 (length u) && eqb b 32)
    unfolding is_heading
    heading-next = rw (stars-next, get_or-append_seam u b x 0)

-- ---- more than stars

pub stars-short : (u : Line) → all is_star u ≡ false → stars u < length u
unfolding stars run all
stars-short [] h = absurd (true≢false h)
stars-short (b ∷ u) h = cases (is_star b)
    (λ i. let j = stars-short u (rw i at h) in rw (i, run) (omega arith))
    (λ i. rw (i, run) (omega arith))

pub stars-more : (u x : Line) → all is_star u ≡ false → stars (u ++ x) ≡ stars u
unfolding stars run all
stars-more [] x h = absurd (true≢false h)
stars-more (b ∷ u) x h = cases (is_star b)
    (λ i. rw (i, run) (ap suc (stars-more u x (rw i at h))))
    (λ i. rw (i, run))

pub heading-more : (u x : Line) → all is_star u ≡ false → is_heading (u ++ x) ≡ is_heading u
unfolding is_heading
heading-more u x h = rw (stars-more u x h, get_or-append u x 0 (stars u) (stars-short u h))
