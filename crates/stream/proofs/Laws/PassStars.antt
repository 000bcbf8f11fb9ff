-- Past the stars at a line's front: they add to its stars, and the byte after them is a byte at its front.
use mathlib.Core.Path.{◌≡◌, refl, sym, ap, ◌∙◌}
use mathlib.Core.Bool.{true}
use mathlib.Core.List.{List, [], ◌∷◌}
use Prim.Native.Nat.{ℕ, suc, ◌+◌, ◌-◌, ◌≤◌, ◌<◌}
use native.Mathlib.Omega.{arith}
use lib.ListN.{length, get_or}
use borrow.Author.Tests.{eqb-true}
use Rattle.text.specs.Bytes.{is_star}
use Rattle.text.specs.Parts.{part}
use Rattle.text.specs.Runs.{all, run}
use Rattle.text.proofs.Basics.{and_first, and_second}
use Rattle.text.proofs.Laws.Parts.{part_length}
use Rattle.text.proofs.Laws.Runs.{run-part-to, run-part}
use Rattle.rules.proofs.Laws.Blocks.{run-all}
use Rattle.stream.specs.declared.state.Stream.{Stream}
use Rattle.std.specs.declared.option.Option.TheVariants.{None}
use Rattle.stream.specs.Steps.{stepped, fed, finished}
use Rattle.stream.specs.Spans.{Within, more_stars, Advances}
use Rattle.stream.proofs.Laws.Steps.{stepped-star, finished-other}
use Rattle.stream.proofs.Laws.Advance.{progress, advance-front, advance-past, advance-then}

-- the state after no stars, and after the first of n and one
more-none : (c : Stream) → c ≡ more_stars c 0
more-none c =
    let same : (a : ℕ) → a ≡ a + 0 = λ a. omega arith in
    ap (λ (n : ℕ). record { total = n; line = c.line; stars = c.stars; title = c.title; ended = c.ended }) (same c.total)
    ∙ ap (λ (n : ℕ). record { total = c.total + 0; line = n; stars = c.stars; title = c.title; ended = c.ended }) (same c.line)
    ∙ ap (λ (n : ℕ). record { total = c.total + 0; line = c.line + 0; stars = n; title = c.title; ended = c.ended }) (same c.stars)

more-step : (c : Stream) (n : ℕ) → more_stars (more_stars c 1) n ≡ more_stars c (suc n)
more-step c n =
    let same : (a : ℕ) → a + 1 + n ≡ a + suc n = λ a. omega arith in
    rw (same c.total, same c.line, same c.stars)

fed-stars : (c : Stream) (x : List ℕ) → all is_star x ≡ true → c.stars ≡ c.line → (fed c x ≡ more_stars c (length x)) × (finished c x ≡ [])
unfolding fed finished all is_star
fed-stars c [] h k = (more-none c, refl)
fed-stars c (b ∷ x) h k =
    let star : b ≡ 42 = eqb-true b 42 (and_first (is_star b) (all is_star x) h) in
    let no : b ≡ 10 → ⊥ = λ z. omega (arith, star, z) in
    let one : (n : ℕ) → suc n ≡ n + 1 = λ n. omega arith in
    let e : stepped c b ≡ more_stars c 1 = stepped-star c b no k star ∙ rw (one c.total, one c.line, one c.stars) in
    let r = fed-stars (more_stars c 1) x (and_second (is_star b) (all is_star x) h) (ap (λ (n : ℕ). n + 1) k) in
    (ap (λ (d : Stream). fed d x) e ∙ r.0 ∙ more-step c (length x), rw (finished-other c b no, e) r.1)

module _ (c : Stream) (x : List ℕ) (i : ℕ) (w : Within c x i) (k : i < length x) (front : c.stars ≡ c.line) where
  module _ (e : ℕ) (at : e ≡ i + length (run is_star (part x i (length x)))) where
    pub stars-to : e ≤ length x
    stars-to = run-part-to x i (length x) is_star (omega arith) (omega arith) e at

    stars-part : all is_star (part x i e) ≡ true
    stars-part = rw (run-part x i (length x) is_star (omega arith) (omega arith) e at) at (run-all is_star (part x i (length x)))

    module _ {r : Stream} (h : r ≡ more_stars c (e - i)) where
      from : i ≤ e
      from = omega (arith, at)

      passed : r ≡ fed c (part x i e)
      passed = h ∙ ap (more_stars c) (sym (part_length x i e stars-to)) ∙ sym (fed-stars c (part x i e) stars-part front).0

      none : finished c (part x i e) ≡ []
      none = (fed-stars c (part x i e) stars-part front).1

      within : Within r x e
      within = rw h (record { stars = omega (arith, w.stars); line = omega (arith, w.line); total = omega (arith, w.total, from, stars-to) })

      pub advance-stars : length x ≤ e → Advances c x i (progress r e None)
      advance-stars l = advance-past c x i e from stars-to passed none (omega (arith, l)) within

      pub advance-byte : e < length x → {r' : Stream} → r' ≡ stepped r (get_or x e 0) → Advances c x i (progress r' (e + 1) None)
      advance-byte l u =
          let same : r.stars ≡ r.line = rw h (ap (λ (n : ℕ). n + (e - i)) front) in
          advance-then c x i e from stars-to passed none (advance-front r x e within l same u)
