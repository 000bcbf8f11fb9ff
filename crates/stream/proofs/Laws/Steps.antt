-- Laws of a byte more, and of bytes in two parts.
use mathlib.Core.Path.{◌≡◌, refl, sym, ap, ◌∙◌}
use mathlib.Core.Bool.{true, false, and-false}
use mathlib.Core.List.{List, [], ◌∷◌, ◌++◌, append_assoc}
use Prim.Native.Nat.{ℕ, suc, ◌-◌, ◌≤◌, ◌<◌}
use native.Mathlib.Omega.{arith}
use lib.Dec.{ltb}
use borrow.Table.Steps.{cases}
use borrow.Author.Tests.{eq-eqb, ne_eqb, ltb-true, lt-ltb, le-ltb}
use Rattle.text.specs.Bytes.{is_newline, is_non_blank, is_star}
use Rattle.text.proofs.Basics.{and_second}
use Rattle.stream.specs.declared.state.Stream.{Stream}
use Rattle.stream.specs.declared.heading.Heading.{Heading}
use Rattle.stream.specs.Steps.{in_heading, last_heading, next_line, stars_then, title_then, stepped, finished_by, fed, finished}

-- ---- which line it is

module _ (c : Stream) where
  pub heading-yes : 0 < c.stars → c.stars < c.line → in_heading c ≡ true
  unfolding in_heading
  heading-yes h k = rw (lt-ltb 0 c.stars h, lt-ltb c.stars c.line k)

  pub heading-bare : c.stars ≤ 0 → in_heading c ≡ false
  unfolding in_heading
  heading-bare h = rw (le-ltb 0 c.stars h)

  pub heading-front : c.line ≤ c.stars → in_heading c ≡ false
  unfolding in_heading
  heading-front h = rw (le-ltb c.stars c.line h) (and-false (ltb 0 c.stars))

  pub heading-le : in_heading c ≡ true → c.stars ≤ c.line
  unfolding in_heading
  heading-le h =
      let k = ltb-true c.stars c.line (and_second (ltb 0 c.stars) (ltb c.stars c.line) h) in
      omega (arith, k)

  pub last-yes : in_heading c ≡ true → last_heading c ≡ record { start = c.total - c.line; stars = c.stars; title = c.title } ∷ []
  unfolding last_heading
  last-yes h = rw (h, last_heading)

  pub last-no : in_heading c ≡ false → last_heading c ≡ []
  unfolding last_heading
  last-no h = rw (h, last_heading)

-- ---- a byte

module _ (c : Stream) (b : ℕ) where
  pub stepped-newline : b ≡ 10 → stepped c b ≡ next_line c
  unfolding stepped is_newline
  stepped-newline h = rw (eq-eqb b 10 h, stepped)

  pub finished-newline : b ≡ 10 → finished_by c b ≡ last_heading c
  unfolding finished_by is_newline
  finished-newline h = rw (eq-eqb b 10 h, finished_by)

  module _ (no : b ≡ 10 → ⊥) where
    pub finished-other : finished_by c b ≡ []
    unfolding finished_by is_newline
    finished-other = rw (ne_eqb b 10 no, finished_by)

    -- with n stars and a title of m bytes
    abbrev grown : ℕ → ℕ → Stream
    grown n m = record { total = suc c.total; line = suc c.line; stars = n; title = m; ended = c.ended }

    stepped-other : stepped c b ≡ grown (stars_then c b) (title_then c b)
    unfolding stepped is_newline
    stepped-other = rw (ne_eqb b 10 no, stepped)

    module _ (front : c.stars ≡ c.line) where
      title-front : title_then c b ≡ c.title
      unfolding title_then
      title-front = rw (heading-front c (omega (arith, front)), title_then)

      begun : (n : ℕ) → stars_then c b ≡ n → stepped c b ≡ grown n c.title
      begun n h = stepped-other ∙ rw (h, title-front)

      pub stepped-star : b ≡ 42 → stepped c b ≡ grown (suc c.stars) c.title
      unfolding stars_then is_star
      stepped-star h = begun (suc c.stars) (rw (eq-eqb c.stars c.line front, eq-eqb b 42 h, stars_then))

      pub stepped-space : b ≡ 32 → stepped c b ≡ grown c.stars c.title
      unfolding stars_then is_star
      stepped-space h =
          begun c.stars (rw (eq-eqb c.stars c.line front, ne_eqb b 42 (λ k. omega (arith, h, k)), eq-eqb b 32 h, stars_then))

      pub stepped-none : (b ≡ 42 → ⊥) → (b ≡ 32 → ⊥) → stepped c b ≡ grown 0 c.title
      unfolding stars_then is_star
      stepped-none h k = begun 0 (rw (eq-eqb c.stars c.line front, ne_eqb b 42 h, ne_eqb b 32 k, stars_then))

    module _ (past : c.stars ≡ c.line → ⊥) where
      pub stepped-past : stepped c b ≡ grown c.stars (title_then c b)
      unfolding stars_then
      stepped-past = stepped-other ∙ ap (λ (n : ℕ). grown n (title_then c b)) (rw (ne_eqb c.stars c.line past, stars_then))

  pub title-more : in_heading c ≡ true → is_non_blank b ≡ true → title_then c b ≡ c.line - c.stars
  unfolding title_then
  title-more h k = rw (h, k, title_then)

  pub title-blank : is_non_blank b ≡ false → title_then c b ≡ c.title
  unfolding title_then
  title-blank k = cases (in_heading c) (λ h. rw (h, k, title_then)) (λ h. rw (h, title_then))

  pub title-none : in_heading c ≡ false → title_then c b ≡ c.title
  unfolding title_then
  title-none h = rw (h, title_then)

-- ---- bytes in two parts

pub fed-append : (c : Stream) (x y : List ℕ) → fed c (x ++ y) ≡ fed (fed c x) y
unfolding fed
fed-append c [] y = refl
fed-append c (b ∷ x) y = fed-append (stepped c b) x y

pub finished-append : (c : Stream) (x y : List ℕ) → finished c (x ++ y) ≡ finished c x ++ finished (fed c x) y
unfolding fed finished
finished-append c [] y = refl
finished-append c (b ∷ x) y =
    ap (λ (hs : List Heading). finished_by c b ++ hs) (finished-append (stepped c b) x y)
    ∙ sym (append_assoc (finished_by c b) (finished (stepped c b) x) (finished (fed (stepped c b) x) y))
