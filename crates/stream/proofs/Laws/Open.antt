-- The open states are those of the texts within the limit: a text's state passes the tests, and from numbers that pass them a text is made that has
-- that state.
-- Assumes nothing.
use mathlib.Core.Path.{◌≡◌, refl, sym, ap, ◌∙◌}
use mathlib.Core.Logic.{◌↔◌}
use mathlib.Core.Bool.{true, ◌&&◌, ◌||◌, or-true, or-false}
use mathlib.Core.List.{List, [], ◌++◌}
use Prim.Native.Nat.{ℕ, zero, suc, ◌+◌, ◌-◌, ◌≤◌, ◌<◌}
use native.Mathlib.Omega.{arith}
use lib.Dec.{leb, ltb, eqb}
use lib.ListN.{length, replicate, length-append}
use borrow.Author.Tests.{ltb-true, leb-true, eqb-true, eqb-false, lt-ltb, le-leb, eq-eqb}
use borrow.Table.Steps.{cases}
use Rattle.text.specs.Bytes.{is_star}
use Rattle.text.specs.Limits.{text_limit}
use Rattle.text.specs.Runs.{all}
use Rattle.text.specs.Lines.{Line}
use Rattle.rules.specs.Headings.{is_heading}
use Rattle.rules.proofs.Basics.{and_yes}
use Rattle.stream.specs.declared.state.Stream.{Stream}
use Rattle.stream.specs.State.{unfinished, stars_so_far, title_so_far, state_with, state_of, with_end}
use Rattle.stream.specs.Steps.{in_heading}
use Rattle.stream.specs.Call.{has_line, is_open}
use Rattle.stream.specs.Promises.{IsOpen}
use Rattle.stream.proofs.Laws.Unfinished.{NoNewline, unfinished-open, unfinished-after, unfinished-le}
use Rattle.stream.proofs.Laws.Titles.{title-inside}
use Rattle.stream.proofs.Laws.Stepped.{stars_so_far-alone, stars_so_far-heading, stars_so_far-none}
use Rattle.stream.proofs.Laws.Stepped.{title_so_far-heading, title_so_far-none, heading-state}
use Rattle.stream.proofs.Laws.Shapes.{LineWith, length-byte, stars-line, other-line, heading-line}

-- ---- from a text

has_line-state : (n : ℕ) (u : Line) → has_line (state_with n u) ≡ true
unfolding has_line
has_line-state n u = cases (is_heading u)
    (λ h. rw (heading-state u n ∙ h, has_line)
    (lt-ltb (title_so_far u) (length u - stars_so_far u) (rw (title_so_far-heading u h, stars_so_far-heading u h) (title-inside u h))))
    (λ h. rw (heading-state u n ∙ h, has_line)
    (rw (title_so_far-none u h)
    (cases (all is_star u)
    (λ i. rw (eq-eqb (stars_so_far u) (length u) (stars_so_far-alone u i)) (or-true (eqb (stars_so_far u) 0)))
    (λ i. rw (stars_so_far-none u h i)))))

is_open-state : (s : List ℕ) → length s ≤ text_limit → is_open (state_of s) ≡ true
unfolding is_open state_of
is_open-state s h =
    let u = unfinished s in
    rw (le-leb (length s) text_limit h, le-leb (length u) (length s) (unfinished-le s)) (has_line-state (length s) u)

-- ---- to a text

-- a line after lines that are empty
unfinished-last : (n : ℕ) (u : Line) → NoNewline u → unfinished (replicate n 10 ++ u) ≡ u
unfolding all
unfinished-last zero u h = unfinished-open u h
unfinished-last (suc n) u h = unfinished-after [] (replicate n 10 ++ u) refl ∙ unfinished-last n u h

state-last : (n : ℕ) (u : Line) → NoNewline u → state_of (replicate n 10 ++ u) ≡ state_with (n + length u) u
unfolding state_of
state-last n u h = rw (unfinished-last n u h, length-append (replicate n 10) u, length-byte n 10)

same-state : (c : Stream) (n : ℕ) (u : Line) → n ≡ c.total → length u ≡ c.line → stars_so_far u ≡ c.stars → title_so_far u ≡ c.title
    → c.ended ≡ 0 → state_with n u ≡ c
same-state c n u h i j k l =
    rw (h, i, j, k)
    (ap {B = Stream} (λ (e : ℕ). record { total = c.total; line = c.line; stars = c.stars; title = c.title; ended = e }) (sym l))

module _ (c : Stream) (h : is_open c ≡ true) where
  pub record Tests : Type 0 where
    pub ended : c.ended ≡ 0
    pub total : c.total ≤ text_limit
    pub line : c.line ≤ c.total
    pub has_line : has_line c ≡ true

  pub tests : Tests
  unfolding is_open
  tests =
      let (i, l) = and_yes (eqb c.ended 0 && leb c.total text_limit && leb c.line c.total) (has_line c) h in
      let (j, m) = and_yes (eqb c.ended 0 && leb c.total text_limit) (leb c.line c.total) i in
      let (e, n) = and_yes (eqb c.ended 0) (leb c.total text_limit) j in
      record {
        ended = eqb-true c.ended 0 e;
        total = leb-true c.total text_limit n;
        line = leb-true c.line c.total m;
        has_line = l;
      }

  heading-numbers : in_heading c ≡ true → (0 < c.stars) × (c.stars + c.title < c.line)
  unfolding in_heading has_line
  heading-numbers i =
      let (j, k) = and_yes (ltb 0 c.stars) (ltb c.stars c.line) i in
      let t = ltb-true c.title (c.line - c.stars) (rw (i, has_line) at tests.has_line) in
      (ltb-true 0 c.stars j, omega arith)

  made : LineWith c.line c.stars c.title
  unfolding has_line
  made = cases (in_heading c)
      (λ i. let n = heading-numbers i in heading-line c.line c.stars c.title n.0 n.1)
      (λ i. let (t, s) = and_yes (eqb c.title 0) (eqb c.stars 0 || eqb c.stars c.line) (rw (i, has_line) at tests.has_line) in
      rw (eqb-true c.title 0 t)
      (cases (eqb c.stars c.line)
      (λ j. rw (eqb-true c.stars c.line j) (stars-line c.line))
      (λ j. let z = eqb-true c.stars 0 (sym (or-false (eqb c.stars 0)) ∙ rw j at s) in
      rw z (other-line c.line (omega (arith, eqb-false c.stars c.line j))))))

  pub open-stars : c.stars ≤ c.line
  unfolding has_line
  open-stars = cases (in_heading c)
      (λ i. let n = (heading-numbers i).1 in omega (arith, n))
      (λ i. let o = (and_yes (eqb c.title 0) (eqb c.stars 0 || eqb c.stars c.line) (rw (i, has_line) at tests.has_line)).1 in
      cases (eqb c.stars c.line)
      (λ j. omega (arith, eqb-true c.stars c.line j))
      (λ j. omega (arith, eqb-true c.stars 0 (sym (or-false (eqb c.stars 0)) ∙ rw j at o))))

  opened : IsOpen c
  opened =
      let u = made.line in
      let k = c.total - c.line in
      let e : k + length u ≡ c.total = omega (arith, made.size, tests.line) in (
        replicate k 10 ++ u,
        omega (arith, tests.total, length-append (replicate k 10) u, length-byte k 10),
        state-last k u made.plain ∙ same-state c (k + length u) u e made.size made.stars made.title tests.ended,
      )

pub open-iff : (c : Stream) → (is_open c ≡ true) ↔ IsOpen c
open-iff c = (opened c, λ w. ap is_open (sym w.2) ∙ is_open-state w.0 w.1)

-- ---- the end

pub with-end-closed : (c : Stream) → IsOpen (with_end c) → ⊥
unfolding state_of
with-end-closed c w = let z : ◌≡◌ {A = ℕ} 0 1 = ap (λ (d : Stream). d.ended) w.2 in omega arith
