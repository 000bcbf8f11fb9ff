-- Laws of a line's bytes, once it has been more than stars: they finish nothing, and only the title grows, up to its last non-blank byte.
use mathlib.Core.Path.{◌≡◌, refl, sym, ap, ◌∙◌}
use mathlib.Core.Bool.{Bool, true, false}
use mathlib.Core.List.{List, [], ◌∷◌}
use Prim.Native.Nat.{ℕ, suc, ◌+◌, ◌-◌, ◌≤◌, ◌<◌}
use native.Mathlib.Omega.{arith}
use lib.ListN.{length}
use lib.Dec.{ltb}
use borrow.Table.Steps.{cases}
use borrow.Author.Tests.{eqb-false, ltb-true, ltb-false}
use Rattle.text.specs.Bytes.{is_newline, is_not, is_non_blank}
use Rattle.text.specs.Runs.{all, trim_end, cons_unless_end}
use Rattle.stream.specs.declared.state.Stream.{Stream}
use Rattle.stream.specs.Steps.{in_heading, title_then, stepped, fed, finished}
use Rattle.stream.proofs.Laws.Unfinished.{no-newline-first, no-newline-rest}
use Rattle.stream.proofs.Laws.Steps.{stepped-past, title-more, title-blank, title-none, finished-other, heading-yes, heading-bare}

-- the state after n bytes more of the line, with a title of m bytes
abbrev pub further : Stream → ℕ → ℕ → Stream
further c n m = record { total = c.total + n; line = c.line + n; stars = c.stars; title = m; ended = c.ended }

-- the title after bytes that are y up to the last non-blank one, where it could have n bytes before them and had m
unfoldable title_with : Bool → ℕ → ℕ → List ℕ → ℕ
title_with false n m y = m
title_with true n m [] = m
title_with true n m (b ∷ y) = n + length (b ∷ y)

-- the first of these bytes
title-step : (c : Stream) (b : ℕ) (y : List ℕ) → c.stars < c.line →
    title_with (in_heading c) (suc c.line - c.stars - 1) (title_then c b) y
    ≡ title_with (in_heading c) (c.line - c.stars - 1) c.title (cons_unless_end b y)
unfolding title_with cons_unless_end
title-step c b [] h = cases (in_heading c)
    (λ i. cases (is_non_blank b)
    (λ k. rw (i, k, title_with, cons_unless_end) (title-more c b i k ∙ omega (arith, h)))
    (λ k. rw (i, k, title_with, cons_unless_end) (title-blank c b k)))
    (λ i. rw (i, title_with) (title-none c b i))
title-step c b (d ∷ y) h = cases (in_heading c) (λ i. rw (i, title_with) (omega (arith, h))) (λ i. rw (i, title_with) (title-none c b i))

title-nil : (h : Bool) (n m : ℕ) → title_with h n m [] ≡ m
unfolding title_with
title-nil true n m = refl
title-nil false n m = refl

-- the state after no bytes, and after the first of n bytes and one
module _ (c : Stream) where
  abbrev state_at : ℕ → ℕ → ℕ → Stream
  state_at a l m = record { total = a; line = l; stars = c.stars; title = m; ended = c.ended }

  further-none : c ≡ further c 0 c.title
  further-none =
      let same : (a : ℕ) → a ≡ a + 0 = λ a. omega arith in
      ap (λ (a : ℕ). state_at a c.line c.title) (same c.total) ∙ ap (λ (l : ℕ). state_at (c.total + 0) l c.title) (same c.line)

  further-step : (n m k : ℕ) → further (state_at (suc c.total) (suc c.line) k) n m ≡ further c (suc n) m
  further-step n m k =
      let same : (a : ℕ) → suc a + n ≡ a + suc n = λ a. omega arith in
      ap (λ (a : ℕ). state_at a (suc c.line + n) m) (same c.total) ∙ ap (λ (l : ℕ). state_at (c.total + suc n) l m) (same c.line)

heading-step : (c d : Stream) → d.stars ≡ c.stars → d.line ≡ suc c.line → c.stars < c.line → in_heading d ≡ in_heading c
heading-step c d h i k =
    by-stars c.stars 0
    (λ l. heading-yes d (omega (arith, h, l)) (omega (arith, h, i, k)) ∙ sym (heading-yes c l k))
    (λ l. heading-bare d (omega (arith, h, l)) ∙ sym (heading-bare c l))
  where
    by-stars : (a b : ℕ) → (b < a → in_heading d ≡ in_heading c) → (a ≤ b → in_heading d ≡ in_heading c) → in_heading d ≡ in_heading c
    by-stars a b f g = cases (ltb b a) (λ l. f (ltb-true b a l)) (λ l. g (ltb-false b a l))

other : (b : ℕ) (x : List ℕ) → all (is_not 10) (b ∷ x) ≡ true → (b ≡ 10 → ⊥) × (all (is_not 10) x ≡ true)
unfolding is_newline
other b x h = (eqb-false b 10 (no-newline-first b x h), no-newline-rest b x h)

fed-with : (c : Stream) (x : List ℕ) → all (is_not 10) x ≡ true → c.stars < c.line →
    fed c x ≡ further c (length x) (title_with (in_heading c) (c.line - c.stars - 1) c.title (trim_end x))
unfolding fed trim_end
fed-with c [] h k = further-none c ∙ ap (further c 0) (sym (title-nil (in_heading c) (c.line - c.stars - 1) c.title))
fed-with c (b ∷ x) h k =
    let o = other b x h in
    let t = title_then c b in
    let d : Stream = record { total = suc c.total; line = suc c.line; stars = c.stars; title = t; ended = c.ended } in
    let n = c.line - c.stars - 1 in
    ap (λ (e : Stream). fed e x) (stepped-past c b o.0 (λ z. omega (arith, z, k)))
    ∙ fed-with d x o.1 (omega (arith, k))
    ∙ ap (λ (w : Bool). further d (length x) (title_with w (suc c.line - c.stars - 1) t (trim_end x))) (heading-step c d refl refl k)
    ∙ ap (further d (length x)) (title-step c b (trim_end x) k)
    ∙ further-step c (length x) (title_with (in_heading c) n c.title (cons_unless_end b (trim_end x))) t

-- with no non-blank byte, and with some
title-empty : (n m : ℕ) (y : List ℕ) → length y ≤ 0 → title_with true n m y ≡ m
unfolding title_with
title-empty n m [] h = refl
title-empty n m (b ∷ y) h = absurd (omega arith)

title-some : (n m : ℕ) (y : List ℕ) → 0 < length y → title_with true n m y ≡ n + length y
unfolding title_with
title-some n m [] h = absurd (omega arith)
title-some n m (b ∷ y) h = refl

module _ (c : Stream) (x : List ℕ) (h : all (is_not 10) x ≡ true) (k : c.stars < c.line) where
  title-fed : (fed c x).title ≡ title_with (in_heading c) (c.line - c.stars - 1) c.title (trim_end x)
  title-fed = ap (λ (d : Stream). d.title) (fed-with c x h k)

  pub fed-further : fed c x ≡ further c (length x) (fed c x).title
  fed-further = fed-with c x h k ∙ ap (further c (length x)) (sym title-fed)

  -- bytes that are all blank
  pub fed-blank : in_heading c ≡ true → length (trim_end x) ≤ 0 → (fed c x).title ≡ c.title
  fed-blank i l = rw (i, title-empty (c.line - c.stars - 1) c.title (trim_end x) l) at title-fed

  pub fed-title : in_heading c ≡ true → 0 < length (trim_end x) → (fed c x).title ≡ c.line - c.stars - 1 + length (trim_end x)
  fed-title i l = rw (i, title-some (c.line - c.stars - 1) c.title (trim_end x) l) at title-fed

pub finished-none : (c : Stream) (x : List ℕ) → all (is_not 10) x ≡ true → finished c x ≡ []
unfolding finished
finished-none c [] h = refl
finished-none c (b ∷ x) h = let o = other b x h in rw (finished-other c b o.0) (finished-none (stepped c b) x o.1)
