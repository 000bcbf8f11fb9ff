-- Laws of lines that are none of a heading: they finish nothing, and leave the length of the last of them.
use mathlib.Core.Path.{◌≡◌, refl, sym, ap, ◌∙◌}
use mathlib.Core.Bool.{Bool, true, false, not, ◌&&◌, true≢false}
use mathlib.Core.List.{List, [], ◌∷◌, ◌++◌}
use Prim.Native.Nat.{ℕ, zero, suc, ◌+◌, ◌-◌, ◌≤◌, ◌<◌}
use native.Mathlib.Omega.{arith}
use lib.Dec.{eqb}
use lib.ListN.{length, get_or, take-append-drop}
use borrow.Table.Steps.{cases}
use borrow.Author.Tests.{eqb-true, eqb-false, eq-eqb, ne_eqb}
use Rattle.text.specs.Bytes.{is_newline, is_not, is_star}
use Rattle.text.specs.Runs.{all}
use Rattle.text.specs.Parts.{part}
use Rattle.text.proofs.Basics.{and_first, and_second}
use Rattle.text.proofs.Laws.Parts.{part-nil, part-cons, part_length, part-take, part-drop}
use Rattle.rules.specs.Headings.{NoStarLine}
use Rattle.stream.specs.declared.state.Stream.{Stream}
use Rattle.stream.specs.Steps.{next_line, stepped, finished_by, fed, finished}
use Rattle.stream.specs.Spans.{LastLine}
use Rattle.stream.proofs.Laws.Unfinished.{no-newline-first, no-newline-rest}
use Rattle.stream.proofs.Laws.Steps.{heading-bare, last-no, stepped-newline, stepped-space, stepped-none, stepped-past}
use Rattle.stream.proofs.Laws.Steps.{title-none, finished-newline, finished-other}

-- no star stands after a byte 10, nor at the front, where a line starts there
unfoldable bare : Bool → List ℕ → Bool
bare f [] = true
bare f (b ∷ x) = not (f && is_star b) && bare (is_newline b) x

newline-is : (b : ℕ) → is_newline b ≡ true → b ≡ 10
unfolding is_newline
newline-is b h = eqb-true b 10 h

other-is : (b : ℕ) → is_newline b ≡ false → b ≡ 10 → ⊥
unfolding is_newline
other-is b h = eqb-false b 10 h

-- a byte of such a line
module _ (c : Stream) (b : ℕ) (h : c.stars ≡ 0) (k : c.line ≡ 0 → b ≡ 42 → ⊥) where
  bare-finished : finished_by c b ≡ []
  bare-finished = cases (eqb b 10)
      (λ t. finished-newline c b (eqb-true b 10 t) ∙ last-no c (heading-bare c (omega (arith, h))))
      (λ t. finished-other c b (eqb-false b 10 t))

  bare-other : (b ≡ 10 → ⊥) → stepped c b ≡ record { total = suc c.total; line = suc c.line; stars = 0; title = c.title; ended = c.ended }
  bare-other z = cases (eqb c.line 0)
      (λ t. let l = eqb-true c.line 0 t in
      let front : c.stars ≡ c.line = h ∙ sym l in
      cases (eqb b 32) (λ u. stepped-space c b z front (eqb-true b 32 u) ∙ rw h) (λ u. stepped-none c b z front (k l) (eqb-false b 32 u)))
      (λ t. let past : c.stars ≡ c.line → ⊥ = λ e. eqb-false c.line 0 t (sym e ∙ h) in
      stepped-past c b z past ∙ rw (title-none c b (heading-bare c (omega (arith, h))), h))

ne-star : (b : ℕ) → (b ≡ 42 → ⊥) → is_star b ≡ false
unfolding is_star
ne-star b h = ne_eqb b 42 h

back : (i : ℕ) → i + 1 - 1 ≡ i
back i = omega arith

-- the length of the last line after some bytes, and of what was its title
unfoldable line_after : ℕ → List ℕ → ℕ
line_after n [] = n
line_after n (b ∷ x) = elim (is_newline b) [ true ↦ line_after 0 x | false ↦ line_after (suc n) x ]

unfoldable title_after : ℕ → List ℕ → ℕ
title_after m [] = m
title_after m (b ∷ x) = elim (is_newline b) [ true ↦ title_after 0 x | false ↦ title_after m x ]

-- a line of no stars that count
abbrev pub starless : Stream → ℕ → ℕ → ℕ → Stream
starless c a l m = record { total = a; line = l; stars = 0; title = m; ended = c.ended }

-- at the front of a line, or past it
front-byte : (c : Stream) (b : ℕ) → not (eqb c.line 0 && is_star b) ≡ true → c.line ≡ 0 → b ≡ 42 → ⊥
unfolding is_star
front-byte c b h l k = true≢false (sym (rw (eq-eqb c.line 0 l, eq-eqb b 42 k) at h))

starless-same : (c : Stream) → c.stars ≡ 0 → c ≡ starless c (c.total + 0) c.line c.title
starless-same c h =
    let same : c.total ≡ c.total + 0 = omega arith in
    ap (λ (n : ℕ). record { total = c.total; line = c.line; stars = n; title = c.title; ended = c.ended }) h
    ∙ ap (λ (a : ℕ). starless c a c.line c.title) same

bare-fed : (c : Stream) (x : List ℕ) → c.stars ≡ 0 → bare (eqb c.line 0) x ≡ true
    → (fed c x ≡ starless c (c.total + length x) (line_after c.line x) (title_after c.title x)) × (finished c x ≡ [])
unfolding fed finished bare line_after title_after
bare-fed c [] h k = (starless-same c h, refl)
bare-fed c (b ∷ x) h k =
    let rest = bare (is_newline b) x in
    let first = not (eqb c.line 0 && is_star b) in
    let front = front-byte c b (and_first first rest k) in
    let later = and_second first rest k in
    let none = bare-finished c b h front in
    let more : suc c.total + length x ≡ c.total + suc (length x) = omega arith in
    cases (is_newline b)
    (λ t. let e = stepped-newline c b (newline-is b t) in
    let r = bare-fed (next_line c) x refl (rw t at later) in (
      ap (λ (d : Stream). fed d x) e ∙ r.0 ∙ rw (more, t, line_after, title_after),
      rw (none, e) r.1,
    ))
    (λ t. let e = bare-other c b h front (other-is b t) in
    let d = starless c (suc c.total) (suc c.line) c.title in
    let longer : eqb (suc c.line) 0 ≡ false = ne_eqb (suc c.line) 0 (λ z. omega (arith, z)) in
    let r = bare-fed d x refl (rw (t, ← longer) at later) in (
      ap (λ (d : Stream). fed d x) e ∙ r.0 ∙ rw (more, t, line_after, title_after),
      rw (none, e) r.1,
    ))

-- ---- without byte 10, and after the last one

plain-after : (n m : ℕ) (x : List ℕ) → all (is_not 10) x ≡ true → (line_after n x ≡ n + length x) × (title_after m x ≡ m)
unfolding line_after title_after
plain-after n m [] h = (omega arith, refl)
plain-after n m (b ∷ x) h =
    let r = plain-after (suc n) m x (no-newline-rest b x h) in
    let longer : suc n + length x ≡ n + suc (length x) = omega arith in
    rw (no-newline-first b x h, line_after, title_after) (r.0 ∙ longer, r.1)

last-after : (n m : ℕ) (u v : List ℕ) → all (is_not 10) v ≡ true → (line_after n (u ++ (10 ∷ v)) ≡ length v) × (title_after m (u ++ (10 ∷ v)) ≡ 0)
unfolding line_after title_after is_newline
last-after n m [] v h = let r = plain-after 0 0 v h in (r.0 ∙ omega arith, r.1)
last-after n m (b ∷ u) v h = cases (is_newline b)
    (λ t. rw (t, line_after, title_after) (last-after 0 0 u v h))
    (λ t. rw (t, line_after, title_after) (last-after (suc n) m u v h))

-- ---- in a piece

bare-part : (x : List ℕ) (n i : ℕ) (f : Bool) → i + n ≤ length x → (f ≡ true → i < i + n → get_or x i 0 ≡ 42 → ⊥) → NoStarLine x (i + 1) (i + n)
    → bare f (part x i (i + n)) ≡ true
unfolding bare
bare-part x zero i f l h k = rw (part-nil x i (i + 0) (omega arith))
bare-part x (suc n) i f l h k =
    let b = get_or x i 0 in
    let next : i + suc n ≡ i + 1 + n = omega arith in
    let first : not (f && is_star b) ≡ true = cases f (λ t. rw (t, ne-star b (h t (omega arith)))) (λ t. rw t) in
    let rest : bare (is_newline b) (part x (i + 1) (i + 1 + n)) ≡ true =
    bare-part x n (i + 1) (is_newline b) (omega (arith, l))
    (λ t j e. k (i + 1) (omega arith) (omega (arith, j)) (e, rw (back i) (newline-is b t)))
    (λ a p q. k a (omega (arith, p)) (omega (arith, q)))
    in
    rw (part-cons x i (i + suc n) (omega arith) l, next) (rw first rest)

part_join : (x : List ℕ) (p q e : ℕ) → p ≤ q → q ≤ e → e ≤ length x → part x p e ≡ part x p q ++ part x q e
part_join x p q e h i k =
    let n = q - p in
    let there : p + n ≡ q = omega (arith, h) in
    sym (take-append-drop n (part x p e)) ∙ rw (part-take x n p e (omega (arith, h, i)), part-drop x n p e, there)

module _ (c : Stream) (x : List ℕ) (i e : ℕ) (h : c.stars ≡ 0) (front : c.line ≡ 0 → get_or x i 0 ≡ 42 → ⊥) where
  module _ (from : i ≤ e) (to : e ≤ length x) (none : NoStarLine x (i + 1) e) where
    is-bare : bare (eqb c.line 0) (part x i e) ≡ true
    is-bare =
        let there : i + (e - i) ≡ e = omega (arith, from) in
        rw there at (bare-part x (e - i) i (eqb c.line 0) (omega (arith, from, to)) (λ t j. front (eqb-true c.line 0 t))
        (λ a p q. none a p (omega (arith, q, from))))

    pub lines-finished : finished c (part x i e) ≡ []
    lines-finished = (bare-fed c (part x i e) h is-bare).1

    passed : fed c (part x i e) ≡ starless c (c.total + (e - i)) (line_after c.line (part x i e)) (title_after c.title (part x i e))
    passed = (bare-fed c (part x i e) h is-bare).0 ∙ rw (part_length x i e to)

    pub lines-plain : all (is_not 10) (part x i e) ≡ true → fed c (part x i e) ≡ starless c (c.total + (e - i)) (c.line + (e - i)) c.title
    lines-plain a = let r = plain-after c.line c.title (part x i e) a in passed ∙ rw (r.0, r.1, part_length x i e to)

    pub lines-last : (q : ℕ) → LastLine x i e q → i < q → fed c (part x i e) ≡ starless c (c.total + (e - i)) (e - q) 0
    lines-last q l j =
        let u = part x i (q - 1) in
        let v = part x q e in
        let there : q - 1 + 1 ≡ q = omega (arith, j) in
        let tail : part x (q - 1) e ≡ 10 ∷ v = part-cons x (q - 1) e (omega (arith, j, l.to)) to ∙ rw (l.newline j, there) in
        let split : part x i e ≡ u ++ (10 ∷ v) = part_join x i (q - 1) e (omega (arith, j)) (omega (arith, l.to)) to ∙ rw tail in
        let r = last-after c.line c.title u v l.plain in
        passed ∙ rw split (rw (r.0, r.1, part_length x q e to))
