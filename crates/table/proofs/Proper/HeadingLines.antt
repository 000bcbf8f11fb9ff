-- In a proper table one heading record starts at each heading line of the text, and none elsewhere.
-- Assumes nothing.
use mathlib.Core.Path.{◌≡◌, refl, sym}
use mathlib.Core.Bool.{true, false}
use mathlib.Core.List.Memᴰ
use mathlib.Core.List.{List, [], ◌∷◌, Memᴰ}
use Prim.Native.Nat.{ℕ, zero, suc, ◌+◌, ◌≤◌, ◌<◌}
use native.Mathlib.Omega.{arith}
use lib.Dec.{eqb}
use lib.ListN.{length, take, drop}
use lib.Seq.{drop-nil}
use borrow.Author.Tests.{eqb-true, eqb-false, eq-eqb, ne_eqb}
use borrow.Table.Steps.{cases}
use Rattle.text.specs.Lines.{Line, lines, size, head_line}
use Rattle.text.specs.Parts.{line_in}
use Rattle.rules.specs.Headings.{is_heading}
use Rattle.rules.specs.Kind
use Rattle.rules.proofs.Laws.Headings.{stars-some, stars-le}
use Rattle.text.proofs.Laws.LineStarts.{lines_in-whole}
use Rattle.rules.proofs.Laws.PropertyDrawers.{HeadingLine}
use Rattle.table.specs.Proper.{heading_lines_in, heading_lines, heading_starts, Proper}
use Rattle.table.specs.Records.{at}
use Rattle.table.proofs.Basics.{on, split}
use Rattle.table.specs.declared.record.Record.{Record}

-- record i is a heading
pub record HeadingAt (R : List Record) (i : ℕ) : Type 0 where
  pub inside : i < length R
  pub kind : (at R i).kind ≡ Kind.heading

heading_at-next : {r : Record} {R : List Record} {i : ℕ} → HeadingAt R i → HeadingAt (r ∷ R) (suc i)
heading_at-next h = record { inside = omega arith; kind = h.kind }

heading_at-before : {r : Record} {R : List Record} {i : ℕ} → HeadingAt (r ∷ R) (suc i) → HeadingAt R i
heading_at-before h = record { inside = omega arith; kind = h.kind }

-- ---- heading records and their starts

module _ (r : Record) (R : List Record) where
  starts-yes : r.kind ≡ Kind.heading → heading_starts (r ∷ R) ≡ r.start ∷ heading_starts R
  unfolding heading_starts
  starts-yes h = rw (eq-eqb r.kind Kind.heading h, heading_starts)

  starts-no : (r.kind ≡ Kind.heading → ⊥) → heading_starts (r ∷ R) ≡ heading_starts R
  unfolding heading_starts
  starts-no h = rw (ne_eqb r.kind Kind.heading h, heading_starts)

  heading-or-not {χ} : {A : Type χ} → (r.kind ≡ Kind.heading → heading_starts (r ∷ R) ≡ r.start ∷ heading_starts R → A)
      → (heading_starts (r ∷ R) ≡ heading_starts R → A) → A
  heading-or-not f g = cases (eqb r.kind Kind.heading)
      (λ e. let i = eqb-true _ _ e in f i (starts-yes i))
      (λ e. g (starts-no (eqb-false _ _ e)))

-- p is the start of heading i
abbrev HeadingFrom : List Record → ℕ → Type 0
HeadingFrom R p = (i : ℕ) × HeadingAt R i × ((at R i).start ≡ p)

next-heading : {r : Record} {R : List Record} {p : ℕ} → HeadingFrom R p → HeadingFrom (r ∷ R) p
next-heading h = (suc h.0, heading_at-next h.1, h.2)

start-member : (R : List Record) (i : ℕ) → HeadingAt R i → Memᴰ (at R i).start (heading_starts R)
start-member [] i h = absurd (omega arith)
start-member (r ∷ R) zero h = rw (starts-yes r R h.kind) (Memᴰ.head refl)
start-member (r ∷ R) (suc i) h =
    let m = start-member R i (heading_at-before h) in
    heading-or-not r R (λ k e. rw e (Memᴰ.tail m)) (λ e. rw e m)

member-start : (R : List Record) (p : ℕ) → Memᴰ p (heading_starts R) → HeadingFrom R p
unfolding heading_starts
member-start [] p m = absurd (Memᴰ.not-nil m)
member-start (r ∷ R) p m =
    heading-or-not r R
    (λ k e. on (Memᴰ.cases_cons (rw e at m))
    (λ i. (0, record { inside = omega arith; kind = k }, sym i))
    (λ n. next-heading (member-start R p n)))
    (λ e. next-heading (member-start R p (rw e at m)))

-- ---- heading lines and their starts

module _ (p : ℕ) (l : Line) (ls : List Line) where
  lines-yes : is_heading l ≡ true → heading_lines_in p (l ∷ ls) ≡ p ∷ heading_lines_in (p + length l) ls
  unfolding heading_lines_in
  lines-yes h = rw (h, heading_lines_in)

  lines-no : is_heading l ≡ false → heading_lines_in p (l ∷ ls) ≡ heading_lines_in (p + length l) ls
  unfolding heading_lines_in
  lines-no h = rw (h, heading_lines_in)

no-heading : is_heading [] ≡ true → ⊥
no-heading h = omega (arith, stars-some [] h, stars-le [])

-- after n lines
line-member : (p : ℕ) (ls : List Line) (n : ℕ) → is_heading (head_line (drop n ls)) ≡ true → Memᴰ (p + size (take n ls)) (heading_lines_in p ls)
unfolding head_line size
line-member p [] n h = absurd (no-heading (rw (drop-nil n) at h))
line-member p (l ∷ ls) zero h = rw (lines-yes p l ls h) (Memᴰ.head {x = p} (omega arith))
line-member p (l ∷ ls) (suc n) h =
    let m = Memᴰ.cast {a = p + (length l + size (take n ls))} (omega arith) (line-member (p + length l) ls n h) in
    cases (is_heading l) (λ e. rw (lines-yes p l ls e) (Memᴰ.tail m)) (λ e. rw (lines-no p l ls e) m)

-- p is where a heading line starts, after n lines from a
abbrev LineAfter : ℕ → List Line → ℕ → Type 0
LineAfter a ls p = (n : ℕ) × (is_heading (head_line (drop n ls)) ≡ true) × (p ≡ a + size (take n ls))

next-line : (a : ℕ) (l : Line) (ls : List Line) (p : ℕ) → LineAfter (a + length l) ls p → LineAfter a (l ∷ ls) p
unfolding size
next-line a l ls p h = (suc h.0, h.1, omega (arith, h.2))

member-line : (a : ℕ) (ls : List Line) (p : ℕ) → Memᴰ p (heading_lines_in a ls) → LineAfter a ls p
unfolding heading_lines_in head_line size
member-line a [] p m = absurd (Memᴰ.not-nil m)
member-line a (l ∷ ls) p m = cases (is_heading l)
    (λ e. on (Memᴰ.cases_cons (rw (lines-yes a l ls e) at m))
    (λ i. (0, e, omega arith))
    (λ n. next-line a l ls p (member-line (a + length l) ls p n)))
    (λ e. next-line a l ls p (member-line (a + length l) ls p (rw (lines-no a l ls e) at m)))

-- ---- each starts after the one before

data Rising : ℕ → List ℕ → Type 0 where
  rising-nil : {a : ℕ} → Rising a []
  rising-cons : {a p : ℕ} {X : List ℕ} → a ≤ p → Rising (suc p) X → Rising a (p ∷ X)

rising-from : {a b : ℕ} {X : List ℕ} → b ≤ a → Rising a X → Rising b X
rising-from h rising-nil = rising-nil
rising-from {b = b} h (rising-cons {p = p} i r) = rising-cons {a = b} {p = p} (omega arith) r

rising-tail : {a p : ℕ} {X : List ℕ} → Rising a (p ∷ X) → Rising (suc p) X
rising-tail (rising-cons i r) = r

rising-member : {a p : ℕ} {X : List ℕ} → Rising a X → Memᴰ p X → a ≤ p
rising-member rising-nil m = absurd (Memᴰ.not-nil m)
rising-member (rising-cons i r) m = on (Memᴰ.cases_cons m) (λ e. omega arith) (λ n. omega (arith, rising-member r n))

lines-rising : (p : ℕ) (ls : List Line) → Rising p (heading_lines_in p ls)
unfolding heading_lines_in
lines-rising p [] = rising-nil
lines-rising p (l ∷ ls) =
    let r = lines-rising (p + length l) ls in
    cases (is_heading l)
    (λ e. rw (lines-yes p l ls e) (rising-cons {a = p} {p = p} (omega arith) (rising-from (omega (arith, stars-some l e, stars-le l)) r)))
    (λ e. rw (lines-no p l ls e) (rising-from (omega arith) r))

starts-rising : (a : ℕ) (R : List Record) → Rising a (heading_starts R) → (i j : ℕ) → HeadingAt R i → HeadingAt R j → i < j → (at R i).start < (at R j).start
starts-rising a [] h i j c d l = absurd (omega arith)
starts-rising a (r ∷ R) h i zero c d l = absurd (omega arith)
starts-rising a (r ∷ R) h zero (suc j) c d l =
    rising-member (rising-tail (rw (starts-yes r R c.kind) at h)) (start-member R j (heading_at-before d))
starts-rising a (r ∷ R) h (suc i) (suc j) c d l =
    let k = heading_at-before c in
    let m = heading_at-before d in
    heading-or-not r R
    (λ n e. starts-rising (suc r.start) R (rising-tail (rw e at h)) i j k m (omega arith))
    (λ e. starts-rising a R (rw e at h) i j k m (omega arith))

-- ---- in a proper table

module _ (s : List ℕ) (R : List Record) (h : Proper s R) where
  -- a heading record starts at a heading line
  pub heading-line : (i : ℕ) → HeadingAt R i → HeadingLine s (at R i).start
  unfolding heading_lines line_in
  heading-line i c =
      let m = member-line 0 (lines s) (at R i).start (rw h.headings_stand at (start-member R i c)) in
      let e : (at R i).start ≡ size (take m.0 (lines s)) = omega (arith, m.2) in
      record { start = record { number = m.0; is = e }; heading = rw (e, lines_in-whole s m.0) m.1 }

  -- and one at each
  pub line-heading : (p : ℕ) → HeadingLine s p → (i : ℕ) × HeadingAt R i × ((at R i).start ≡ p)
  unfolding heading_lines line_in
  line-heading p l =
      let n = l.start.number in
      let e = l.start.is in
      member-start R p
      (rw h.headings_stand (Memᴰ.cast (omega arith) (line-member 0 (lines s) n (rw (e, lines_in-whole s n) at l.heading))))

  -- and no other
  pub heading-only : (i j : ℕ) → HeadingAt R i → HeadingAt R j → (at R i).start ≡ (at R j).start → i ≡ j
  unfolding heading_lines
  heading-only i j c d e =
      let order = starts-rising 0 R (rw h.headings_stand (lines-rising 0 (lines s))) in
      split i j (λ l. absurd (omega (arith, order i j c d l)))
      (λ l. split j i (λ k. absurd (omega (arith, order j i d c k))) (λ k. omega arith))
