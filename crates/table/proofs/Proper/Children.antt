-- The records that one record of a table holds, told by their indexes: what is said of the children is said of the records with that parent, in
-- the table's order.
-- Assumes nothing.
use mathlib.Core.Path.{◌≡◌, refl, sym, ◌∙◌, subst}
use mathlib.Core.Logic.{◌⊎◌, inl, inr}
use mathlib.Core.Bool.{Bool, true, false}
use mathlib.Core.List.{List, [], ◌∷◌}
use mathlib.Core.Option.{Option, none, some, some-injective}
use Prim.Native.Nat.{ℕ, zero, suc, ◌+◌, ◌≤◌, ◌<◌}
use native.Mathlib.Omega.{arith}
use lib.Dec.{T, eqb}
use lib.ListN.{length, take}
use borrow.Author.Tests.{eqb-true, eqb-false}
use borrow.Table.Steps.{cases}
use Rattle.text.specs.Lines.{size}
use Rattle.text.specs.Parts.{lines_in, first_line}
use Rattle.text.proofs.Laws.Lines.{size-take-add}
use Rattle.text.proofs.Laws.LinesIn.{lines_in-drop}
use Rattle.rules.specs.FirstRule.{element_at, item_at}
use Rattle.rules.specs.Lists.{item}
use Rattle.rules.specs.Headings.{is_heading}
use Rattle.rules.specs.Kind
use Rattle.rules.specs.Kind.{holds_sections, is_holder}
use Rattle.rules.specs.Places.{place_at}
use Rattle.rules.proofs.Laws.Elements.{fine-element}
use Rattle.rules.proofs.Laws.Kind.{Holds, sections, elements, properties, rows, items, holder-holds}
use Rattle.rules.proofs.Basics.{All, all_nil, all_cons, all_map}
use Rattle.table.specs.Proper.{with_parent, children, Tiled, IsHeadingRecord, IsSectionRecord, IsTopRecord, HasFound, IsElementRecord, IsItemRecord, IsLineRecord, Proper}
use Rattle.table.specs.Records.{at, up}
use Rattle.table.specs.Sections.{line_at}
use Rattle.table.proofs.Basics.{on, split}
use Rattle.table.proofs.Laws.Proper.{with_parent-yes, with_parent-no}
use Rattle.table.specs.declared.record.Record.{Record}

-- P holds of some record
pub data Some (P : Record → Type 0) : List Record → Type 0 where
  some-here : {r : Record} {X : List Record} → P r → Some P (r ∷ X)
  some-there : {r : Record} {X : List Record} → Some P X → Some P (r ∷ X)

some-cases : {P : Record → Type 0} {r : Record} {X : List Record} → Some P (r ∷ X) → P r ⊎ Some P X
some-cases (some-here p) = inl p
some-cases (some-there h) = inr h

all_head : {P : Record → Type 0} {r : Record} {X : List Record} → All P (r ∷ X) → P r
all_head (all_cons p h) = p

all_tail : {P : Record → Type 0} {r : Record} {X : List Record} → All P (r ∷ X) → All P X
all_tail (all_cons p h) = h

-- record n of a table is a child of q
pub record ChildAt (X : List Record) (q n : ℕ) : Type 0 where
  pub inside : n < length X
  pub parent : (at X n).parent ≡ q

child_at-next : {r : Record} {X : List Record} {q n : ℕ} → ChildAt X q n → ChildAt (r ∷ X) q (suc n)
child_at-next h = record { inside = omega arith; parent = h.parent }

child_at-before : {r : Record} {X : List Record} {q n : ℕ} → ChildAt (r ∷ X) q (suc n) → ChildAt X q n
child_at-before h = record { inside = omega arith; parent = h.parent }

-- the first record is a child of q, or it is not
child-or-not {χ} : {A : Type χ} (q : ℕ) (r : Record) (X : List Record) → (r.parent ≡ q → with_parent q (r ∷ X) ≡ r ∷ with_parent q X → A)
    → ((r.parent ≡ q → ⊥) → with_parent q (r ∷ X) ≡ with_parent q X → A) → A
child-or-not q r X f g = cases (eqb r.parent q)
    (λ e. let i = eqb-true _ _ e in f i (with_parent-yes q r X i))
    (λ e. let i = eqb-false _ _ e in g i (with_parent-no q r X i))

-- ---- what holds of each, and of some

module _ (P : Record → Type 0) (q : ℕ) where
  pub with_parent-all : (X : List Record) → ((n : ℕ) → ChildAt X q n → P (at X n)) → All P (with_parent q X)
  unfolding with_parent
  with_parent-all [] h = all_nil
  with_parent-all (r ∷ X) h =
      let rest = with_parent-all X (λ n c. h (suc n) (child_at-next c)) in
      child-or-not q r X (λ i e. rw e (all_cons (h 0 (record { inside = omega arith; parent = i })) rest)) (λ i e. rw e rest)

  pub with_parent-each : (X : List Record) → All P (with_parent q X) → (n : ℕ) → ChildAt X q n → P (at X n)
  with_parent-each [] a n c = absurd (omega arith)
  with_parent-each (r ∷ X) a zero c = all_head (rw (with_parent-yes q r X c.parent) at a)
  with_parent-each (r ∷ X) a (suc n) c =
      child-or-not q r X
      (λ i e. with_parent-each X (all_tail (rw e at a)) n (child_at-before c))
      (λ i e. with_parent-each X (rw e at a) n (child_at-before c))

  -- some child has it
  abbrev SomeChild : List Record → Type 0
  SomeChild X = (n : ℕ) × ChildAt X q n × P (at X n)

  next-child : {r : Record} {X : List Record} → SomeChild X → SomeChild (r ∷ X)
  next-child c = (suc c.0, child_at-next c.1, c.2)

  pub with_parent-some : (X : List Record) → Some P (with_parent q X) → SomeChild X
  unfolding with_parent
  with_parent-some [] h = elim h [ ]
  with_parent-some (r ∷ X) h =
      child-or-not q r X
      (λ i e. on (some-cases (rw e at h)) (λ p. (0, record { inside = omega arith; parent = i }, p)) (λ p. next-child (with_parent-some X p)))
      (λ i e. next-child (with_parent-some X (rw e at h)))

-- ---- the first of them that passes a test

pub first : (Record → Bool) → List Record → Option Record
first f [] = none
first f (r ∷ X) = elim (f r) [ true ↦ some r | false ↦ first f X ]

-- r is the first child of q that passes
pub record FirstChild (f : Record → Bool) (X : List Record) (q : ℕ) (r : Record) : Type 0 where
  pub index : ℕ
  pub child : ChildAt X q index
  pub is : at X index ≡ r
  pub passes : f r ≡ true
  pub before : (n : ℕ) → n < index → ChildAt X q n → f (at X n) ≡ false

module _ (f : Record → Bool) where
  pub first-nil : first f [] ≡ none
  unfolding first
  first-nil = refl

  pub first-yes : (r : Record) (X : List Record) → f r ≡ true → first f (r ∷ X) ≡ some r
  unfolding first
  first-yes r X h = rw (h, first)

  pub first-no : (r : Record) (X : List Record) → f r ≡ false → first f (r ∷ X) ≡ first f X
  unfolding first
  first-no r X h = rw (h, first)

  pub first-none : (X : List Record) → first f X ≡ none → All (λ r. f r ≡ false) X
  first-none [] h = all_nil
  first-none (r ∷ X) h = cases (f r)
      (λ e. let g = first-yes r X e in all_cons (cc) (first-none X (cc)))
      (λ e. all_cons e (first-none X (sym (first-no r X e) ∙ h)))

  module _ (q : ℕ) where
    first-here : (r : Record) (X : List Record) → r.parent ≡ q → f r ≡ true → FirstChild f (r ∷ X) q r
    first-here r X i j =
        record {
          index = 0;
          child = record { inside = omega arith; parent = i };
          is = refl;
          passes = j;
          before = λ n b. absurd (omega arith);
        }

    first_next : (r : Record) (X : List Record) {x : Record} → (ChildAt (r ∷ X) q 0 → f r ≡ false) → FirstChild f X q x → FirstChild f (r ∷ X) q x
    first_next r X h c =
        record {
          index = suc c.index;
          child = child_at-next c.child;
          is = c.is;
          passes = c.passes;
          before = λ n. elim n as (λ n. n < suc c.index → ChildAt (r ∷ X) q n → f (at (r ∷ X) n) ≡ false) [
            | zero ↦ λ b. h
            | suc m ↦ λ b d. c.before m (omega arith) (child_at-before d)
          ];
        }

    pub with_parent-first : (X : List Record) (x : Record) → first f (with_parent q X) ≡ some x → FirstChild f X q x
    unfolding with_parent first
    with_parent-first [] x h = let z : ◌≡◌ {A = ℕ} 0 1 = cc in absurd (omega arith)
    with_parent-first (r ∷ X) x h =
        child-or-not q r X
        (λ i e. cases (f r)
        (λ j. let g : r ≡ x = some-injective r x (sym (first-yes r (with_parent q X) j) ∙ (rw e at h)) in
        subst (FirstChild f (r ∷ X) q) g (first-here r X i j))
        (λ j. first_next r X (λ c. j) (with_parent-first X x (sym (first-no r (with_parent q X) j) ∙ (rw e at h)))))
        (λ i e. first_next r X (λ c. absurd (i c.parent)) (with_parent-first X x (rw e at h)))

-- ---- children laid end to end

-- one starts where they do, and the next where that one ends
pub tiled-here : (a e : ℕ) (X : List Record) → Tiled a e X → a < e → Some (λ r. r.start ≡ a) X
unfolding Tiled
tiled-here a e [] t h = absurd (omega arith)
tiled-here a e (r ∷ X) t h = some-here t.0

pub tiled-next : (a b e : ℕ) (X : List Record) → Tiled a e X → a < e → All (λ r. r.start ≡ a → r.end ≡ b) X → b < e → Some (λ r. r.start ≡ b) X
unfolding Tiled
tiled-next a b e [] t h n k = absurd (omega arith)
tiled-next a b e (r ∷ X) t h n k = some-there (tiled-here b e X (rw (all_head n t.0) at t.1) k)

-- where they start is where lines do
abbrev pub LineFrom : List ℕ → ℕ → ℕ → ℕ → Type 0
LineFrom s a e p = (n : ℕ) × (p ≡ a + size (take n (lines_in s a e)))

-- a record that ends where a line of those after its start does
abbrev pub EndsLine : List ℕ → ℕ → Record → Type 0
EndsLine s e r = (n : ℕ) × (r.end ≡ r.start + size (take n (lines_in s r.start e)))

line_from-more : (s : List ℕ) (a e p n : ℕ) → LineFrom s a e p → LineFrom s a e (p + size (take n (lines_in s p e)))
line_from-more s a e p n h =
    let ls = lines_in s a e in
    (h.0 + n, rw (h.1, lines_in-drop s a e h.0) (omega (arith, size-take-add h.0 n ls)))

pub tiled-lines : (s : List ℕ) (a e p : ℕ) (X : List Record) → LineFrom s a e p → Tiled p e X → All (EndsLine s e) X → All (λ r. LineFrom s a e r.start) X
unfolding Tiled
tiled-lines s a e p [] h t n = all_nil
tiled-lines s a e p (r ∷ X) h t (all_cons m n) =
    let i : LineFrom s a e r.start = rw t.0 h in
    all_cons i (tiled-lines s a e r.end X (rw m.1 (line_from-more s a e r.start m.0 i)) t.1 n)

-- the later ones start later
tiled-from : (a e : ℕ) (X : List Record) → Tiled a e X → All (λ r. r.start < r.end) X → All (λ r. a ≤ r.start) X
unfolding Tiled
tiled-from a e [] t n = all_nil
tiled-from a e (r ∷ X) t (all_cons m n) = all_cons {a = r} (omega arith) (all_map (λ x i. omega arith) (tiled-from r.end e X t.1 n))

siblings-order : (a e q : ℕ) (X : List Record) → Tiled a e (with_parent q X) → All (λ r. r.start < r.end) (with_parent q X)
    → (n m : ℕ) → ChildAt X q n → ChildAt X q m → n < m → (at X n).start < (at X m).start
unfolding Tiled
siblings-order a e q [] t l n m c d h = absurd (omega arith)
siblings-order a e q (r ∷ X) t l n zero c d h = absurd (omega arith)
siblings-order a e q (r ∷ X) t l zero (suc m) c d h =
    let f = with_parent-yes q r X c.parent in
    let bytes = rw f at l in
    let i = tiled-from r.end e (with_parent q X) (rw f at t).1 (all_tail bytes) in
    omega (arith, all_head bytes, with_parent-each (λ x. r.end ≤ x.start) q X i m (child_at-before d))
siblings-order a e q (r ∷ X) t l (suc n) (suc m) c d h =
    child-or-not q r X
    (λ i f. siblings-order r.end e q X (rw f at t).1 (all_tail (rw f at l)) n m (child_at-before c) (child_at-before d) (omega arith))
    (λ i f. siblings-order a e q X (rw f at t) (rw f at l) n m (child_at-before c) (child_at-before d) (omega arith))

-- ---- in a proper table

children-whole : (R : List Record) (q : ℕ) → (at R 0).parent ≡ 0 → 0 < q → children R q ≡ with_parent q R
unfolding children with_parent
children-whole [] q h i = refl
children-whole (c ∷ X) q h i = sym (with_parent-no q c X (λ e. omega arith))

module _ (s : List ℕ) (R : List Record) (h : Proper s R) where
  -- only record 0 is a document
  pub later-kind : (k : ℕ) → ((at R k).kind ≡ Kind.document → ⊥) → 0 < k
  later-kind zero n = absurd (n h.document.kind)
  later-kind (suc k) n = omega arith

  -- ---- records by their kinds

  -- what is no element stands in a document or heading
  in_top : (k : ℕ) → 0 < k → k < length R → (at R k).kind < Kind.planning → T (holds_sections (up R k).kind)
  unfolding HasFound IsElementRecord IsItemRecord IsLineRecord element_at item_at item
  in_top k a b low = go (holder-holds (up R k).kind (h.holders k a b))
    where
      r : Record
      r = at R k

      c : Record
      c = up R k

      go : Holds c.kind → T (holds_sections c.kind)
      go (sections i) = i
      go (elements i) = absurd (omega (arith, (h.elements k a b i).kind, fine-element (lines_in s r.start c.to) (place_at s r.start)))
      go (properties i) = absurd (omega (arith, (h.properties k a b i).kind))
      go (rows i) = absurd (omega (arith, (h.rows k a b i).kind))
      go (items i) = absurd (omega (arith, (h.items k a b i).kind))

  pub heading-record : (k : ℕ) → k < length R → (at R k).kind ≡ Kind.heading → IsHeadingRecord s (at R k)
  unfolding IsTopRecord IsSectionRecord
  heading-record k b i =
      let a = later-kind k (λ j. omega arith) in
      let t = h.tops k a b (in_top k a b (omega arith)) in
      cases (is_heading (line_at s (at R k).start))
      (λ e. rw (e, IsTopRecord) at t)
      (λ e. absurd (omega (arith, (rw (e, IsTopRecord) at t).kind)))

  pub section-record : (k : ℕ) → k < length R → (at R k).kind ≡ Kind.section → IsSectionRecord s (up R k) (at R k)
  unfolding IsTopRecord IsHeadingRecord
  section-record k b i =
      let a = later-kind k (λ j. omega arith) in
      let t = h.tops k a b (in_top k a b (omega arith)) in
      cases (is_heading (line_at s (at R k).start))
      (λ e. absurd (omega (arith, (rw (e, IsTopRecord) at t).kind)))
      (λ e. rw (e, IsTopRecord) at t)

  -- ---- the children of record q

  module _ (q : ℕ) (i : 0 < q) where
    pub child_at-later : (n : ℕ) → ChildAt R q n → 0 < n
    child_at-later zero c = absurd (omega (arith, h.document_parent, c.parent))
    child_at-later (suc n) c = omega arith

    pub filled : q < length R → T (is_holder (at R q).kind) → Tiled (first_line s (at R q).from (at R q).to) (at R q).to (with_parent q R)
    filled j k = rw (children-whole R q h.document_parent i) at (h.tiled q j k)

    some_bytes : All (λ r. r.start < r.end) (with_parent q R)
    some_bytes = with_parent-all (λ r. r.start < r.end) q R (λ n c. (h.within n (child_at-later n c) c.inside).some)

    pub siblings-only : (n m : ℕ) → ChildAt R q n → ChildAt R q m → (at R n).start ≡ (at R m).start → n ≡ m
    siblings-only n m c d e =
        let a = child_at-later n c in
        let t = filled (omega (arith, c, h.earlier n a c.inside)) (rw c.parent at (h.holders n a c.inside)) in
        let order = siblings-order _ _ q R t some_bytes in
        split n m (λ l. absurd (omega (arith, order n m c d l)))
        (λ l. split m n (λ k. absurd (omega (arith, order m n d c k))) (λ k. omega arith))
