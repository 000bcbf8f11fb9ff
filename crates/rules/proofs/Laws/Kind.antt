-- Laws of the table of kinds. Each is a rule of the rows: where one test passes, another does. That is computed for the rows, and holds of what the
-- table says of any number by induction over the table, so that a new row that keeps the rules asks for no new proof.
-- Assumes nothing.
use mathlib.Core.Path.{◌≡◌, refl, sym, subst}
use mathlib.Core.Logic.{◌⊎◌, inl, inr, ⊎_elim}
use mathlib.Core.Bool.{Bool, true, false, not, ◌&&◌, ◌||◌, true≢false}
use mathlib.Core.List.{List, [], ◌∷◌}
use Prim.Native.Nat.{ℕ, ◌≤◌}
use native.Mathlib.Omega.{arith}
use lib.Dec.{T, eqb, leb, ltb, leb→le, ltb→lt, eqb→eq}
use borrow.Table.Steps.{cases}
use borrow.Author.Tests.{eqb-true, ne_eqb, le-leb}
use Rattle.rules.specs.Kind
use Rattle.rules.specs.Kind.{Inner, wholeSpan, afterLine, lines_between, sameInner, Children, sameChildren, KindRow, kinds, no_kind, kind_among}
use Rattle.rules.specs.Kind.{kind_of, inner_of, decided, holds_sections, holds_elements, is_holder, counts_depth, is_bound, is_run}

-- ---- rules of the rows

-- a test of a number and of what the table says of it
abbrev Test : Type 0
Test = ℕ → KindRow → Bool

-- it passes at each row
abbrev every : Test → List KindRow → Bool
every f [] = true
every f (x ∷ xs) = f x.number x && every f xs

among-passes : (f : Test) (xs : List KindRow) (k : ℕ) → every f xs ≡ true → f k no_kind ≡ true → f k (kind_among xs k) ≡ true
unfolding kind_among
among-passes f [] k h o = o
among-passes f (x ∷ xs) k h o = cases (f x.number x)
    (λ i. cases (eqb x.number k)
    (λ e. rw (e, kind_among) (subst (λ (n : ℕ). f n x ≡ true) (eqb-true x.number k e) i))
    (λ e. rw (e, kind_among) (among-passes f xs k (rw i at h) o)))
    (λ i. absurd (true≢false (sym (rw i at h))))

-- where a passes, b does
infix 100 ◌⇒◌
abbrev ◌⇒◌ : Bool → Bool → Bool
true ⇒ b = b
false ⇒ b = true

implied : (a b : Bool) → a ⇒ b ≡ true → T a → T b
implied true b h t = rw h tt
implied false b h t = absurd t

decided-yes : {A : Type 0} (d : Dec A) → T (decided d) → A
decided-yes (yes a) h = a
decided-yes (no n) h = absurd h

abbrev spans : Inner → Test
spans i n x = decided (sameInner x.inner i)

abbrev holds : Children → Test
holds c n x = decided (sameChildren x.holds c)

abbrev holder : Test
holder n x = not (holds Kind.nothing n x)

abbrev deep : Test
deep n x = x.deep

-- ---- what the table says of a number

module _ (k : ℕ) where
  rule : (a b : Test) → every (λ n x. a n x ⇒ b n x) kinds ≡ true → a k no_kind ⇒ b k no_kind ≡ true → T (a k (kind_of k)) → T (b k (kind_of k))
  unfolding kind_of
  rule a b h o = implied (a k (kind_of k)) (b k (kind_of k)) (among-passes (λ n x. a n x ⇒ b n x) kinds k h o)

  -- one kind alone passes
  only : (a : Test) (m : ℕ) → every (λ n x. a n x ⇒ eqb n m) kinds ≡ true → a k no_kind ⇒ eqb k m ≡ true → T (a k (kind_of k)) → k ≡ m
  only a m h o t = eqb→eq k m (rule a (λ n x. eqb n m) h o t)

  pub sections-low : T (holds_sections k) → k ≤ Kind.heading
  unfolding holds_sections
  sections-low h = leb→le k Kind.heading (rule (holds Kind.sections) (λ n x. leb n Kind.heading) refl refl h)

  pub sections-holder : T (holds_sections k) → T (is_holder k)
  unfolding holds_sections is_holder
  sections-holder = rule (holds Kind.sections) holder refl refl

  pub elements-high : T (holds_elements k) → Kind.section ≤ k
  unfolding holds_elements
  elements-high h = leb→le Kind.section k (rule (holds Kind.elements) (λ n x. leb Kind.section n) refl refl h)

  pub elements-holder : T (holds_elements k) → T (is_holder k)
  unfolding holds_elements is_holder
  elements-holder = rule (holds Kind.elements) holder refl refl

  pub elements-no-property : T (holds_elements k) → k ≡ Kind.property_drawer → ⊥
  unfolding holds_elements
  elements-no-property h e = rw e at h

  pub elements-no-table : T (holds_elements k) → k ≡ Kind.table → ⊥
  unfolding holds_elements
  elements-no-table h e = rw e at h

  pub elements-no-list : T (holds_elements k) → k ≡ Kind.list → ⊥
  unfolding holds_elements
  elements-no-list h e = rw e at h

  -- what a holder holds
  pub data Holds : Type 0 where
    sections : T (holds_sections k) → Holds
    elements : T (holds_elements k) → Holds
    properties : k ≡ Kind.property_drawer → Holds
    rows : k ≡ Kind.table → Holds
    items : k ≡ Kind.list → Holds

  pub holder-holds : T (is_holder k) → Holds
  unfolding is_holder holds_sections holds_elements
  holder-holds h = go (kind_of k).holds refl
    where
      go : (c : Children) → (kind_of k).holds ≡ c → Holds
      go Kind.nothing e = absurd (rw e at h)
      go Kind.sections e = sections (rw e tt)
      go Kind.elements e = elements (rw e tt)
      go Kind.properties e = properties (only (holds Kind.properties) Kind.property_drawer refl refl (rw e tt))
      go Kind.rows e = rows (only (holds Kind.rows) Kind.table refl refl (rw e tt))
      go Kind.items e = items (only (holds Kind.items) Kind.list refl refl (rw e tt))

  -- a holder from kind 4 on is a table, a list or an item, or holds the lines between its first and its last
  pub data HolderInner : Type 0 where
    is_table : k ≡ Kind.table → HolderInner
    is_list : k ≡ Kind.list → HolderInner
    is_item : k ≡ Kind.item → HolderInner
    is_between : inner_of k ≡ lines_between → HolderInner

  pub holder-inner : Kind.planning ≤ k → T (is_holder k) → HolderInner
  unfolding is_holder inner_of
  holder-inner low h =
      let i = rule holder (λ n x. leb Kind.planning n ⇒ (eqb n Kind.table || eqb n Kind.list || eqb n Kind.item || spans lines_between n x)) refl refl h in
      cases (eqb k Kind.table)
      (λ e. is_table (eqb-true k Kind.table e))
      (λ e. cases (eqb k Kind.list)
      (λ d. is_list (eqb-true k Kind.list d))
      (λ d. cases (eqb k Kind.item)
      (λ c. is_item (eqb-true k Kind.item c))
      (λ c. is_between (decided-yes (sameInner (inner_of k) lines_between) (rw (le-leb Kind.planning k low, e, d, c) at i)))))

  -- from kind 4 on no inner span is the whole span, or all of it after its first line
  pub inner-late : Kind.planning ≤ k → (inner_of k ≡ wholeSpan) ⊎ (inner_of k ≡ afterLine) → ⊥
  unfolding inner_of
  inner-late low o =
      let early = rule (λ n x. spans wholeSpan n x || spans afterLine n x) (λ n x. ltb n Kind.planning) refl refl in
      omega (arith, ltb→lt k Kind.planning (early (⊎_elim (λ e. rw e tt) (λ e. rw e tt) o)))

  -- ---- bounds and runs

  -- what holds elements is a bound or an item
  pub elements-bound : T (holds_elements k) → T (is_bound k) ⊎ (k ≡ Kind.item)
  unfolding is_bound
  elements-bound h = cases (holds_elements k)
      (λ e. cases (eqb k Kind.item) (λ i. inr (eqb-true k Kind.item i)) (λ i. inl (rw (e, i) tt)))
      (λ e. absurd (rw e at h))

  pub bound-elements : T (is_bound k) → T (holds_elements k)
  unfolding is_bound
  bound-elements h = cases (holds_elements k) (λ e. rw e tt) (λ e. absurd (rw e at h))

  pub bound-between : Kind.planning ≤ k → T (is_bound k) → inner_of k ≡ lines_between
  unfolding is_bound holds_elements inner_of
  bound-between low h =
      decided-yes (sameInner (inner_of k) lines_between) (rw (le-leb Kind.planning k low) at
      (rule (λ n x. holds Kind.elements n x && not (eqb n Kind.item)) (λ n x. leb Kind.planning n ⇒ spans lines_between n x) refl refl h))

  pub holder-no-run : T (is_holder k) → is_run k ≡ false
  unfolding is_holder is_run
  holder-no-run h = cases (is_run k)
      (λ e. absurd (rw e at (rule holder (λ n x. not (is_run n)) refl refl h)))
      (λ e. e)

  -- ---- depth

  -- what counts for depth is a list, or holds elements between its first line and its last
  pub counts-elements : T (counts_depth k) → (k ≡ Kind.list → ⊥) → T (holds_elements k)
  unfolding counts_depth holds_elements
  counts-elements h n = rw (ne_eqb k Kind.list n) at (rule deep (λ n x. eqb n Kind.list || holds Kind.elements n x) refl refl h)

  pub counts-between : T (counts_depth k) → (k ≡ Kind.list → ⊥) → inner_of k ≡ lines_between
  unfolding counts_depth inner_of
  counts-between h n =
      decided-yes (sameInner (inner_of k) lines_between) (rw (ne_eqb k Kind.list n) at (rule deep (λ n x. eqb n Kind.list || spans lines_between n x) refl refl h))

  pub is_holder-no : Kind.planning ≤ k → counts_depth k ≡ false → eqb k Kind.table ≡ false → eqb k Kind.property_drawer ≡ false → eqb k Kind.item ≡ false
      → is_holder k ≡ false
  unfolding is_holder counts_depth
  is_holder-no low d t p i = cases (is_holder k)
      (λ e. absurd (rw (le-leb Kind.planning k low, d, t, p, i) at
      (rule holder (λ n x. leb Kind.planning n ⇒ (deep n x || eqb n Kind.table || eqb n Kind.property_drawer || eqb n Kind.item)) refl refl (rw e tt))))
      (λ e. e)

  pub counts_depth-is : counts_depth k ≡ (eqb k Kind.drawer || eqb k Kind.greater_block || eqb k Kind.list)
  unfolding counts_depth
  counts_depth-is = cases (eqb k Kind.drawer)
      (λ e. rw e (rw (eqb-true k Kind.drawer e)))
      (λ e. cases (eqb k Kind.greater_block)
      (λ i. rw (e, i) (rw (eqb-true k Kind.greater_block i)))
      (λ i. cases (eqb k Kind.list)
      (λ j. rw (e, i, j) (rw (eqb-true k Kind.list j)))
      (λ j. rw (e, i, j) (cases (counts_depth k)
      (λ d. absurd (rw (e, i, j) at (rule deep (λ n x. eqb n Kind.drawer || eqb n Kind.greater_block || eqb n Kind.list) refl refl (rw d tt))))
      (λ d. d)))))
