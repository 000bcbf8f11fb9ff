-- Where the record at a byte of a container lies: it ends after that byte and in the container, and what it holds itself leaves less to read,
-- so that the recursion through a container ends.
-- Assumes nothing.
use mathlib.Core.Path.{◌≡◌, refl}
use mathlib.Core.Bool.{true, false, ◌||◌}
use mathlib.Core.List.{List}
use Prim.Native.Nat.{ℕ, suc, ◌+◌, ◌-◌, ◌*◌, ◌≤◌, ◌<◌}
use native.Mathlib.Omega.{arith}
use lib.ListN.{length, take, drop}
use lib.Dec.{T, eqb}
use borrow.Table.Steps.{cases}
use borrow.Author.Tests.{eqb-false, ne_eqb}
use Rattle.text.specs.Lines.{Line, size, head_line, blanks}
use Rattle.text.specs.Parts.{lines_in, first_line}
use Rattle.text.proofs.Laws.Lines.{size-head_line, size-take-mono}
use Rattle.text.proofs.Laws.LinesIn.{within-lines_in, some-lines_in, first_line-from}
use Rattle.rules.specs.Kind
use Rattle.rules.specs.Kind.{inner_of, is_holder}
use Rattle.rules.specs.Elements.{Found, row_lines}
use Rattle.rules.specs.FirstRule.{element_at, item_at}
use Rattle.rules.specs.Lists.{item}
use Rattle.rules.specs.Places.{place_at}
use Rattle.rules.specs.Spans.{inner_from, inner_to}
use Rattle.rules.proofs.Laws.LineRules.{Fine}
use Rattle.rules.proofs.Laws.Elements.{fine-item, fine-element}
use Rattle.rules.proofs.Laws.Items.{item_start-some, item_start-le}
use Rattle.rules.proofs.Laws.Kind.{HolderInner, is_table, is_list, is_item, is_between, holder-inner}
use Rattle.table.specs.declared.record.Record.{Record}
use Rattle.table.specs.Sections.{row_detail}
use Rattle.table.specs.Makers.{found_record, element_record, item_record, line_record, child_record}

module _ (s : List ℕ) (c : Record) (q p : ℕ) where
  -- what holds of a node property, of a row, of an item and of an element
  pub child_record-each : (P : Record → Type 0)
      → P (line_record Kind.node_property (λ l. 0) s c.to q p)
      → P (line_record Kind.row row_detail s c.to q p)
      → P (item_record s c.to q p)
      → ((c.kind ≡ Kind.table → ⊥) → (c.kind ≡ Kind.list → ⊥) → P (element_record s c.to q p))
      → P (child_record s c q p)
  unfolding child_record
  child_record-each P property row item element =
      cases (eqb c.kind Kind.property_drawer)
      (λ e. rw (e, child_record) property)
      (λ e. cases (eqb c.kind Kind.table)
      (λ i. rw (e, i, child_record) row)
      (λ i. cases (eqb c.kind Kind.list)
      (λ j. rw (e, i, j, child_record) item)
      (λ j. rw (e, i, j, child_record) (element (eqb-false c.kind Kind.table i) (eqb-false c.kind Kind.list j)))))

  pub child_record-parent : (child_record s c q p).parent ≡ q
  unfolding line_record found_record element_record item_record
  child_record-parent = child_record-each (λ r. r.parent ≡ q) refl refl refl (λ h i. refl)

-- what is left to read of container c from byte p on, twice its bytes: one more but for a table and a list, which may start and end with their
-- container; a table's rows hold nothing, and an item is shorter than its list
weight : ℕ → ℕ
weight k = elim (eqb k Kind.table || eqb k Kind.list) [ true ↦ 0 | false ↦ 1 ]

pub left : Record → ℕ → ℕ
left c p = 2 * (c.to - p) + weight c.kind

weight-le : (k : ℕ) → weight k ≤ 1
unfolding weight
weight-le k = cases (eqb k Kind.table || eqb k Kind.list) (λ e. rw (e, weight) (omega arith)) (λ e. rw (e, weight) (omega arith))

weight-one : (k : ℕ) → (k ≡ Kind.table → ⊥) → (k ≡ Kind.list → ⊥) → weight k ≡ 1
unfolding weight
weight-one k h i = rw (ne_eqb k Kind.table h, ne_eqb k Kind.list i, weight)

pub left-from : (c : Record) (p : ℕ) → c.to - p ≤ left c p
unfolding left
left-from c p = omega arith

pub left-to : (c : Record) (p : ℕ) → left c p ≤ suc (2 * (c.to - p))
unfolding left
left-to c p = omega (arith, weight-le c.kind)

-- what r holds lies in r, and leaves less to read than c from byte p on
pub record Deeper (c : Record) (p : ℕ) (r : Record) : Type 0 where
  pub order : r.from ≤ r.to
  pub to : r.to ≤ r.end
  pub less : left r r.from < left c p

-- r lies in c, from byte p on
pub record Fits (c : Record) (p : ℕ) (r : Record) : Type 0 where
  pub some : p < r.end
  pub to : r.end ≤ c.to
  pub deeper : T (is_holder r.kind) → Deeper c p r

module _ (s : List ℕ) (c : Record) (q p : ℕ) (h : p < c.to) (t : c.to ≤ length s) where
  abbrev ls : List Line
  ls = lines_in s p c.to

  lines-to : (n : ℕ) → p + size (take n ls) ≤ c.to
  lines-to = within-lines_in s p c.to (omega arith) t

  lines-some : (n : ℕ) → 1 ≤ n → p < p + size (take n ls)
  lines-some n = some-lines_in s p c.to (omega arith) t n h

  line_record-fits : (k : ℕ) (d : Line → ℕ) → (T (is_holder k) → ⊥) → Fits c p (line_record k d s c.to q p)
  unfolding line_record
  line_record-fits k d i = record { some = lines-some 1 (omega arith); to = lines-to 1; deeper = λ j. absurd (i j) }

  -- what a rule finds
  module _ (f : Found) (fine : Fine ls f) where
    abbrev n : ℕ
    n = f.own

    -- its lines, with the blank lines after them
    abbrev m : ℕ
    m = n + blanks (drop n ls)

    opener : length (head_line ls) ≡ size (take 1 ls)
    opener = size-head_line ls

    item-deeper : f.kind ≡ Kind.item → Deeper c p (found_record s c.to q p f)
    unfolding found_record inner_of inner_from inner_to left weight
    item-deeper e =
        let some = lines-some 1 (omega arith) in
        rw e (omega (
          arith,
          opener,
          item_start-some (head_line ls) (omega (arith, opener)),
          item_start-le (head_line ls),
          lines-to m,
          size-take-mono 1 n ls fine.own,
          size-take-mono n m ls (omega arith),
        ))

    found-deeper : HolderInner f.kind → weight c.kind ≡ 1 → Deeper c p (found_record s c.to q p f)
    unfolding found_record inner_of inner_from inner_to left weight
    found-deeper (is_table e) w = rw e (let l = rw e at fine.least in omega (arith, size-take-mono (row_lines ls) m ls (omega arith), lines-to m))
    found-deeper (is_list e) w = rw e (omega (arith, size-take-mono n m ls (omega arith), lines-to m))
    found-deeper (is_item e) w = item-deeper e
    found-deeper (is_between e) w = rw e (let l = rw e at fine.least in
        omega (
          arith,
          opener,
          weight-le f.kind,
          lines-some 1 (omega arith),
          lines-to m,
          size-take-mono 1 (n - 1) ls (omega arith),
          size-take-mono (n - 1) m ls (omega arith),
        ))

    found-fits : (T (is_holder f.kind) → Deeper c p (found_record s c.to q p f)) → Fits c p (found_record s c.to q p f)
    unfolding found_record
    found-fits deeper = record { some = lines-some m (omega (arith, fine.own)); to = lines-to m; deeper = deeper }

  element_record-fits : (c.kind ≡ Kind.table → ⊥) → (c.kind ≡ Kind.list → ⊥) → Fits c p (element_record s c.to q p)
  unfolding element_record element_at
  element_record-fits i j =
      let f = element_at s p c.to in
      let fine = fine-element ls (place_at s p) in
      found-fits f fine (λ k. found-deeper f fine (holder-inner f.kind fine.low k) (weight-one c.kind i j))

  item_record-fits : Fits c p (item_record s c.to q p)
  unfolding item_record item_at item
  item_record-fits = found-fits (item_at s p c.to) (fine-item ls) (λ k. item-deeper (item_at s p c.to) (fine-item ls) refl)

  pub child_record-fits : Fits c p (child_record s c q p)
  unfolding is_holder
  child_record-fits =
      child_record-each s c q p (Fits c p)
      (line_record-fits Kind.node_property (λ l. 0) (λ j. j))
      (line_record-fits Kind.row row_detail (λ j. j))
      item_record-fits
      element_record-fits

module _ (s : List ℕ) (c : Record) (q p : ℕ) (h : p < c.to) (t : c.to ≤ length s) where
  -- what is left after it
  pub left-next : left c (child_record s c q p).end < left c p
  unfolding left
  left-next = omega (arith, child_record-fits s c q p h t)

  -- and inside it
  pub inner-text : let r = child_record s c q p in T (is_holder r.kind) → r.to ≤ length s
  inner-text i = let f = child_record-fits s c q p h t in omega (arith, f.deeper i)

  pub left-inner : let r = child_record s c q p in T (is_holder r.kind) → left r (first_line s r.from r.to) < left c p
  unfolding left
  left-inner i =
      let d = (child_record-fits s c q p h t).deeper i in
      omega (arith, first_line-from s _ _ d.order (inner-text i))
