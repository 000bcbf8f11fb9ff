-- What a container holds, as the reading has it, is a run. The count that makes the reading's recursion end suffices: what is left of a container's
-- range falls at each call (Fits).
-- Assumes nothing.
use mathlib.Core.Path.{◌≡◌, refl}
use mathlib.Core.List.{List}
use Prim.Native.Nat.{ℕ, zero, suc, ◌+◌, ◌≤◌, ◌<◌}
use native.Mathlib.Omega.{arith}
use lib.Dec.{T}
use lib.ListN.{length, take, drop}
use borrow.Table.Steps.{cases}
use Rattle.text.specs.Lines.{Line, size, blanks}
use Rattle.text.specs.Parts.{lines_in, first_line}
use Rattle.text.proofs.Laws.LinesIn.{within-lines_in, some-lines_in, first_line-from, first_line-to}
use Rattle.rules.specs.Elements.{Found}
use Rattle.rules.specs.FirstRule.{element_at, item_at}
use Rattle.rules.specs.Lists.{item}
use Rattle.rules.specs.Kind
use Rattle.rules.specs.Kind.{holds_elements, is_holder}
use Rattle.rules.specs.Places.{place_at}
use Rattle.rules.proofs.Laws.Elements.{fine-element}
use Rattle.rules.proofs.Laws.Kind.{sections-low, elements-no-property, elements-no-table, elements-no-list, Holds, sections, elements, properties, rows, items, holder-holds}
use Rattle.table.specs.Makers.{found_record, element_record, item_record, line_record, child_record}
use Rattle.table.specs.Proper.{HasFound, IsElementRecord, IsItemRecord, IsLineRecord}
use Rattle.table.specs.Reading.{contents}
use Rattle.table.specs.Sections.{row_detail}
use Rattle.table.specs.Closers.{end_in}
use Rattle.table.proofs.Basics.{split}
use Rattle.table.proofs.Laws.Fits.{left, left-from, child_record-fits, left-next, inner-text, left-inner}
use Rattle.table.proofs.Laws.Makers.{child_record-property, child_record-row, child_record-item, child_record-element}
use Rattle.table.proofs.Laws.Reading.{held, held-yes, held-no, contents-none, contents-step}
use Rattle.table.proofs.Proper.Forest.{ChildAt, Forest, done, node}
use Rattle.table.proofs.Proper.Sync.{Sync, child-synced}
use Rattle.table.specs.declared.record.Record.{Record}

-- the reading may go through container c from byte p on
pub record Room (s : List ℕ) (c : Record) (p : ℕ) : Type 0 where
  pub holder : T (is_holder c.kind)
  pub kind : Kind.section ≤ c.kind
  pub from : c.from ≤ p
  pub to : p ≤ c.to
  pub text : c.to ≤ length s

module _ (s : List ℕ) (c : Record) (q p : ℕ) (room : Room s c p) (lt : p < c.to) where
  abbrev ls : List Line
  ls = lines_in s p c.to

  lines-within : (n : ℕ) → 0 < n → (p < p + size (take n ls)) × (p + size (take n ls) ≤ c.to)
  lines-within n h = (some-lines_in s p c.to room.to room.text n lt h, within-lines_in s p c.to room.to room.text n)

  -- what c asks of r, by what c is
  record Asked (r : Record) : Type 0 where
    element : T (holds_elements c.kind) → IsElementRecord s c.to r
    item : c.kind ≡ Kind.list → IsItemRecord s c.to r
    property : c.kind ≡ Kind.property_drawer → IsLineRecord s c.to Kind.node_property (λ l. 0) r
    row : c.kind ≡ Kind.table → IsLineRecord s c.to Kind.row row_detail r

  child-at : (r : Record) → r.parent ≡ q → r.start ≡ p → (p < r.end) × (r.end ≤ c.to) → Kind.planning ≤ r.kind → Asked r → ChildAt s c q p r
  child-at r parent start w low asked =
      record {
        parent = parent;
        start = start;
        low = low;
        child =
            record {
              holder = room.holder;
              within = record { from = omega (arith, room.from); some = omega arith; to = w.1 };
              section = λ e. absurd (omega arith);
              top = λ h. absurd (omega (arith, room.kind, sections-low c.kind h));
              element = asked.element;
              item = asked.item;
              property = asked.property;
              row = asked.row;
            };
      }

  -- ---- a node property or a row

  module _ (k : ℕ) (d : Line → ℕ) where
    abbrev line : Record
    line = line_record k d s c.to q p

    line-is : IsLineRecord s c.to k d line
    unfolding line_record IsLineRecord
    line-is = record { kind = refl; end = refl; from = refl; to = refl; detail = refl }

    line_at : Kind.planning ≤ k → Asked line → ChildAt s c q p line
    unfolding line_record
    line_at = child-at line refl refl (lines-within 1 (omega arith))

  property-at : c.kind ≡ Kind.property_drawer → ChildAt s c q p (line Kind.node_property (λ l. 0))
  property-at e =
      line_at Kind.node_property (λ l. 0) (omega arith)
      (record {
        element = λ h. absurd (elements-no-property c.kind h e);
        item = λ h. absurd (omega arith);
        property = λ h. line-is Kind.node_property (λ l. 0);
        row = λ h. absurd (omega arith);
      })

  row_at : c.kind ≡ Kind.table → ChildAt s c q p (line Kind.row row_detail)
  row_at e =
      line_at Kind.row row_detail (omega arith)
      (record {
        element = λ h. absurd (elements-no-table c.kind h e);
        item = λ h. absurd (omega arith);
        property = λ h. absurd (omega arith);
        row = λ h. line-is Kind.row row_detail;
      })

  -- ---- an element or an item

  module _ (f : Found) where
    -- its lines, with the blank lines after them
    abbrev all : ℕ
    all = f.own + blanks (drop f.own ls)

    abbrev finding : Record
    finding = found_record s c.to q p f

    finding-is : HasFound s c.to f finding
    unfolding found_record HasFound
    finding-is = record { kind = refl; end = refl; from = refl; to = refl; detail = refl }

    finding-at : 1 ≤ f.own → Kind.planning ≤ f.kind → Asked finding → ChildAt s c q p finding
    unfolding found_record
    finding-at own = child-at finding refl refl (lines-within all (omega arith))

  element-at : T (holds_elements c.kind) → ChildAt s c q p (element_record s c.to q p)
  unfolding element_record element_at IsElementRecord found_record
  element-at h =
      let fine = fine-element ls (place_at s p) in
      let f = element_at s p c.to in
      finding-at f fine.own fine.low
      (record {
        element = λ i. finding-is f;
        item = λ e. absurd (elements-no-list c.kind h e);
        property = λ e. absurd (elements-no-property c.kind h e);
        row = λ e. absurd (elements-no-table c.kind h e);
      })

  item-at : c.kind ≡ Kind.list → ChildAt s c q p (item_record s c.to q p)
  unfolding item_record item_at item IsItemRecord found_record
  item-at e =
      let f = item_at s p c.to in
      finding-at f (omega arith) (omega arith)
      (record {
        element = λ h. absurd (elements-no-list c.kind h e);
        item = λ i. finding-is f;
        property = λ i. absurd (omega arith);
        row = λ i. absurd (omega arith);
      })

  -- ---- what stands at p

  abbrev child : Record
  child = child_record s c q p

  child-stands : ChildAt s c q p child
  child-stands = go (holder-holds c.kind room.holder)
    where
      go : Holds c.kind → ChildAt s c q p child
      go (sections h) = absurd (omega (arith, room.kind, sections-low c.kind h))
      go (elements h) = rw (child_record-element s c q p h) (element-at h)
      go (properties e) = rw (child_record-property s c q p e) (property-at e)
      go (rows e) = rw (child_record-row s c q p e) (row_at e)
      go (items e) = rw (child_record-item s c q p e) (item-at e)

  -- after it
  room_next : Room s c child.end
  room_next =
      let g = child-stands in
      record { holder = room.holder; kind = room.kind; from = omega (arith, room.from); to = g.child.within.to; text = room.text }

  -- inside it
  room-inner : T (is_holder child.kind) → Room s child (first_line s child.from child.to)
  room-inner h =
      let order = ((child_record-fits s c q p lt room.text).deeper h).order in
      let text = inner-text s c q p lt room.text h in
      record {
        holder = h;
        kind = omega (arith, child-stands.low);
        from = first_line-from s child.from child.to order text;
        to = first_line-to s child.from child.to order text;
        text = text;
      }

-- ---- the contents of a container are a run

contents-end : (n : ℕ) (s : List ℕ) (h : ℕ) (c : Record) (q p k : ℕ) → p ≤ c.to → c.to ≤ p → Forest s h c q p k (contents n s c q p k)
contents-end n s h c q p k a b = let e : p ≡ c.to = omega arith in rw (contents-none n s c q p k b) (done (λ i. e))

held-forest : (n : ℕ) (s : List ℕ) (h : ℕ) (r : Record) (k : ℕ) → let first = first_line s r.from r.to in
    (T (is_holder r.kind) → Forest s h r k first (suc k) (contents n s r k first (suc k))) → Forest s h r k first (suc k) (held n s r k)
held-forest n s h r k f =
    cases (is_holder r.kind)
    (λ e. rw (held-yes n s r k e) (f (rw e tt)))
    (λ e. rw (held-no n s r k e) (done {c = r} (λ i. absurd (rw e at i))))

pub contents-forest : (n : ℕ) (s : List ℕ) (h : ℕ) (c : Record) (q p k : ℕ) → Room s c p → Sync s h c p → left c p ≤ n
    → Forest s h c q p k (contents n s c q p k)
contents-forest zero s h c q p k room sync l = contents-end zero s h c q p k room.to (omega (arith, left-from c p))
contents-forest (suc n) s h c q p k room sync l =
    let r = child_record s c q p in
    let first = first_line s r.from r.to in
    split p c.to
    (λ lt.
    let synced = child-synced s h c q p sync lt room.kind room.holder in
    rw (contents-step n s c q p k lt)
    (node r (child-stands s c q p room lt) synced.sought
    (held-forest n s (end_in h r) r k
    (λ i. contents-forest n s (end_in h r) r k first (suc k) (room-inner s c q p room lt i) (synced.inner i)
    (omega (arith, left-inner s c q p lt room.text i))))
    (contents-forest n s h c q r.end _ (room_next s c q p room lt) synced.next (omega (arith, left-next s c q p lt room.text)))))
    (contents-end (suc n) s h c q p k room.to)
