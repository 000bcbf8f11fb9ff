-- What is known of a container at each byte where a child of it starts, so that no child is cut: what is left of an item or a list is what the scan
-- for its lines finds there. One child leads to the next, and into the child.
-- Assumes nothing.
use mathlib.Core.Path.{◌≡◌, refl, sym, ap, ◌∙◌}
use mathlib.Core.Bool.{false}
use mathlib.Core.List.{List}
use Prim.Native.Nat.{ℕ, ◌+◌, ◌-◌, ◌≤◌, ◌<◌}
use native.Mathlib.Omega.{arith}
use lib.Dec.{T}
use lib.ListN.{length, take}
use borrow.Table.Steps.{cases}
use Rattle.text.specs.Lines.{Line, size, blank_line}
use Rattle.text.specs.Parts.{lines_in, line_in, first_line, LineStart}
use Rattle.text.proofs.Laws.Lines.{size-head_line, size-take-mono}
use Rattle.text.proofs.Laws.LinesIn.{within-lines_in, first_line-nonblank, first_line-to}
use Rattle.text.proofs.Laws.LineStarts.{line_start-in, line_start-first}
use Rattle.rules.specs.Kind
use Rattle.rules.specs.Kind.{lines_between, inner_of, holds_elements, is_holder, is_bound, is_run}
use Rattle.rules.specs.Items.{width, item_start}
use Rattle.rules.specs.Places.{place_at}
use Rattle.rules.specs.Elements.{Found}
use Rattle.rules.specs.Lists.{list_lines, list_of, item as item_of}
use Rattle.rules.specs.FirstRule.{element_at, item_at}
use Rattle.rules.specs.Spans.{inner_from, inner_to}
use Rattle.rules.proofs.Laws.LineRules.{Fine}
use Rattle.rules.proofs.Laws.Elements.{fine-element, list-element, element-no-item}
use Rattle.rules.proofs.Laws.Kind.{sections-low, elements-no-property, elements-no-table, elements-no-list, Holds, sections, elements, properties}
use Rattle.rules.proofs.Laws.Kind.{rows, items, holder-holds, elements-bound, bound-elements, bound-between, holder-no-run}
use Rattle.rules.proofs.Laws.Scans.{list-gapped}
use Rattle.rules.proofs.Laws.Rests.{end-first, rest-to, First}
use Rattle.rules.proofs.Laws.InItems.{InItem, WholeAt, Stepping, item-step, item-first}
use Rattle.rules.proofs.Laws.InLists.{ListStepping, list-step, list-first}
use Rattle.table.specs.declared.record.Record.{Record}
use Rattle.table.specs.Makers.{found_record, element_record, item_record, line_record, child_record}
use Rattle.table.specs.Closers.{end_in, SameElement, Sought}
use Rattle.table.specs.Sections.{row_detail}
use Rattle.table.proofs.Basics.{on}
use Rattle.table.proofs.Laws.Makers.{child_record-property, child_record-row, child_record-item, child_record-element}
use Rattle.table.proofs.Laws.Closers.{end_in-bound, end_in-same}

-- ---- what a finding's record says

module _ (s : List ℕ) (e q p : ℕ) (f : Found) where
  abbrev r : Record
  r = found_record s e q p f

  found-end : r.end ≡ first_line s (p + size (take f.own (lines_in s p e))) e
  unfolding found_record
  found-end = end-first s p e f.own

  between-from : inner_of f.kind ≡ lines_between → r.from ≡ p + size (take 1 (lines_in s p e))
  unfolding found_record inner_from
  between-from i = rw i (ap (λ (n : ℕ). p + n) (size-head_line (lines_in s p e)))

  between-to : inner_of f.kind ≡ lines_between → r.to ≡ p + size (take (f.own - 1) (lines_in s p e))
  unfolding found_record inner_to
  between-to i = rw i

  list-span : f.kind ≡ Kind.list → (r.from ≡ p) × (r.to ≡ p + size (take f.own (lines_in s p e)))
  unfolding found_record inner_of inner_from inner_to
  list-span i = rw i (refl, refl)

  item-span : f.kind ≡ Kind.item → (r.from ≡ p + item_start (line_in s p e)) × (r.to ≡ p + size (take f.own (lines_in s p e)))
  unfolding found_record inner_of inner_from inner_to line_in
  item-span i = rw i (refl, refl)

-- ---- what is known of a container

-- a section, drawer or greater block
pub record InBound (s : List ℕ) (h e p : ℕ) : Type 0 where
  pub end : e ≡ h
  pub start : LineStart s p
  pub order : p ≤ h
  pub nonblank : p < h → blank_line (line_in s p h) ≡ false

-- container c at byte p, where closers are sought up to h; an item's indentation is w
pub record Sync (s : List ℕ) (h : ℕ) (c : Record) (p : ℕ) : Type 0 where
  pub start : LineStart s h
  pub text : h ≤ length s
  pub bound : T (is_bound c.kind) → InBound s h c.to p
  pub item : c.kind ≡ Kind.item → (w : ℕ) × InItem w s h c.to p
  pub list : c.kind ≡ Kind.list → First (list_lines (width (line_in s c.start h)) 0) s h c.to p

-- the child r, what is known after it, and in it
pub record Synced (s : List ℕ) (h : ℕ) (c r : Record) : Type 0 where
  pub sought : Sought s h c r
  pub next : Sync s h c r.end
  pub inner : T (is_holder r.kind) → Sync s (end_in h r) r (first_line s r.from r.to)

-- between two line starts, from the first line that is not blank on
pub bound-first : (s : List ℕ) (a h : ℕ) → LineStart s a → LineStart s h → a ≤ h → h ≤ length s → InBound s h h (first_line s a h)
bound-first s a h at_a at-h i k =
    record {
      end = refl;
      start = line_start-first s a h at_a at-h i;
      order = first_line-to s a h i k;
      nonblank = first_line-nonblank s a h i k;
    }

-- a kind that is no bound
bound-no : (k j : ℕ) → is_bound j ≡ false → T (is_bound k) → k ≡ j → ⊥
bound-no k j n h e = let m : is_bound k ≡ false = ap is_bound e ∙ n in rw m at h

-- ---- a child at byte p of container c, where closers are sought up to h

module _ (s : List ℕ) (h : ℕ) (c : Record) (q p : ℕ) (sync : Sync s h c p) (lt : p < c.to) where
  abbrev e : ℕ
  e = c.to

  -- ---- an element, given the container's end and given the further one

  abbrev f : Found
  f = element_at s p e

  abbrev g : Found
  g = element_at s p h

  abbrev element : Record
  element = found_record s e q p f

  fine : Fine (lines_in s p e) f
  unfolding element_at
  fine = fine-element (lines_in s p e) (place_at s p)

  bound-found : T (is_bound c.kind) → f ≡ g
  bound-found i = ap (element_at s p) (sync.bound i).end

  bound-whole : T (is_bound c.kind) → WholeAt s h e p
  bound-whole i =
      let b = sync.bound i in
      let to : e ≡ h = b.end in
      record {
        found = bound-found i;
        within = rw to (within-lines_in s p h b.order sync.text g.own);
        same = rw to;
        start = b.start;
        end = rw to sync.start;
        to = omega arith;
        nonblank = b.nonblank (omega arith);
      }

  stepping : (i : c.kind ≡ Kind.item) → Stepping (sync.item i).0 s h e p
  stepping i = item-step (sync.item i).0 s h e p sync.start (sync.item i).1 lt

  element-whole : T (holds_elements c.kind) → is_run f.kind ≡ false → WholeAt s h e p
  element-whole i n = on (elements-bound c.kind i) bound-whole (λ k. (stepping k).whole (rw (stepping k).kind at n))

  bound-same : T (is_bound c.kind) → SameElement s h e p
  bound-same i =
      let same = bound-found i in
      record {
        kind = ap (λ (x : Found). x.kind) same;
        detail = ap (λ (x : Found). x.detail) same;
        lines = ap (λ (x : Found). take x.own (lines_in s p e)) same;
        whole = λ n. (bound-whole i).within;
      }

  item-same : c.kind ≡ Kind.item → SameElement s h e p
  item-same k =
      let st = stepping k in
      record { kind = st.kind; detail = st.detail; lines = st.lines; whole = λ n. (st.whole (rw st.kind at n)).within }

  element-same : T (holds_elements c.kind) → SameElement s h e p
  element-same i = on (elements-bound c.kind i) bound-same item-same

  bound-next : T (is_bound c.kind) → InBound s h e element.end
  bound-next i =
      let b = sync.bound i in
      let a = p + size (take (element_at s p h).own (lines_in s p h)) in
      let in_lines = within-lines_in s p h b.order sync.text (element_at s p h).own in
      let first = bound-first s a h (line_start-in s p h b.start sync.start b.order (element_at s p h).own) sync.start in_lines sync.text in
      rw (found-end s e q p f, b.end) first

  item-next : (k : c.kind ≡ Kind.item) → InItem (sync.item k).0 s h e element.end
  item-next k =
      let end : element.end ≡ first_line s (p + size (take g.own (lines_in s p e))) e =
      found-end s e q p f ∙ ap (λ (x : List Line). first_line s (p + size x) e) (stepping k).lines in
      rw end (stepping k).next

  element-next : T (holds_elements c.kind) → Sync s h c element.end
  element-next i =
      record {
        start = sync.start;
        text = sync.text;
        bound = bound-next;
        item = λ k. ((sync.item k).0, item-next k);
        list = λ k. absurd (elements-no-list c.kind i k);
      }

  module _ (i : T (holds_elements c.kind)) (holds : T (is_holder f.kind)) where
    whole : WholeAt s h e p
    whole = element-whole i (holder-no-run f.kind holds)

    -- a drawer or greater block
    block-inner : T (is_bound f.kind) → Sync s element.to element (first_line s element.from element.to)
    unfolding found_record is_bound holds_elements
    block-inner j =
        let between = bound-between f.kind fine.low j in
        let least = rw between at fine.least in
        let n = f.own in
        let ls = lines_in s p e in
        let from = between-from s e q p f between in
        let to = between-to s e q p f between in
        let text : e ≤ length s = omega (arith, whole.to, sync.text) in
        let at_from = line_start-in s p e whole.start whole.end (omega arith) 1 in
        let at-to = line_start-in s p e whole.start whole.end (omega arith) (n - 1) in
        let order = size-take-mono 1 (n - 1) ls (omega arith) in
        let within = within-lines_in s p e (omega arith) text (n - 1) in
        record {
          start = rw to at-to;
          text = omega (arith, to, within);
          bound = λ k. bound-first s element.from element.to (rw from at_from) (rw to at-to) (omega (arith, from, to, order)) (omega (arith, to, within));
          item = λ k. absurd (bound-no f.kind Kind.item refl j k);
          list = λ k. absurd (bound-no f.kind Kind.list refl j k);
        }

    list-inner : f.kind ≡ Kind.list → First (list_lines (width (line_in s p h)) 0) s h element.to (first_line s element.from element.to)
    unfolding element_at line_in
    list-inner k =
        let (from, to) = list-span s e q p f k in
        let found = whole.found in
        let (is, same) = list-element (lines_in s p h) (place_at s p) (sym (ap (λ (x : Found). x.kind) found) ∙ k) in
        let end : element.to ≡ p + size (take (list_of (lines_in s p h)).own (lines_in s p h)) =
        to ∙ ap (λ (x : Found). p + size (take x.own (lines_in s p e))) found
        ∙ ap (λ (x : List Line). p + size x) whole.same ∙ ap (λ (x : Found). p + size (take x.own (lines_in s p h))) same in
        rw from (list-first s h element.to p sync.start whole.start (omega (arith, whole.to)) sync.text whole.nonblank is end)

    element-inner : Sync s (end_in h element) element (first_line s element.from element.to)
    unfolding found_record element_at
    element-inner = cases (is_bound f.kind)
        (λ j. rw (end_in-bound h element j) (block-inner (rw j tt)))
        (λ j. rw (end_in-same h element j)
        (record {
          start = sync.start;
          text = sync.text;
          bound = λ k. absurd (rw j at k);
          item = λ k. absurd (element-no-item (lines_in s p e) (place_at s p) k);
          list = list-inner;
        }))

  element-synced : T (holds_elements c.kind) → Synced s h c (element_record s e q p)
  unfolding element_record found_record
  element-synced i =
      record {
        sought = record { element = element-same; item = λ k. absurd (elements-no-list c.kind i k) };
        next = element-next i;
        inner = element-inner i;
      }

  -- ---- an item

  module _ (k : c.kind ≡ Kind.list) where
    abbrev item : Record
    item = found_record s e q p (item_at s p e)

    steps : ListStepping (width (line_in s c.start h)) s h e p
    steps = list-step (width (line_in s c.start h)) s h e p sync.start (sync.list k) lt

    own-lines : take (item_at s p e).own (lines_in s p e) ≡ take (item_at s p h).own (lines_in s p h)
    own-lines = ap (λ (x : Found). take x.own (lines_in s p e)) steps.found ∙ steps.lines

    item-inner : Sync s (end_in h item) item (first_line s item.from item.to)
    unfolding found_record item_at item_of is_bound holds_elements
    item-inner =
        let first = sync.list k in
        let (from, to) = item-span s e q p (item_at s p e) refl in
        let start : item.from ≡ p + item_start (line_in s p h) = from ∙ ap (λ (l : Line). p + item_start l) steps.head in
        let end : item.to ≡ p + size (take (item_at s p h).own (lines_in s p h)) = to ∙ ap (λ (x : List Line). p + size x) own-lines in
        let in-h : e ≤ h = rest-to (list-gapped (width (line_in s c.start h))) first.rest in
        rw (end_in-same h item refl)
        (record {
          start = sync.start;
          text = sync.text;
          bound = λ j. absurd j;
          item = λ j. (width (line_in s p h), rw start (item-first s h item.to p sync.start first.start (omega arith) sync.text end));
          list = λ j. absurd (omega arith);
        })

    items-next : First (list_lines (width (line_in s c.start h)) 0) s h e item.end
    items-next =
        let end : item.end ≡ first_line s (p + size (take (item_at s p h).own (lines_in s p e))) e =
        found-end s e q p (item_at s p e) ∙ ap (λ (x : Found). first_line s (p + size (take x.own (lines_in s p e))) e) steps.found in
        rw end steps.next

    item-synced : Synced s h c (item_record s e q p)
    unfolding item_record found_record
    item-synced =
        record {
          sought = record {
            element = λ j. absurd (elements-no-list c.kind j k);
            item = λ j. record { item = steps.item; indentation = steps.same; found = steps.found; whole = steps.whole };
          };
          next = record {
            start = sync.start;
            text = sync.text;
            bound = λ j. absurd (elements-no-list c.kind (bound-elements c.kind j) k);
            item = λ j. absurd (omega arith);
            list = λ j. items-next;
          };
          inner = λ j. item-inner;
        }

  -- ---- a node property or a row

  line-synced : (n : ℕ) (d : Line → ℕ) → (T (is_holder n) → ⊥) → (T (holds_elements c.kind) → ⊥) → (c.kind ≡ Kind.list → ⊥)
      → (c.kind ≡ Kind.item → ⊥) → Synced s h c (line_record n d s e q p)
  unfolding line_record
  line-synced n d leaf no-elements no-list no_item =
      record {
        sought = record { element = λ j. absurd (no-elements j); item = λ j. absurd (no-list j) };
        next = record {
          start = sync.start;
          text = sync.text;
          bound = λ j. absurd (no-elements (bound-elements c.kind j));
          item = λ j. absurd (no_item j);
          list = λ j. absurd (no-list j);
        };
        inner = λ j. absurd (leaf j);
      }

  -- ---- what stands at p

  pub child-synced : Kind.section ≤ c.kind → T (is_holder c.kind) → Synced s h c (child_record s c q p)
  unfolding is_holder
  child-synced low holds = go (holder-holds c.kind holds)
    where
      go : Holds c.kind → Synced s h c (child_record s c q p)
      go (sections i) = absurd (omega (arith, sections-low c.kind i))
      go (elements i) = rw (child_record-element s c q p i) (element-synced i)
      go (items k) = rw (child_record-item s c q p k) (item-synced k)
      go (properties k) = rw (child_record-property s c q p k)
          (line-synced Kind.node_property (λ l. 0) (λ i. i) (λ i. elements-no-property c.kind i k) (λ i. omega arith) (λ i. omega arith))
      go (rows k) = rw (child_record-row s c q p k)
          (line-synced Kind.row row_detail (λ i. i) (λ i. elements-no-table c.kind i k) (λ i. omega arith) (λ i. omega arith))
