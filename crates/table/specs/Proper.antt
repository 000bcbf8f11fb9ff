-- When a finished table is a proper reading. A finished table is any list of records, however many and whatever their numbers.
-- It is judged by the text and its own numbers alone: nothing here makes a record.
use Rattle.std.specs.Prelude.{◌≡◌, ◌⊎◌, Bool, true, false, List, [], ◌∷◌, ℕ, suc, ◌+◌, ◌≤◌, ◌<◌, length, take, drop, T, eqb}
use Rattle.text.specs.Lines.{Line, lines, size, head_line, blanks}
use Rattle.text.specs.LineNumbers.{line_number}
use Rattle.text.specs.Parts.{lines_in, first_line, next_line}
use Rattle.rules.specs.Kind
use Rattle.rules.specs.Kind.{holds_sections, holds_elements, is_holder, inner_of}
use Rattle.rules.specs.Headings.{is_heading, is_heading_up_to, stars}
use Rattle.rules.specs.Elements.{Found}
use Rattle.rules.specs.FirstRule.{element_at, item_at}
use Rattle.rules.specs.Spans.{inner_from, inner_to}
use Rattle.table.specs.declared.record.Record.{Record}
use Rattle.table.specs.Records.{at, up}
use Rattle.table.specs.Sections.{line_at, section_start, section_end, row_detail}

-- ---- children

unfoldable pub keep_if : Bool → Record → List Record → List Record
keep_if true r R = r ∷ R
keep_if false r R = R

unfoldable pub with_parent : ℕ → List Record → List Record
with_parent i [] = []
with_parent i (r ∷ R) = keep_if (eqb r.parent i) r (with_parent i R)

-- the children of record i, in the table's order; record 0 is no child
unfoldable pub children : List Record → ℕ → List Record
children R i = with_parent i (drop 1 R)

-- records laid end to end from a to e
unfoldable pub Tiled : ℕ → ℕ → List Record → Type 0
Tiled a e [] = a ≡ e
Tiled a e (r ∷ R) = (r.start ≡ a) × Tiled r.end e R

-- ---- heading lines

unfoldable pub heading_lines_in : ℕ → List Line → List ℕ
heading_lines_in p [] = []
heading_lines_in p (l ∷ ls) = elim (is_heading l) [ true ↦ p ∷ heading_lines_in (p + length l) ls | false ↦ heading_lines_in (p + length l) ls ]

-- where the heading lines of a text start, and where the heading records of a table do
unfoldable pub heading_lines : List ℕ → List ℕ
heading_lines s = heading_lines_in 0 (lines s)

unfoldable pub heading_starts : List Record → List ℕ
heading_starts [] = []
heading_starts (r ∷ R) = elim (eqb r.kind Kind.heading) [ true ↦ r.start ∷ heading_starts R | false ↦ heading_starts R ]

-- ---- the clauses for one record

-- it is of kind k, ends at e, has the inner span from i to j and the detail d
pub record Has (r : Record) (k e i j d : ℕ) : Type 0 where
  pub kind : r.kind ≡ k
  pub end : r.end ≡ e
  pub from : r.from ≡ i
  pub to : r.to ≡ j
  pub detail : r.detail ≡ d

-- a heading: its stars, after its line, to the next heading line with as many stars or fewer, or the text's end
unfoldable pub IsHeadingRecord : List ℕ → Record → Type 0
IsHeadingRecord s r =
    let l = line_at s r.start in
    let e = next_line (is_heading_up_to (stars l)) s (r.start + length l) in
    Has r Kind.heading e (r.start + length l) e (stars l)

-- a section of c: to the next heading line or the text's end
unfoldable pub IsSectionRecord : List ℕ → Record → Record → Type 0
IsSectionRecord s c r = Has r Kind.section (section_end s c) r.start (section_end s c) 0

-- a child of a document or heading c: a heading where a heading line stands, else a section
unfoldable pub IsTopRecord : List ℕ → Record → Record → Type 0
IsTopRecord s c r = elim (is_heading (line_at s r.start)) [ true ↦ IsHeadingRecord s r | false ↦ IsSectionRecord s c r ]

-- what a rule finds at its first line, in a container that ends at e: its own lines and the blank lines after them
unfoldable pub HasFound : List ℕ → ℕ → Found → Record → Type 0
HasFound s e f r =
    let ls = lines_in s r.start e in
    Has r f.kind (r.start + size (take (f.own + blanks (drop f.own ls)) ls))
    (inner_from (inner_of r.kind) r.start ls)
    (inner_to (inner_of r.kind) r.start r.end ls f.own)
    f.detail

-- an element of a container that ends at e: the first rule that holds at its first line
unfoldable pub IsElementRecord : List ℕ → ℕ → Record → Type 0
IsElementRecord s e r = HasFound s e (element_at s r.start e) r

-- an item of a list that ends at e  [02 order 4]
unfoldable pub IsItemRecord : List ℕ → ℕ → Record → Type 0
IsItemRecord s e r = HasFound s e (item_at s r.start e) r

-- a node property or a row, in a container that ends at e, spans its line
unfoldable pub IsLineRecord : List ℕ → ℕ → ℕ → (Line → ℕ) → Record → Type 0
IsLineRecord s e k d r =
    let ls = lines_in s r.start e in
    Has r k (r.start + size (take 1 ls)) (inner_from (inner_of k) r.start ls) (inner_to (inner_of k) r.start r.end ls 1) (d (head_line ls))

-- child r lies in the inner span of c, and is not empty
pub record Within (c r : Record) : Type 0 where
  pub from : c.from ≤ r.start
  pub some : r.start < r.end
  pub to : r.end ≤ c.to

-- q is the nearest earlier heading with fewer stars than record k, else the document, whose detail is 0
pub record Nearest (R : List Record) (k q : ℕ) : Type 0 where
  pub heading : ((at R q).kind ≡ Kind.heading) ⊎ (q ≡ 0)
  pub fewer : (at R q).detail < (at R k).detail
  pub nearest : (j : ℕ) → q < j → j < k → (at R j).kind ≡ Kind.heading → (at R k).detail ≤ (at R j).detail

-- what holds of each record, and of each but record 0
abbrev pub Each : List Record → (ℕ → Type 0) → Type 0
Each R P = (k : ℕ) → k < length R → P k

abbrev pub EachLater : List Record → (ℕ → Type 0) → Type 0
EachLater R P = (k : ℕ) → 0 < k → k < length R → P k

pub record Proper (s : List ℕ) (R : List Record) : Type 0 where
  -- Record 0 is a document over the whole text and its own parent.
  pub first : 0 < length R
  pub document : Has (at R 0) Kind.document (length s) 0 (length s) 0
  pub document_start : (at R 0).start ≡ 0
  pub document_parent : (at R 0).parent ≡ 0
  -- A record's line number is how many bytes 10 stand before its start  [02 order 7].
  pub lines : Each R (λ k. (at R k).line ≡ line_number s (at R k).start)
  -- Every later record's parent is a record before it, and it is that one's child.
  pub earlier : EachLater R (λ k. (at R k).parent < k)
  -- A record is followed at once by all that it holds: what stands between a record and its child is inside the record.
  pub together : Each R (λ k. (j : ℕ) → (at R k).parent < j → j < k → (at R k).parent ≤ (at R j).parent)
  -- Every heading line starts one heading record, no heading record starts elsewhere, and parent and end are as said.
  pub headings_stand : heading_starts R ≡ heading_lines s
  pub heading_parent : Each R (λ k. (at R k).kind ≡ Kind.heading → Nearest R k (at R k).parent)
  -- Sections stand exactly where said.
  pub sections_only : EachLater R (λ k. (at R k).kind ≡ Kind.section
      → ((at R k).start ≡ section_start s (up R k)) × ((at R k).end ≡ section_end s (up R k)))
  pub sections_all : Each R (λ i. T (holds_sections (at R i).kind) → section_start s (at R i) < section_end s (at R i)
      → (suc i < length R) × ((at R (suc i)).kind ≡ Kind.section) × ((at R (suc i)).parent ≡ i))
  -- In kinds 1, 2, 3, 5, 7, 8, 10, 17 and 18 children lie in the parent's inner span. All other kinds are leaves and have no children.
  pub within : EachLater R (λ k. Within (up R k) (at R k))
  pub holders : EachLater R (λ k. T (is_holder (up R k).kind))
  -- Each starts where the one before ended; the last ends at the inner end. Before the first, or where there is none, only blank lines stand.
  pub tiled : Each R (λ i. T (is_holder (at R i).kind)
      → Tiled (first_line s (at R i).from (at R i).to) (at R i).to (children R i))
  -- Children of the document or a heading are headings and sections; of a section, drawer, greater block or item, elements; of a list, items  [02
  -- order 4]; of a property drawer, node properties, one for each line; of a table, rows, one for each row line. Kind, end, inner span and detail
  -- are as said.
  pub tops : EachLater R (λ k. T (holds_sections (up R k).kind) → IsTopRecord s (up R k) (at R k))
  pub elements : EachLater R (λ k. T (holds_elements (up R k).kind) → IsElementRecord s (up R k).to (at R k))
  pub items : EachLater R (λ k. (up R k).kind ≡ Kind.list → IsItemRecord s (up R k).to (at R k))
  pub properties : EachLater R (λ k. (up R k).kind ≡ Kind.property_drawer → IsLineRecord s (up R k).to Kind.node_property (λ l. 0) (at R k))
  pub rows : EachLater R (λ k. (up R k).kind ≡ Kind.table → IsLineRecord s (up R k).to Kind.row row_detail (at R k))
