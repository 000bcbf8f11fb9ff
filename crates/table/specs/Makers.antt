-- The record that stands at a byte of a container's inner span.
use Rattle.std.specs.Prelude.{true, false, List, ℕ, ◌+◌, length, take, drop, eqb}
use Rattle.text.specs.Lines.{Line, size, head_line, blanks}
use Rattle.text.specs.LineNumbers.{line_number, OpenLineNumbers}
use Rattle.text.specs.Parts.{lines_in, next_line}
use Rattle.rules.specs.Kind
use Rattle.rules.specs.Headings.{is_heading_up_to, stars}
use Rattle.rules.specs.Elements.{Found}
use Rattle.rules.specs.FirstRule.{element_at, item_at}
use Rattle.rules.specs.Kind.{inner_of}
use Rattle.rules.specs.Spans.{inner_from, inner_to, OpenSpans}
use Rattle.table.specs.declared.record.Record.{Record}
use Rattle.table.specs.Sections.{line_at, section_start, section_end, row_detail, OpenSections}

-- Below, q is the parent's index, p the byte at which the record starts, and e its container's inner end.

abbrev pub document_record : List ℕ → Record
document_record s = record { kind = Kind.document; start = 0; end = length s; from = 0; to = length s; parent = 0; detail = 0; line = 0 }

-- It ends before the next heading line with as many stars or fewer, or at the text's end.
unfoldable pub heading_record : List ℕ → ℕ → ℕ → Record
heading_record s q p =
    let l = line_at s p in
    let i = p + length l in
    let e = next_line (is_heading_up_to (stars l)) s i in
    record { kind = Kind.heading; start = p; end = e; from = i; to = e; parent = q; detail = stars l; line = line_number s p }

-- the section of the document or heading c
unfoldable pub section_record : List ℕ → Record → ℕ → Record
section_record s c q =
    let a = section_start s c in
    let e = section_end s c in
    record { kind = Kind.section; start = a; end = e; from = a; to = e; parent = q; detail = 0; line = line_number s a }

-- what a rule finds; blank lines after it, before the end, are its own
unfoldable pub found_record : List ℕ → ℕ → ℕ → ℕ → Found → Record
found_record s e q p f =
    let ls = lines_in s p e in
    let n = f.own in
    let b = p + size (take (n + blanks (drop n ls)) ls) in
    record {
      kind = f.kind;
      start = p;
      end = b;
      from = inner_from (inner_of f.kind) p ls;
      to = inner_to (inner_of f.kind) p b ls n;
      parent = q;
      detail = f.detail;
      line = line_number s p;
    }

unfoldable pub element_record : List ℕ → ℕ → ℕ → ℕ → Record
unfolding found_record
element_record s e q p = found_record s e q p (element_at s p e)

-- an item of a list  [02 order 4]
unfoldable pub item_record : List ℕ → ℕ → ℕ → ℕ → Record
unfolding found_record
item_record s e q p = found_record s e q p (item_at s p e)

-- A node property or row spans its line.
unfoldable pub line_record : ℕ → (Line → ℕ) → List ℕ → ℕ → ℕ → ℕ → Record
line_record k d s e q p =
    let ls = lines_in s p e in
    let b = p + size (take 1 ls) in
    record {
      kind = k;
      start = p;
      end = b;
      from = inner_from (inner_of k) p ls;
      to = inner_to (inner_of k) p b ls 1;
      parent = q;
      detail = d (head_line ls);
      line = line_number s p;
    }

-- what stands at byte p of a property drawer, a table, a list, or a section, drawer, greater block or item
unfoldable pub child_record : List ℕ → Record → ℕ → ℕ → Record
child_record s c q p =
    elim (eqb c.kind Kind.property_drawer) [
      | true ↦ line_record Kind.node_property (λ l. 0) s c.to q p
      | false ↦ elim (eqb c.kind Kind.table) [
        | true ↦ line_record Kind.row row_detail s c.to q p
        | false ↦ elim (eqb c.kind Kind.list) [ true ↦ item_record s c.to q p | false ↦ element_record s c.to q p ]
      ]
    ]

-- opens the definitions of this file and of those it stands on, for computed examples
unfoldable pub OpenMakers : Type 1
unfolding OpenLineNumbers OpenSpans OpenSections heading_record section_record found_record element_record item_record line_record child_record
OpenMakers = Type 0
