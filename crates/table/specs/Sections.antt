-- Where the section of a document or heading stands  [01 "Headings and sections first"], and the detail of a row.
use Rattle.std.specs.Prelude.{true, false, List, ℕ, length}
use Rattle.text.specs.Lines.{Line}
use Rattle.text.specs.Parts.{line_in, first_line, next_line, OpenParts}
use Rattle.rules.specs.Headings.{is_heading, OpenHeadings}
use Rattle.rules.specs.LineTests.{is_rule_row, OpenLineTests}
use Rattle.table.specs.declared.record.Record.{Record}

-- the line at byte p
abbrev pub line_at : List ℕ → ℕ → Line
line_at s p = line_in s p (length s)

-- To the next heading line or text end; from the first non-blank line.
unfoldable pub section_end : List ℕ → Record → ℕ
section_end s c = next_line is_heading s c.from

unfoldable pub section_start : List ℕ → Record → ℕ
section_start s c = first_line s c.from (section_end s c)

-- 0 standard, 1 rule (`|-`)
unfoldable pub row_detail : Line → ℕ
row_detail l = elim (is_rule_row l) [ true ↦ 1 | false ↦ 0 ]

-- opens the definitions of this file and of those it stands on, for computed examples
unfoldable pub OpenSections : Type 1
unfolding OpenParts OpenHeadings OpenLineTests section_end section_start row_detail
OpenSections = Type 0
