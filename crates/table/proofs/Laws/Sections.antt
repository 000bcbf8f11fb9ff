-- Laws of where the section of a document or heading c stands.
-- Assumes nothing.
use mathlib.Core.Path.{◌≡◌}
use mathlib.Core.Bool.{false}
use mathlib.Core.List.{List}
use Prim.Native.Nat.{ℕ, ◌≤◌, ◌<◌}
use lib.ListN.{length}
use Rattle.text.specs.Parts.{first_line}
use Rattle.text.proofs.Laws.LinesIn.{first_line-from, first_line-to, next_line-from, next_line-to, first_line-next, first_line-not}
use Rattle.rules.specs.Headings.{is_heading}
use Rattle.rules.proofs.Laws.Headings.{heading-nonblank}
use Rattle.table.specs.Sections.{line_at, section_end, section_start}
use Rattle.table.specs.declared.record.Record.{Record}

module _ (s : List ℕ) (c : Record) where
  pub section_end-from : c.from ≤ section_end s c
  unfolding section_end
  section_end-from = next_line-from s is_heading c.from

  module _ (h : c.from ≤ length s) where
    pub section_end-to : section_end s c ≤ length s
    unfolding section_end
    section_end-to = next_line-to s is_heading c.from h

    pub section_start-from : c.from ≤ section_start s c
    unfolding section_start
    section_start-from = first_line-from s c.from (section_end s c) section_end-from section_end-to

    pub section_start-to : section_start s c ≤ section_end s c
    unfolding section_start
    section_start-to = first_line-to s c.from (section_end s c) section_end-from section_end-to

    pub section_start-first : section_start s c ≡ first_line s c.from (length s)
    unfolding section_start section_end
    section_start-first = first_line-next s is_heading c.from h heading-nonblank

    -- no heading line stands where a section starts
    pub section_start-plain : section_start s c < section_end s c → is_heading (line_at s (section_start s c)) ≡ false
    unfolding section_end
    section_start-plain i = rw section_start-first (first_line-not s is_heading c.from h heading-nonblank (rw section_start-first at i))
