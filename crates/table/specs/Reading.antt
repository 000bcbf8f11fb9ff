-- The reading of a text: its table, worked out from the text by the rules  [01 "A record", "Headings and sections first"].
-- A record is followed at once by all that it holds, children by start, before anything after it.
use Rattle.std.specs.Prelude.{true, false, List, [], ◌∷◌, ◌++◌, ℕ, zero, suc, ◌+◌, ◌-◌, ◌*◌, length, ltb}
use Rattle.text.specs.Parts.{first_line}
use Rattle.rules.specs.Headings.{stars}
use Rattle.rules.specs.Kind.{is_holder}
use Rattle.table.specs.declared.record.Record.{Record}
use Rattle.table.specs.Records.{OpenRecords}
use Rattle.table.specs.Sections.{line_at, section_end}
use Rattle.table.specs.Makers.{document_record, heading_record, section_record, child_record, OpenMakers}

-- What container c, of index q, holds from byte p on; the first record has index k. n only makes the recursion end: it is more than twice
-- the range's length, which falls at each call but the one for a table's rows, which hold nothing, and the one for a list's items, each of which
-- holds less than the list does.
unfoldable pub contents : ℕ → List ℕ → Record → ℕ → ℕ → ℕ → List Record
contents zero s c q p k = []
contents (suc n) s c q p k =
    elim (ltb p c.to) [
      | true ↦
          let r = child_record s c q p in
          let inner : List Record = elim (is_holder r.kind) [ true ↦ contents n s r k (first_line s r.from r.to) (suc k) | false ↦ [] ] in
          r ∷ (inner ++ contents n s c q r.end (suc k + length inner))
      | false ↦ []
    ]

-- The section of the document or heading c, of index q, with its elements; nothing where its lines are all blank. It has index k.
unfoldable pub section : List ℕ → Record → ℕ → ℕ → List Record
section s c q k =
    let r = section_record s c q in
    elim (ltb r.start r.end)
    [ true ↦ r ∷ contents (suc (2 * (r.end - r.start))) s r k (first_line s r.start r.end) (suc k) | false ↦ [] ]

-- the index of the nearest earlier heading with fewer than n stars, else 0; the earlier headings' indexes and stars, the nearest first
unfoldable pub nearest : ℕ → List (ℕ × ℕ) → ℕ
nearest n [] = 0
nearest n (h ∷ hs) = elim (ltb h.1 n) [ true ↦ h.0 | false ↦ nearest n hs ]

-- The headings from byte p on, in text order, each followed by its section. The first has index k; n is at least their number.
unfoldable pub headings : ℕ → List ℕ → List (ℕ × ℕ) → ℕ → ℕ → List Record
headings zero s hs p k = []
headings (suc n) s hs p k =
    elim (ltb p (length s)) [
      | true ↦
          let m = stars (line_at s p) in
          let h = heading_record s (nearest m hs) p in
          let g = section s h k (suc k) in
          h ∷ (g ++ headings n s ((k, m) ∷ hs) (section_end s h) (suc k + length g))
      | false ↦ []
    ]

-- the document, the zeroth section, the headings
unfoldable pub reading : List ℕ → List Record
reading s =
    let d = document_record s in
    let z = section s d 0 1 in
    d ∷ (z ++ headings (length s) s [] (section_end s d) (suc (length z)))

-- opens the definitions of this file and of those it stands on, for computed examples
unfoldable pub OpenReading : Type 1
unfolding OpenRecords OpenMakers contents section nearest headings reading
OpenReading = Type 0
