-- The reading of a good order's sheet is its table: one heading, whose section is one property drawer, whose lines are the pairs'. Each record by the
-- law of the reading's step that makes it.
use mathlib.Core.Path.{◌≡◌, refl, sym, ap, ◌∙◌}
use mathlib.Core.Bool.{false}
use mathlib.Core.List.{List, [], ◌∷◌, append-nil}
use Prim.Native.Nat.{ℕ, zero, suc, ◌+◌, ◌-◌, ◌*◌, ◌≤◌, ◌<◌}
use native.Mathlib.Omega.{arith}
use lib.ListN.{length, length-append, drop_of_length-le}
use lib.Seq.{take_all}
use Rattle.text.specs.Lines.{Line, size, body, body_end, first_run, value_start, blanks, head_line, leading}
use Rattle.text.specs.LineNumbers.{line_number}
use Rattle.text.specs.Parts.{lines_in, line_in, first_line, next_line}
use Rattle.text.proofs.Laws.LineNumbers.{line_number-zero, line_number-next}
use Rattle.text.proofs.Laws.LinesIn.{first_line-here, next_line-here, next_line-to, next_line-wider}
use Rattle.rules.specs.Kind
use Rattle.rules.specs.Kind.{inner_of, is_holder}
use Rattle.rules.specs.Headings.{is_heading, is_heading_up_to}
use Rattle.rules.specs.Places.{allows_planning}
use Rattle.rules.specs.Elements.{found}
use Rattle.rules.specs.FirstRule.{element_at}
use Rattle.rules.specs.Spans.{inner_from, inner_to}
use Rattle.rules.specs.declared.place.Place.TheVariants.{AfterHeading}
use Rattle.rules.proofs.Basics.{All, all_cons}
use Rattle.rules.proofs.Laws.Headings.{up_to-heading}
use Rattle.rules.proofs.Laws.PropertyDrawers.{planning-no, element-properties}
use Rattle.table.specs.declared.record.Record.{Record}
use Rattle.table.specs.Records.{rec}
use Rattle.table.specs.Sections.{section_end, section_start}
use Rattle.table.specs.Makers.{document_record, found_record, element_record, line_record, child_record}
use Rattle.table.specs.Reading.{contents, section, nearest, headings, reading}
use Rattle.table.proofs.Laws.Makers.{child_record-property}
use Rattle.table.proofs.Laws.Reading.{held, held-yes, held-no, contents-none, contents-step, section-yes, section-no, headings-none, headings-step, heading_at}
use Rattle.sheet.specs.Order.{Pair, Order}
use Rattle.sheet.specs.Sheet.{spaced, pair_line, pair_lines, open_line, close_line, sheet}
use Rattle.sheet.specs.Table.{pair_record, pair_records, sheet_table}
use Rattle.sheet.proofs.Laws.Judged.{GoodPair, GoodOrder}
use Rattle.sheet.proofs.Laws.Lines.{size-append, line_in-head, lines_in-tail}
use Rattle.sheet.proofs.Laws.PairLines.{title_line-stars, spaced-length, pair_line-blank, pair_line-some, pair_line-body_end, pair_line-value_start}
use Rattle.sheet.proofs.Laws.Sheets.{open_line-blank, open_line-planning, pair_lines-length, title_end, open_end}
use Rattle.sheet.proofs.Laws.Sheets.{close_start, drawer_lines, sheet-size, close_start-is}
use Rattle.sheet.proofs.Laws.Sheets.{sheet-title_line, sheet-drawer_lines, sheet-pair_lines, sheet-heading_line, sheet-next_heading}
use Rattle.sheet.proofs.Laws.Sheets.{sheet-place, sheet-drawer, sheet-some, sheet-open_number, sheet-first_number}

-- ---- the node properties

pair_lines-size : (ps : List Pair) → length ps ≤ size (pair_lines ps)
unfolding pair_lines size
pair_lines-size [] = omega arith
pair_lines-size (x ∷ ps) = omega (arith, pair_lines-size ps, pair_line-some x)

pair_lines-blanks : (ps : List Pair) → blanks (pair_lines ps) ≡ 0
unfolding pair_lines blanks leading
pair_lines-blanks [] = refl
pair_lines-blanks (x ∷ ps) = rw (pair_line-blank x, leading)

first_line-pairs : (s : List ℕ) (p e : ℕ) (ps : List Pair) → lines_in s p e ≡ pair_lines ps → first_line s p e ≡ p
unfolding first_line size
first_line-pairs s p e ps h = rw (h, pair_lines-blanks ps) (omega arith)

pair_record-leaf : (p n : ℕ) (x : Pair) → is_holder (pair_record p n x).kind ≡ false
unfolding pair_record is_holder
pair_record-leaf p n x = refl

-- the lines of a property drawer c of text s
module _ (s : List ℕ) (c : Record) (kind : c.kind ≡ Kind.property_drawer) (inside : c.to ≤ length s) where
  child_record-pair : (p : ℕ) (x : Pair) (ls : List Line) → GoodPair x → lines_in s p c.to ≡ pair_line x ∷ ls
      → child_record s c 3 p ≡ pair_record p (line_number s p) x
  unfolding line_record pair_record inner_of inner_from inner_to head_line size
  child_record-pair p x ls g h =
      let e = p + length x.key + 2 + length (spaced x.value) in
      let end : p + (length (pair_line x) + 0) ≡ p + length (pair_line x) = omega arith in
      let to : p + body_end (pair_line x) ≡ e = omega (arith, pair_line-body_end x g) in
      let from : p + value_start (length (first_run (body (pair_line x)))) (pair_line x) ≡ e - length x.value =
      omega (arith, pair_line-value_start x g, spaced-length x.value) in
      child_record-property s c 3 p kind ∙ rw (h, end, to, from)

  -- line n at byte p, where there is one
  contents-pairs : (m p n k : ℕ) (ps : List Pair) → All GoodPair ps → length ps ≤ m → lines_in s p c.to ≡ pair_lines ps
      → c.to ≡ p + size (pair_lines ps) → (p < c.to → line_number s p ≡ n) → contents m s c 3 p k ≡ pair_records p n ps
  unfolding pair_lines pair_records size
  contents-pairs m p n k [] g h i j l = contents-none m s c 3 p k (omega arith)
  contents-pairs zero p n k (x ∷ ps) g h i j l = absurd (omega arith)
  contents-pairs (suc m) p n k (x ∷ ps) (all_cons y g) h i j l =
      let some = pair_line-some x in
      let q = p + length (pair_line x) in
      let r : child_record s c 3 p ≡ pair_record p n x = rw (l (omega arith)) at (child_record-pair p x _ y i) in
      let none : held m s (child_record s c 3 p) k ≡ [] = rw r (held-no m s (pair_record p n x) k (pair_record-leaf p n x)) in
      let next : q ≡ p + length (line_in s p c.to) = ap (λ (z : Line). p + length z) (sym (line_in-head s p c.to _ _ i)) in
      let rest = contents-pairs m q (n + 1) (suc k + 0) ps g (omega arith) (lines_in-tail s p c.to _ _ i) (omega arith)
      (λ d. line_number-next s p c.to q (omega arith) inside next d ∙ rw (l (omega arith))) in
      contents-step m s c 3 p k (omega arith) ∙ rw (none, r, rest)

module _ (o : Order) (g : GoodOrder o) where
  abbrev s : List ℕ
  s = sheet o

  abbrev ps : List Pair
  ps = o.pairs

  abbrev n : ℕ
  n = length ps

  -- where the text, the title's line and the opener end, and where the closer starts
  abbrev e : ℕ
  e = length s

  abbrev a : ℕ
  a = title_end o

  abbrev b : ℕ
  b = open_end o

  abbrev t : ℕ
  t = close_start o

  -- ---- the drawer

  abbrev drawer_here : Record
  drawer_here = rec Kind.property_drawer a e b t 2 0 1

  element_at-drawer : element_at s a e ≡ found Kind.property_drawer (n + 2) 0
  unfolding element_at allows_planning head_line
  element_at-drawer = rw (sheet-place o g, sheet-drawer_lines o g)
      (element-properties AfterHeading (drawer_lines o) _ (planning-no AfterHeading (drawer_lines o) open_line-planning) (sheet-drawer o g))

  drawer_lines-length : length (drawer_lines o) ≡ n + 2
  drawer_lines-length = omega (arith, length-append (pair_lines ps) (close_line ∷ []), pair_lines-length ps)

  drawer_lines-size : a + size (drawer_lines o) ≡ e
  unfolding size
  drawer_lines-size = omega (arith, sheet-size o, size-append (pair_lines ps) (close_line ∷ []))

  element_record-drawer : element_record s e 2 a ≡ drawer_here
  unfolding element_record found_record inner_of inner_from inner_to head_line blanks leading
  element_record-drawer =
      let none = drop_of_length-le (drawer_lines o) {i = n + 2} (omega (arith, drawer_lines-length)) in
      let whole = take_all (n + 2 + 0) (drawer_lines o) (omega (arith, drawer_lines-length)) in
      rw (element_at-drawer, sheet-drawer_lines o g, none, whole, drawer_lines-size, close_start-is o, sheet-open_number o g)

  held-drawer : (m : ℕ) → n ≤ m → held m s drawer_here 3 ≡ pair_records b 2 ps
  unfolding is_holder
  held-drawer m h =
      let here = sheet-pair_lines o g in
      held-yes m s drawer_here 3 refl
      ∙ rw (first_line-pairs s b t ps here)
      (contents-pairs s drawer_here refl (omega arith) m b 2 4 ps g.pairs h here (omega (arith, sheet-size o)) (λ l. sheet-first_number o g))

  -- ---- the section

  abbrev section_here : Record
  section_here = rec Kind.section a e a e 1 0 1

  child_record-drawer : child_record s section_here 2 a ≡ drawer_here
  unfolding child_record
  child_record-drawer = element_record-drawer

  contents-section : (m : ℕ) → n ≤ m → contents (suc m) s section_here 2 a 3 ≡ drawer_here ∷ pair_records b 2 ps
  contents-section m h =
      let R = pair_records b 2 ps in
      contents-step m s section_here 2 a 3 (sheet-some o g)
      ∙ rw (child_record-drawer, held-drawer m h, contents-none m s section_here 2 e (4 + length R) (omega arith), append-nil R)

  -- ---- the heading

  abbrev heading_here : Record
  heading_here = rec Kind.heading 0 e a e 0 1 0

  title_line-end : 0 + length (line_in s 0 e) ≡ a
  title_line-end = omega (arith, ap length (sheet-title_line o g))

  next_line-up_to : next_line (is_heading_up_to 1) s a ≡ e
  next_line-up_to =
      let from = next_line-wider s (is_heading_up_to 1) is_heading a (up_to-heading 1) in
      let to = next_line-to s (is_heading_up_to 1) a (omega (arith, sheet-some o g)) in
      omega (arith, sheet-next_heading o g)

  heading_at-title : heading_at s [] 0 ≡ heading_here
  unfolding nearest
  heading_at-title = rw (title_line-end, sheet-title_line o g, title_line-stars o.title, next_line-up_to, line_number-zero s)

  section_end-title : section_end s heading_here ≡ e
  unfolding section_end
  section_end-title = sheet-next_heading o g

  first_line-open : first_line s a e ≡ a
  first_line-open = first_line-here s a e (rw (line_in-head s a e open_line _ (sheet-drawer_lines o g)) open_line-blank)

  section_start-title : section_start s heading_here ≡ a
  unfolding section_start
  section_start-title = rw section_end-title first_line-open

  section-title : section s heading_here 1 2 ≡ section_here ∷ drawer_here ∷ pair_records b 2 ps
  section-title =
      section-yes s heading_here 1 2 (rw (section_start-title, section_end-title) (sheet-some o g))
      ∙ rw (
        section_start-title,
        section_end-title,
        first_line-open,
        sheet-open_number o g,
        contents-section (2 * (e - a)) (omega (arith, sheet-size o, pair_lines-size ps)),
      )

  -- all records but the document's
  abbrev under : List Record
  under = heading_here ∷ section_here ∷ drawer_here ∷ pair_records b 2 ps

  headings-title : (m : ℕ) → headings (suc m) s [] 0 1 ≡ under
  headings-title m =
      headings-step m s [] 0 1 (omega (arith, sheet-some o g))
      ∙ rw (heading_at-title, section-title, title_line-end, sheet-next_heading o g, headings-none m s _ e _ (omega arith))
      (ap (λ (R : List Record). heading_here ∷ section_here ∷ drawer_here ∷ R) (append-nil (pair_records b 2 ps)))

  -- ---- the document, with nothing before its heading

  section_end-document : section_end s (document_record s) ≡ 0
  unfolding section_end
  section_end-document = next_line-here s is_heading 0 (sheet-heading_line o g).heading

  section-document : section s (document_record s) 0 1 ≡ []
  section-document = section-no s (document_record s) 0 1 (rw section_end-document (omega arith))

  pub reading-sheet : reading s ≡ sheet_table o
  unfolding reading sheet_table
  reading-sheet =
      let m : e ≡ suc (e - 1) = omega (arith, sheet-some o g) in
      let all : headings e s [] 0 1 ≡ under = ap (λ (f : ℕ). headings f s [] 0 1) m ∙ headings-title (e - 1) in
      rw (section-document, section_end-document, all)
