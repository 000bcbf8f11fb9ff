-- A good order's sheet: its lines, where they stand, and that the drawer is what rule 2 finds after the heading line. No line holds a byte 10 before
-- its end, so that the text's lines are those that were joined.
use mathlib.Core.Path.{◌≡◌, refl, ap, ◌∙◌}
use mathlib.Core.Bool.{true, false}
use mathlib.Core.List.{List, [], ◌∷◌, ◌++◌}
use mathlib.Core.Option.{some}
use Prim.Native.Nat.{ℕ, suc, ◌+◌, ◌-◌, ◌<◌}
use native.Mathlib.Nat.{zero-add}
use native.Mathlib.Omega.{arith}
use lib.ListN.{length, take}
use lib.Seq.{take_at}
use Rattle.text.specs.Runs.{word}
use Rattle.text.specs.Lines.{Line, size, blank_line, head_line, tail_lines, OpenLines}
use Rattle.text.specs.LineNumbers.{line_number}
use Rattle.text.specs.Parts.{lines_in, line_in, next_line}
use Rattle.text.proofs.Laws.LineNumbers.{line_number-zero, line_number-next}
use Rattle.text.proofs.Laws.LinesIn.{lines_in-take}
use Rattle.text.proofs.Laws.LineStarts.{line_start-zero, lines_in-whole}
use Rattle.rules.specs.Headings.{is_heading, OpenHeadings}
use Rattle.rules.specs.Kind
use Rattle.rules.specs.LineTests.{is_planning, is_properties_line, is_end_line, OpenLineTests}
use Rattle.rules.specs.Elements.{found, properties_before, property_drawer}
use Rattle.rules.specs.Places.{place_at}
use Rattle.rules.specs.declared.place.Place.TheVariants.{AfterHeading}
use Rattle.rules.proofs.Basics.{All, all_nil, all_cons, all_append}
use Rattle.rules.proofs.Laws.Properties.{properties_before-here, properties_before-pass}
use Rattle.rules.proofs.Laws.PropertyDrawers.{HeadingLine, place_at-heading}
use Rattle.lookup.proofs.Laws.Drawers.{opened-drawer}
use Rattle.sheet.specs.Order.{Pair, Order}
use Rattle.sheet.specs.Sheet.{title_line, pair_line, pair_lines, open_line, close_line, sheet_lines, sheet}
use Rattle.sheet.proofs.Laws.Judged.{GoodPair, GoodOrder}
use Rattle.sheet.proofs.Laws.Lines.{Whole, lines_join, length-join, size-append, line_in-head, lines_in-tail, next_line-end}
use Rattle.sheet.proofs.Laws.PairLines.{title_line-heading, title_line-whole, pair_line-heading, pair_line-whole, pair_line-node, pair_line-end}

-- ---- the drawer's first and last line

open_line-whole : Whole open_line
unfolding OpenLines open_line
open_line-whole = record { before = word ":PROPERTIES:"; plain = refl; is = refl }

close_line-whole : Whole close_line
unfolding OpenLines close_line
close_line-whole = record { before = word ":END:"; plain = refl; is = refl }

pub open_line-blank : blank_line open_line ≡ false
unfolding OpenLines open_line
open_line-blank = refl

open_line-heading : is_heading open_line ≡ false
unfolding OpenHeadings open_line
open_line-heading = refl

close_line-heading : is_heading close_line ≡ false
unfolding OpenHeadings close_line
close_line-heading = refl

pub open_line-planning : is_planning open_line ≡ false
unfolding OpenLineTests open_line
open_line-planning = refl

open_line-properties : is_properties_line open_line ≡ true
unfolding OpenLineTests open_line
open_line-properties = refl

close_line-end : is_end_line close_line ≡ true
unfolding OpenLineTests close_line
close_line-end = refl

open_line-some : 0 < length open_line
unfolding OpenLines open_line
open_line-some = omega arith

close_line-some : 0 < length close_line
unfolding OpenLines close_line
close_line-some = omega arith

-- ---- the pairs' lines

pair_lines-all : {P : Line → Type 0} {ps : List Pair} → ((p : Pair) → GoodPair p → P (pair_line p)) → All GoodPair ps → All P (pair_lines ps)
unfolding pair_lines
pair_lines-all f all_nil = all_nil
pair_lines-all f (all_cons {a} g h) = all_cons (f a g) (pair_lines-all f h)

pub pair_lines-length : (ps : List Pair) → length (pair_lines ps) ≡ length ps
unfolding pair_lines
pair_lines-length [] = refl
pair_lines-length (p ∷ ps) = ap suc (pair_lines-length ps)

properties_before-close : (ps : List Pair) → All GoodPair ps → properties_before (pair_lines ps ++ (close_line ∷ [])) ≡ some (length ps)
unfolding pair_lines
properties_before-close [] h = properties_before-here close_line [] close_line-end
properties_before-close (p ∷ ps) (all_cons g h) =
    properties_before-pass (pair_line p) (pair_lines ps ++ (close_line ∷ [])) (pair_line-end p g) (pair_line-node p g) ∙ rw (properties_before-close ps h)

-- ---- the sheet's lines

module _ (o : Order) where
  -- where the title's line ends, and the opener's, and where the closer starts
  abbrev pub title_end : ℕ
  title_end = length (title_line o.title)

  abbrev pub open_end : ℕ
  open_end = title_end + length open_line

  abbrev pub close_start : ℕ
  close_start = length (sheet o) - length close_line

  -- the lines after the title's
  abbrev pub drawer_lines : List Line
  drawer_lines = open_line ∷ (pair_lines o.pairs ++ (close_line ∷ []))

  pub sheet-size : length (sheet o) ≡ open_end + size (pair_lines o.pairs) + length close_line
  unfolding sheet sheet_lines size
  sheet-size = omega (arith, length-join (sheet_lines o), size-append (pair_lines o.pairs) (close_line ∷ []))

  pub close_start-is : title_end + size (take (length o.pairs + 2 - 1) drawer_lines) ≡ close_start
  unfolding size
  close_start-is =
      let n = length o.pairs in
      let m : n + 2 - 1 ≡ suc n = omega arith in
      rw (m, take_at (pair_lines o.pairs) (close_line ∷ []) n (pair_lines-length o.pairs)) (omega (arith, sheet-size))

module _ (o : Order) (g : GoodOrder o) where
  abbrev s : List ℕ
  s = sheet o

  abbrev e : ℕ
  e = length s

  abbrev a : ℕ
  a = title_end o

  abbrev b : ℕ
  b = open_end o

  sheet-lines : lines_in s 0 e ≡ title_line o.title ∷ drawer_lines o
  unfolding sheet sheet_lines size
  sheet-lines =
      lines_in-whole s 0
      ∙ lines_join (sheet_lines o)
      (all_cons (title_line-whole o.title g.title) (all_cons open_line-whole
      (all_append (pair_lines-all pair_line-whole g.pairs) (all_cons close_line-whole all_nil))))

  pub sheet-title_line : line_in s 0 e ≡ title_line o.title
  sheet-title_line = line_in-head s 0 e _ (drawer_lines o) sheet-lines

  pub sheet-drawer_lines : lines_in s a e ≡ drawer_lines o
  sheet-drawer_lines = rw zero-add at (lines_in-tail s 0 e (title_line o.title) _ sheet-lines)

  sheet-later_lines : lines_in s b e ≡ pair_lines o.pairs ++ (close_line ∷ [])
  sheet-later_lines = lines_in-tail s a e open_line _ sheet-drawer_lines

  pub sheet-pair_lines : lines_in s b (close_start o) ≡ pair_lines o.pairs
  sheet-pair_lines =
      let n = length o.pairs in
      let few = take_at (pair_lines o.pairs) (close_line ∷ []) n (pair_lines-length o.pairs) in
      let to : b + size (pair_lines o.pairs) ≡ close_start o = omega (arith, sheet-size o) in
      rw (sheet-later_lines, few, to) at (lines_in-take s b e n (omega (arith, sheet-size o)) (omega arith))

  -- ---- its heading line, and no other

  pub sheet-heading_line : HeadingLine s 0
  sheet-heading_line = record { start = line_start-zero s; heading = rw sheet-title_line (title_line-heading o.title) }

  pub sheet-next_heading : next_line is_heading s a ≡ e
  sheet-next_heading = next_line-end is_heading s a (omega (arith, sheet-size o)) (rw sheet-drawer_lines
      (all_cons open_line-heading (all_append (pair_lines-all (λ p h. pair_line-heading p) g.pairs) (all_cons close_line-heading all_nil))))

  -- ---- its drawer

  pub sheet-place : place_at s a ≡ AfterHeading
  sheet-place = rw (zero-add, sheet-title_line) at (place_at-heading s 0 sheet-heading_line)

  pub sheet-drawer : property_drawer AfterHeading (drawer_lines o) ≡ some (found Kind.property_drawer (length o.pairs + 2) 0)
  unfolding head_line tail_lines
  sheet-drawer = opened-drawer (drawer_lines o) open_line-properties (length o.pairs) (properties_before-close o.pairs g.pairs)

  -- ---- its line numbers

  pub sheet-some : a < e
  sheet-some = omega (arith, sheet-size o, open_line-some)

  pub sheet-open_number : line_number s a ≡ 1
  sheet-open_number =
      let q : a ≡ 0 + length (line_in s 0 e) = omega (arith, ap length sheet-title_line) in
      line_number-next s 0 e a (omega (arith, sheet-some)) (omega arith) q sheet-some ∙ rw (line_number-zero s)

  pub sheet-first_number : line_number s b ≡ 2
  sheet-first_number =
      let q : b ≡ a + length (line_in s a e) = omega (arith, ap length (line_in-head s a e open_line _ sheet-drawer_lines)) in
      line_number-next s a e b sheet-some (omega arith) q (omega (arith, sheet-size o, close_line-some)) ∙ rw sheet-open_number
