-- The first heading of a proper table starts at the text's first heading line.
-- Assumes nothing.
use mathlib.Core.Path.{◌≡◌, sym, ◌∙◌}
use mathlib.Core.Bool.{false, true≢false}
use mathlib.Core.List.{List}
use Prim.Native.Nat.{ℕ, suc, ◌≤◌, ◌<◌}
use native.Mathlib.Omega.{arith, not-le}
use lib.ListN.{length}
use Rattle.text.specs.Parts.{line_in, next_line}
use Rattle.text.proofs.Laws.LinesIn.{next_line-before, next_line-passes}
use Rattle.text.proofs.Laws.LineStarts.{line_start-zero, line_start-next, line_start-after}
use Rattle.rules.specs.Headings.{is_heading}
use Rattle.rules.proofs.Laws.PropertyDrawers.{HeadingLine, heading_line-some}
use Rattle.table.specs.Proper.{Proper}
use Rattle.table.specs.declared.record.Record.{Record}
use Rattle.lookup.specs.Defaults.{first_heading}
use Rattle.lookup.specs.Promises.{FirstHeading}
use Rattle.lookup.proofs.Tied.Headings.{heading-starts, heading-there}

module _ (d : List ℕ) where
  -- no heading line starts before it
  first-before : (p : ℕ) → HeadingLine d p → first_heading d ≤ p
  unfolding first_heading
  first-before p l =
      let q = next_line is_heading d 0 in
      let a = line_start-after d 0 p (line_start-zero d) l.start (omega arith) in
      let no : p < q → is_heading (line_in d p (length d)) ≡ false = rw a.1 (next_line-before d is_heading 0 a.0) in
      let i = not-le (suc p) q (λ i. true≢false (sym l.heading ∙ no i)) in
      omega arith

  -- and if there is any, one starts there
  first-there : (p : ℕ) → HeadingLine d p → HeadingLine d (first_heading d)
  unfolding first_heading
  first-there p l =
      let before = first-before p l in
      let some = heading_line-some d p l in
      record {
        start = line_start-next d 0 (line_start-zero d) is_heading;
        heading = next_line-passes d is_heading 0 (omega arith) (omega arith);
      }

  pub first-heading : (R : List Record) → Proper d R → FirstHeading R (first_heading d)
  first-heading R h =
      record {
        before = λ p i r. first-before p (heading-starts d R h p i r);
        there = λ p i r. heading-there d R h (first_heading d) (first-there p (heading-starts d R h p i r));
      }
