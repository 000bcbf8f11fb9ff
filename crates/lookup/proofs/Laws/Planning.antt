-- The stamps of a heading's planning line, told by what the code finds in the text.
-- Assumes nothing.
use mathlib.Core.Path.{◌≡◌, ap, ◌∙◌}
use mathlib.Core.List.{List}
use Prim.Native.Nat.{ℕ, ◌≤◌, ◌<◌}
use native.Mathlib.Omega.{arith}
use lib.ListN.{length}
use borrow.Author.Tests.{lt-ltb, le-ltb}
use Rattle.text.specs.Lines.{OpenLines}
use Rattle.text.specs.Limits.{text_limit}
use Rattle.text.specs.Parts.{line_in, next_line}
use Rattle.text.specs.Spans.{line_span}
use Rattle.text.specs.declared.line.LineSpan.{LineSpan}
use Rattle.text.proofs.Laws.Parts.{part-nil}
use Rattle.text.proofs.Laws.LinesIn.{lines_in-nil}
use Rattle.dates.specs.Planning.{planning_stamps}
use Rattle.rules.specs.Headings.{is_heading_up_to}
use Rattle.rules.proofs.Laws.LineOf.{line_of, line_of-order, line_of-body}
use Rattle.std.specs.declared.option.Option.TheVariants.{None, Some}
use Rattle.std.specs.declared.result.Result.TheVariants.{Ok, Err}
use Rattle.lookup.specs.Spans.{span}
use Rattle.lookup.specs.declared.planning.Refusal.TheVariants.{TooLong, NoHeading}
use Rattle.lookup.specs.Stages.{heading_at}
use Rattle.lookup.specs.Planning.{body_after, planning, BodyAfter}
use Rattle.lookup.proofs.Laws.DrawersFound.{section-end, section-order}

-- the section of the heading whose line ends at byte p ends at byte e, where `next_heading` finds its end
module _ (s : List ℕ) (p : ℕ) (h : p ≤ length s) (e : ℕ) (i : e ≡ next_line (is_heading_up_to (length s)) s p) where
  pub body_after-none : e ≤ p → BodyAfter s p (span p p)
  unfolding body_after line_in OpenLines
  body_after-none j =
      record {
        is = part-nil s p p (omega arith) ∙ rw (← section-end s p h e i, lines_in-nil s p e j);
        order = omega arith;
        within = h;
      }

  pub body_after-line : p < e → (l : LineSpan) → l ≡ line_span s p e → BodyAfter s p (span l.from l.to)
  unfolding body_after line_span
  body_after-line j l g =
      let x = section-order s p h e i in
      let at : l.start ≡ p = ap (λ (m : LineSpan). m.start) g in
      let o = line_of s l p e j x.1 g in
      let k = line_of-order s l e o in
      record { is = line_of-body s l e o ∙ rw (at, ← section-end s p h e i); order = k.1; within = omega arith }

-- ---- the answer, from each stage's

module _ (s : List ℕ) (p : ℕ) where
  pub planning-long : text_limit < length s → planning s p ≡ Err TooLong
  unfolding planning
  planning-long h = rw (lt-ltb text_limit (length s) h)

  module _ (h : length s ≤ text_limit) where
    pub planning-no_heading : heading_at s p ≡ None → planning s p ≡ Err NoHeading
    unfolding planning
    planning-no_heading i = rw (le-ltb text_limit (length s) h, i)

    pub planning-found : (a : ℕ) → heading_at s p ≡ Some a → planning s p ≡ Ok (planning_stamps (body_after s a))
    unfolding planning
    planning-found a i = rw (le-ltb text_limit (length s) h, i)
