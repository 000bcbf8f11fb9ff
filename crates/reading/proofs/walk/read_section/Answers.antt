-- `reading::walk::read_section` meets its contract: a section whose lines are all blank gives no record, any other its record and then its
-- elements, from its first line on and at the place that the lines before it give.
-- Assumes nothing.
use Rattle.std.proofs.Common.{◌≡◌, ap, ◌∙◌, ◌+◌, ◌≤◌, ◌<◌, length, arith}
use borrow.Author.Rules.{rules}
use Rattle.std.proofs.lemmas.Bool.{false≢true}
use Rattle.text.specs.LineNumbers.{line_number}
use Rattle.text.proofs.Laws.LineNumbers.{line_number-le}
use Rattle.rules.proofs.Laws.NoLines.{knows-nothing}
use Rattle.reading.proofs.Laws.SectionPlaces.{section-number, section-blanks, section-end, section-first, section-range, section-place}
use Rattle.reading.proofs.Laws.Turns.{section-none, section-turn}
use Rattle.reading.proofs.walk.read_section.Goals as goal
use Rattle.reading.proofs.walk.read_section.Goals.{After-first_line-first}

pub first_line-first-requires : goal.first_line-first-requires
first_line-first-requires c = let at = c.requires.0 in section-end _ _ _ at.limit at.start at.end

-- what holds of the first line, `at`
order : (c : After-first_line-first)
    → (c.args.from ≤ c.first_line-first.result.at) × (c.first_line-first.result.at ≤ c.args.to) × (c.args.to ≤ length c.args.text.now)
order c =
    let at = c.requires.0 in
    let end = section-end _ _ _ at.limit at.start at.end in
    let first = section-first _ _ _ at.limit at.start at.end _ c.first_line-first.ensures.0 in
    omega arith

-- the line number there, of what is in the text
number : (c : After-first_line-first) → c.first_line-first.result.at < length c.args.text.now
    → c.args.number + c.first_line-first.result.lines ≡ line_number c.args.text.now c.first_line-first.result.at
number c i =
    let at = c.requires.0 in
    section-number _ _ _ at.limit at.start at.end _ c.first_line-first.ensures.0 _ c.first_line-first.ensures.1 _ c.requires.3 i

pub overflow_add-n : goal.overflow_add-n
overflow_add-n c =
    let at = c.requires.0 in
    omega (arith, section-blanks _ _ _ at.limit at.start at.end _ c.first_line-first.ensures.1)

pub returns-then-to-at : goal.returns-then-to-at
returns-then-to-at c =
    let first = (goal.at.returns-then-to-at c).After-first_line-first in
    let bounds = order first in
    let same : c.first_line-first.result.at ≡ c.args.to = omega arith in
    record {
      takes = section-none _ _ _ _ _ _ c.requires.0.end c.first_line-first.ensures.0 c.if-to-at.true;
      from_bound = (omega arith, λ i. number first (omega arith) ∙ ap (line_number _) same);
    }

pub emit-out-requires : goal.emit-out-requires
emit-out-requires c =
    let first = (goal.at.emit-out-requires c).After-first_line-first in
    let bounds = order first in
    let line = number first (omega arith) in
    let small = line_number-le c.args.text.now c.first_line-first.result.at in
    search rules

pub read_elements-requires : goal.read_elements-requires
read_elements-requires c =
    let first = (goal.at.read_elements-requires c).After-first_line-first in
    let at = c.requires.0 in
    let bounds = order first in (
      record {
        range = section-range _ _ _ at.limit at.start at.end _ c.first_line-first.ensures.0;
        place = λ i h. c.first_place-here.ensures ∙ section-place _ _ _ at.limit at.start at.end _ c.first_line-first.ensures.0 _ at.place;
        all = λ i. absurd (false≢true i);
        known = knows-nothing _ _ _;
      },
      omega arith,
      omega arith,
      omega arith,
      λ h. number first (omega arith),
    )

pub returns : goal.returns
returns c =
    let first = (goal.at.returns c).After-first_line-first in
    let bounds = order first in
    let line = number first (omega arith) in
    record {
      takes = c.read_elements.ensures.takes
          ∙ section-turn _ _ _ _ _ _ c.requires.0.end c.first_line-first.ensures.0 _ c.if-to-at.false
          (rw line at c.emit-out.ensures.result_after);
      from_bound = (omega arith, (c.read_elements.ensures.from_bound.1 c.if-to-at.false).1);
    }
