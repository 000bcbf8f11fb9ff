-- `reading::headings::read_heading` meets its contract: the record that is emitted does as the heading's, and its section follows.
-- Assumes nothing.
use Rattle.std.proofs.Common.{◌≡◌, sym, ap, ◌∙◌, ℕ, ◌+◌, ◌≤◌, length, arith}
use borrow.Author.Rules.{rules}
use Rattle.text.specs.Limits.{text_limit}
use Rattle.text.specs.Parts.{next_line}
use Rattle.text.proofs.Laws.LineNumbers.{line_number-le, line_number-next}
use Rattle.rules.specs.Headings.{is_heading, stars}
use Rattle.rules.proofs.Laws.Headings.{next_line-up_to}
use Rattle.table.specs.declared.record.Record.{Record}
use Rattle.table.specs.Sections.{line_at}
use Rattle.table.specs.Makers.{heading_record}
use Rattle.table.specs.Reading.{nearest}
use Rattle.reading.specs.Walk.{state, entry, absorb, HeadingLine}
use Rattle.reading.specs.Tracked.{Earlier, last_index, Tracked}
use Rattle.reading.proofs.Laws.Absorb.{absorb-any}
use Rattle.reading.proofs.Laws.SectionPlaces.{heading-stars, heading-line, heading-start, heading-place, heading_line-order}
use Rattle.reading.proofs.Laws.Tracked.{tracked-heading}
use Rattle.reading.proofs.Laws.Turns.{heading-entry, default-record}
use Rattle.reading.proofs.headings.read_heading.Goals as goal
use Rattle.reading.proofs.headings.read_heading.Goals.{After-next_heading-next, After-emit-out, then-sink, else-sink}

pub next_heading-next-requires : goal.next_heading-next-requires
next_heading-next-requires c = (heading-line _ _ c.requires.0 c.requires.1 _ c.line_end-inner.ensures).1

-- the heading line
line : (c : After-next_heading-next)
    → HeadingLine c.args.text.now c.args.at c.line_end-inner.result c.next_heading-next.result c.heading_stars-stars.result
line c =
    let s = c.args.text.now in
    let inner = heading-line s _ c.requires.0 c.requires.1 _ c.line_end-inner.ensures in
    record {
      here = c.requires.0;
      some = c.requires.1;
      stars = c.heading_stars-stars.ensures;
      end = c.line_end-inner.ensures;
      next = c.next_heading-next.ensures ∙ next_line-up_to s (length s) _ inner.1 (omega arith);
    }

-- its number
number_small : (c : After-next_heading-next) → c.args.number ≤ text_limit
number_small c = omega (arith, line_number-le c.args.text.now c.args.at)

pub heading_record-r-requires : goal.heading_record-r-requires
heading_record-r-requires c = (line (goal.at.heading_record-r-requires c).After-next_heading-next, c.requires.2, c.requires.4)

pub emit-out-requires : goal.emit-out-requires
emit-out-requires c = (
  elim c.if-sink.branch [
    | then-sink w ↦ rw w.r-is w.heading_record-r.ensures.small
    | else-sink w ↦ rw (w.r-is ∙ default-record w.default-r.result w.default-r.ensures) (search rules)
  ],
  omega arith,
)

pub overflow_add-number : goal.overflow_add-number
overflow_add-number c = omega (arith, number_small (goal.at.overflow_add-number c).After-next_heading-next)

pub read_section-section-requires : goal.read_section-section-requires
read_section-section-requires c =
    let next = (goal.at.read_section-section-requires c).After-next_heading-next in
    let s = c.args.text.now in
    let l = line next in
    let order = heading_line-order l in (
      record {
        text = omega arith;
        limit = l.here.limit;
        start = heading-start _ _ l.here l.some _ l.end;
        end = l.next;
        place = sym (heading-place _ _ l.here l.some _ l.end);
      },
      omega arith,
      omega arith,
      λ i. ap (λ (k : ℕ). k + 1) c.requires.4 ∙ sym (line_number-next s _ (length s) _ l.some (omega arith) l.end i),
      omega (arith, number_small next),
    )

-- the record that is emitted does as the heading's, after the earlier headings hs
emitted : (c : After-emit-out) (hs : Earlier) → let s = c.args.text.now in let st = state c.args.table.now c.args.sink in
    c.args.last ≡ last_index hs → Tracked st hs
    → state c.emit-out.new.table c.emit-out.result
    ≡ absorb st (entry (heading_record s (nearest (stars (line_at s c.args.at)) hs) c.args.at) 0)
emitted c hs last tracked =
    let st = state c.args.table.now c.args.sink in
    let l = line (goal.at.After-emit-out c).After-next_heading-next in
    let many = heading-stars _ _ l.here l.some _ l.stars in
    c.emit-out.ensures.result_after
    ∙ elim c.if-sink.branch [
      | then-sink w ↦
          ap (λ (r : Record). absorb st (entry r 0)) (w.r-is ∙ w.heading_record-r.ensures.value)
          ∙ tracked-heading tracked c.args.text.now _ _ (λ i. cc)
      | else-sink w ↦ absorb-any st _ _ 0 w.if-sink.false
    ]

pub returns : goal.returns
unfolding heading_record
returns c =
    let l = line (goal.at.returns c).After-next_heading-next in
    let order = heading_line-order l in
    let section = rw l.end at c.read_section-section.ensures.takes in
    record {
      at_lt_next = (omega arith, l.next ∙ ap (next_line is_heading c.args.text.now) l.end, omega arith, c.read_section-section.ensures.from_bound.1);
      takes = λ hs last tracked. heading-entry _ hs _ _ _ _ (emitted (goal.at.returns c).After-emit-out hs last tracked) section;
    }
