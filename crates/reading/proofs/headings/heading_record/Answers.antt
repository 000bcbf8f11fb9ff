-- `reading::headings::heading_record` meets its contract: the heading ends before the next heading line with as many stars or fewer, which
-- is sought from the next heading line on.
-- Assumes nothing.
use Rattle.std.proofs.Common.{ℕ, sym, ap, ◌∙◌, rules}
use Rattle.text.proofs.Laws.LinesIn.{next_line-to}
use Rattle.text.proofs.Laws.LineNumbers.{line_number-le}
use Rattle.rules.specs.Headings.{is_heading_up_to}
use Rattle.table.specs.Makers.{heading_record}
use Rattle.reading.proofs.Laws.SectionPlaces.{heading-record, heading_line-order}
use Rattle.reading.proofs.headings.heading_record.Goals as goal

pub next_heading-end-requires : goal.next_heading-end-requires
next_heading-end-requires c = (heading_line-order c.requires.0).2

pub returns-clause-value : goal.returns-clause-value
returns-clause-value c =
    let (l, last, number) = c.requires in
    rw number (sym (heading-record _ _ l.here l.some _ l.end _ _ _ _ l.stars l.next c.next_heading-end.ensures)
    ∙ ap (λ (q : ℕ). heading_record c.args.text.now q c.args.at) c.find_parent.ensures.value)

pub returns-clause-small : goal.returns-clause-small
returns-clause-small c =
    let (l, last, line) = c.requires in
    let order = heading_line-order l in
    let limit = l.here.limit in
    let number = line_number-le c.args.text.now c.args.at in
    let end = next_line-to c.args.text.now (is_heading_up_to c.args.stars) c.args.next order.2 in
    search rules
