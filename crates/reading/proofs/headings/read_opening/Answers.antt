-- `reading::headings::read_opening` meets its contract: the document's record, and the zeroth section, which stands at the text's opening.
-- Assumes nothing.
use Rattle.std.proofs.Common.{◌∙◌, sym, length, arith}
use Rattle.text.proofs.Laws.LineStarts.{line_start-zero}
use Rattle.text.proofs.Laws.LineNumbers.{line_number-zero}
use Rattle.rules.proofs.Laws.Headings.{next_line-up_to}
use Rattle.rules.proofs.Laws.Places.{place_at-zero}
use Rattle.reading.proofs.Laws.Turns.{opening-entry, default-record}
use Rattle.reading.proofs.headings.read_opening.Goals as goal

pub read_section-section-requires : goal.read_section-section-requires
read_section-section-requires c =
    let s = c.args.text.now in (
      record {
        text = omega arith;
        limit = omega arith;
        start = line_start-zero s;
        end = c.next_heading-first.ensures ∙ next_line-up_to s (length s) 0 (omega arith) (omega arith);
        place = sym (place_at-zero s);
      },
      omega arith,
      omega arith,
      λ i. sym (line_number-zero s),
      omega arith,
    )

pub returns-clause-next_value : goal.returns-clause-next_value
returns-clause-next_value c =
    let s = c.args.text.now in
    let bound = c.read_section-section.ensures.from_bound in
    (c.next_heading-first.ensures ∙ next_line-up_to s (length s) 0 (omega arith) (omega arith), omega (arith, bound.0), bound.1)

pub returns-clause-takes : goal.returns-clause-takes
returns-clause-takes c =
    let document = rw (default-record c.default.result c.default.ensures) at c.emit-out.ensures.result_after in
    opening-entry _ _ _ _ c.requires.1 document c.read_section-section.ensures.takes
