-- `rules::opener::search_from` meets its contract: the container ends in the text, past the byte, and a line starts there.
-- Assumes nothing.
use Rattle.std.proofs.Common.{sym, ◌∙◌}
use Rattle.rules.proofs.Laws.LineOf.{line_of, line_span-start}
use Rattle.rules.proofs.Laws.Openers.{search-outside, search-behind, search-inside, search-line}
use Rattle.rules.proofs.opener.search_from.Goals as goal
use Rattle.rules.proofs.opener.search_from.Goals.{then-text-to-via-then-text-to, then-text-to-via-else-text-to+then-to-at, then-text-to-via-else-text-to+else-to-at+then-not-starts_line}

pub returns-then-text-to : goal.returns-then-text-to
returns-then-text-to c =
    c.no_search.ensures
    ∙ elim c.then-text-to.branch [
      | then-text-to-via-then-text-to w ↦ search-outside _ _ _ w.if-text-to.true
      | then-text-to-via-else-text-to+then-to-at w ↦ search-behind _ _ _ w.if-to-at.true
      | then-text-to-via-else-text-to+else-to-at+then-not-starts_line w ↦
          search-inside _ _ _ (sym w.starts_line.ensures ∙ w.if-not-starts_line.true)
    ]

pub search_from_line-requires : goal.search_from_line-requires
search_from_line-requires c = line_of _ _ _ _ c.if-to-at.false c.if-text-to.false c.line_at-line.ensures

pub returns : goal.returns
returns c =
    rw (line_span-start _ _ _ _ c.line_at-line.ensures) at c.search_from_line.ensures
    ∙ search-line _ _ _ c.if-text-to.false c.if-to-at.false (sym c.starts_line.ensures ∙ c.if-not-starts_line.false)
