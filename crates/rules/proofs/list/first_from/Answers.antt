-- `rules::list::first_from` meets its contract: a line with a non-blank byte after its indentation is not blank.
-- Assumes nothing.
use Rattle.std.proofs.Common.{sym, ◌∙◌, ap}
use mathlib.Core.Bool.{true≢false}
use Rattle.text.specs.Bytes.{is_non_blank}
use Rattle.text.proofs.Laws.LinesIn.{first_line-here, blanks-here}
use Rattle.rules.proofs.Laws.Indented.{indented-some}
use Rattle.rules.proofs.list.first_from.Goals as goal

pub returns-then-is_nonblank : goal.returns-then-is_nonblank
unfolding is_non_blank
returns-then-is_nonblank c =
    let nonblank = sym c.is_nonblank.ensures ∙ c.if-is_nonblank.true in
    let some =
    indented-some _ _ _ _ c.run_end-body.ensures c.if-body-to.true c.requires.1 (λ t. true≢false (sym nonblank ∙ ap is_non_blank t))
    (λ t. true≢false (sym nonblank ∙ ap is_non_blank t)) in
    (sym (first_line-here _ _ _ some), sym (blanks-here _ _ _ some))
