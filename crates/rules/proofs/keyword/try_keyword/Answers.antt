-- `rules::keyword::try_keyword` meets its contract: a law for each way out, at the ends that the calls find.
-- Assumes nothing.
use mathlib.Core.Path.{sym, ◌∙◌}
use native.Mathlib.Omega.{arith}
use Rattle.text.specs.Runs.{word}
use Rattle.rules.proofs.Laws.LineOf.{line_of-order}
use Rattle.rules.proofs.Laws.LineTests.{first_run-order}
use Rattle.rules.proofs.Laws.Rules.{marker-to, keyword-other, keyword-short, keyword-yes}
use Rattle.rules.proofs.keyword.try_keyword.Goals as goal

pub begins_with-requires : goal.begins_with-requires
begins_with-requires c = let o = line_of-order _ _ _ c.requires.line in omega arith

pub returns-then-not-begins_with : goal.returns-then-not-begins_with
unfolding word
returns-then-not-begins_with c = keyword-other _ _ _ c.requires.line (sym c.begins_with.ensures ∙ c.if-not-begins_with.true)

pub word_end-run-requires : goal.word_end-run-requires
word_end-run-requires c = let o = line_of-order _ _ _ c.requires.line in omega arith

pub after_last_colon-marker-requires : goal.after_last_colon-marker-requires
after_last_colon-marker-requires c =
    let o = first_run-order _ _ _ c.requires.line _ c.word_end-run.ensures in
    omega arith

pub returns-then-marker-line-lt4 : goal.returns-then-marker-line-lt4
returns-then-marker-line-lt4 c =
    keyword-short _ _ _ c.requires.line _ c.word_end-run.ensures
    _ c.after_last_colon-marker.ensures (omega arith)

pub run_end-value-requires : goal.run_end-value-requires
run_end-value-requires c =
    let line = c.requires.line in
    let o = line_of-order _ _ _ line in
    (marker-to _ _ _ line _ c.word_end-run.ensures _ c.after_last_colon-marker.ensures, omega arith)

pub returns : goal.returns
unfolding word
returns c =
    rw c.of_line.ensures
    (keyword-yes _ _ _ c.requires.line _ c.word_end-run.ensures
    _ c.after_last_colon-marker.ensures (sym c.begins_with.ensures ∙ c.if-not-begins_with.false)
    (omega arith) _ c.run_end-value.ensures)
