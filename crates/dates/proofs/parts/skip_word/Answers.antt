-- `dates::parts::skip_word` meets its contract.
-- Assumes nothing.
use mathlib.Core.Path.{sym, ◌∙◌}
use Rattle.dates.proofs.Laws.Reads.{expect-some, expect-none}
use Rattle.dates.proofs.parts.skip_word.Goals as goal

pub returns-then-begins_with : goal.returns-then-begins_with
returns-then-begins_with c =
    let at-begins-with = c in
    let start = at-begins-with in
    expect-some _ _ _ _ start.requires.0 start.requires.1 (sym at-begins-with.begins_with.ensures ∙ c.if-begins_with.true)

pub returns-else-begins_with : goal.returns-else-begins_with
returns-else-begins_with c = expect-none _ _ _ _ (sym c.begins_with.ensures ∙ c.if-begins_with.false)
