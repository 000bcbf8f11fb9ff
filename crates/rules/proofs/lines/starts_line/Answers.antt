-- `rules::lines::starts_line` meets its contract: each arm asks of the text what the class's test asks of a body that starts there.
-- Assumes nothing.
use mathlib.Core.Path.{refl, sym, ap, ◌∙◌}
use borrow.Author.Tests.{le-ltb}
use Rattle.text.specs.Bytes.{is_non_blank}
use Rattle.text.specs.Runs.{word, all}
use Rattle.rules.specs.LineTests.{is_formula, is_marked, is_comment, is_fixed_width}
use Rattle.rules.proofs.Laws.LineOf.{after-body}
use Rattle.rules.proofs.Laws.LineTests.{begins-after, is_row-none, is_row-byte}
use Rattle.rules.proofs.lines.starts_line.Goals as goal

pub is_marked-requires : goal.is_marked-requires
unfolding is_non_blank
is_marked-requires c = (c.requires.1, refl)

pub is_marked-requires-in-FixedWidth : goal.is_marked-requires-in-FixedWidth
unfolding is_non_blank
is_marked-requires-in-FixedWidth c = (c.requires.1, refl)

pub returns-then-at-to : goal.returns-then-at-to
returns-then-at-to c p h =
    rw c.in-Row.is (sym (is_row-byte _ p _ _ h c.requires.1 c.if-at-to.true))

pub returns-else-at-to : goal.returns-else-at-to
returns-else-at-to c p h =
    rw c.in-Row.is (le-ltb _ _ c.if-at-to.false ∙ sym (is_row-none _ p _ _ h c.requires.1 c.if-at-to.false))

pub returns-in-Formula : goal.returns-in-Formula
unfolding is_formula word all is_non_blank
returns-in-Formula c p h =
    rw c.in-Formula.is (c.begins_with.ensures ∙ sym (begins-after _ p _ _ h c.requires.1 _ refl))

pub returns-in-Comment : goal.returns-in-Comment
unfolding is_comment
returns-in-Comment c p h = rw c.in-Comment.is (c.is_marked.ensures ∙ ap (is_marked 35) (after-body _ p _ _ h))

pub returns-in-FixedWidth : goal.returns-in-FixedWidth
unfolding is_fixed_width
returns-in-FixedWidth c p h = rw c.in-FixedWidth.is (c.is_marked-in-FixedWidth.ensures ∙ ap (is_marked 58) (after-body _ p _ _ h))
