-- `rules::property::is_between_colons` meets its contract, by the law of a part with fewer than three bytes and that of one with more.
-- Assumes nothing.
use Rattle.std.proofs.Common.{sym, ◌∙◌}
use mathlib.Core.Bool.{false≢true}
use borrow.Author.Tests.{lt-leb}
use Rattle.rules.proofs.Laws.Names.{between_colons-few, between_colons-test}
use Rattle.rules.proofs.property.is_between_colons.Goals as goal
use Rattle.rules.proofs.property.is_between_colons.Goals.{then-to-from-ge3, else-to-from-ge3}

pub returns-then-text-from-eq58 : goal.returns-then-text-from-eq58
returns-then-text-from-eq58 c =
    elim c.if-to-from-ge3.branch [
      | then-to-from-ge3 w ↦ rw (between_colons-test _ _ _ c.requires.1 w.if-to-from-ge3.true, sym w.value-is ∙ c.if-text-from-eq58.true)
      | else-to-from-ge3 w ↦ absurd (false≢true (sym (lt-leb _ _ w.if-to-from-ge3.false) ∙ sym w.value-is ∙ c.if-text-from-eq58.true))
    ]

pub returns-else-text-from-eq58 : goal.returns-else-text-from-eq58
returns-else-text-from-eq58 c =
    elim c.if-to-from-ge3.branch [
      | then-to-from-ge3 w ↦
          rw (c.if-text-from-eq58.false, between_colons-test _ _ _ c.requires.1 w.if-to-from-ge3.true, sym w.value-is ∙ c.if-text-from-eq58.false)
      | else-to-from-ge3 w ↦ rw (c.if-text-from-eq58.false, between_colons-few _ _ _ c.requires.1 w.if-to-from-ge3.false)
    ]
