-- `intake::book::is_ended` meets its contract: no bytes in use end a text, and else the last one does.
use mathlib.Core.Path.{sym, ◌∙◌}
use native.Mathlib.Omega.{arith}
use borrow.Author.Tests.{eq-eqb}
use Rattle.text.specs.Bytes.{is_newline}
use Rattle.intake.proofs.Laws.Book.{ended-none, ended-last}
use Rattle.intake.proofs.book.is_ended.Goals as goal

pub returns-then-used-eq0 : goal.returns-then-used-eq0
returns-then-used-eq0 c = eq-eqb _ _ c.if-used-eq0.true ∙ sym (ended-none c.args.book.now _ c.if-used-eq0.true)

pub returns-else-used-eq0 : goal.returns-else-used-eq0
unfolding is_newline
returns-else-used-eq0 c = ended-last c.args.book.now c.args.used (omega (arith, c.if-used-eq0.false)) (omega arith)
