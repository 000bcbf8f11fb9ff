-- `rules::closer::starts_with` meets its contract: past the blank bytes stands the mark, or the line ends.
-- Assumes nothing.
use Rattle.std.proofs.Common.{sym, ap, ◌∙◌}
use lib.Dec.{eqb}
use borrow.Author.Tests.{le-ltb}
use Rattle.rules.proofs.Laws.Closers.{starts_with-end, starts_with-first}
use Rattle.rules.proofs.closer.starts_with.Goals as goal

pub returns-then-first-to : goal.returns-then-first-to
returns-then-first-to c =
    ap (λ b. eqb b c.args.mark) c.lower.ensures ∙ sym (starts_with-first _ _ _ _ c.run_end-first.ensures _ c.if-first-to.true c.requires.1)

pub returns-else-first-to : goal.returns-else-first-to
returns-else-first-to c =
    le-ltb _ _ c.if-first-to.false ∙ sym (starts_with-end _ _ _ _ c.run_end-first.ensures _ c.if-first-to.false)
