-- `rules::element::starts_text` meets its contract: a byte from 128 on or of a name, but no hyphen.
-- Assumes nothing.
use Rattle.std.proofs.Common.{sym}
use mathlib.Core.Bool.{or-true}
use lib.Dec.{leb}
use borrow.Author.Tests.{le-leb}
use Rattle.rules.proofs.Laws.FirstOf.{text-unwanted}
use Rattle.rules.proofs.element.starts_text.Goals as goal

pub returns-then-b-ge128 : goal.returns-then-b-ge128
returns-then-b-ge128 c z = text-unwanted _ (rw (le-leb 128 c.args.b c.if-b-ge128.true))

pub returns-then-is_name : goal.returns-then-is_name
returns-then-is_name c z =
    let b = c.args.b in
    text-unwanted b (rw (sym c.if-is_name.ensures) (rw z (or-true (leb 128 b))))
