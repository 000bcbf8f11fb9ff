-- `orgtable::print_table` meets its contract: the bytes in use are the text, and a longer text than the buffer is refused. From Texts.
-- Assumes nothing.
use Rattle.std.proofs.Common.{sym, ◌∙◌}
use Rattle.orgtable.proofs.Laws.Texts.{unread, printed-whole}
use Rattle.orgtable.proofs.print_table.Goals as goal

pub returns-then-is_err : goal.returns-then-is_err
returns-then-is_err g c = unread _ _

pub returns : goal.returns
returns g c =
    printed-whole _ _ _ _ _ _ c.read_input-input.auto.buffer (sym c.is_err.ensures.value ∙ c.if-is_err.false) c.read_input-input.ensures.bytes c.print_input.ensures
