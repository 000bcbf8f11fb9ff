-- `lookup::defaults::of_defaults` meets its contract: a text that is too long is refused wherever its first heading line is.
-- Assumes nothing.
use mathlib.Core.Path.{sym, ◌∙◌}
use native.Mathlib.Omega.{arith}
use Rattle.lookup.proofs.Laws.Defaults.{of_defaults-long, of_defaults-at}
use Rattle.lookup.proofs.defaults.of_defaults.Goals as goal

pub returns-then-size-gt-TEXT : goal.returns-then-size-gt-TEXT
returns-then-size-gt-TEXT c = sym (of_defaults-long _ _ (omega arith))

pub returns : goal.returns
returns c = c.lookup.ensures.value ∙ sym (of_defaults-at _ _ _ c.next_heading.ensures)
