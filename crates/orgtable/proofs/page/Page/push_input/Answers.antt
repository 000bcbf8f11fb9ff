-- `orgtable::page::Page::push_input` meets its contract: each arm puts what is printed for its case. From Input.
-- Assumes nothing.
use Rattle.std.proofs.Common.{sym, length-take-le}
use mathlib.Core.List.{append-nil}
use Rattle.orgtable.specs.Input.{printed_input}
use Rattle.orgtable.proofs.page.Page.push_input.Goals as goal

pub returns-in_default : goal.returns-in_default
unfolding printed_input
returns-in_default c = rw c.in_default.is (sym (append-nil _))

pub slice_bounds-push_reading-end : goal.slice_bounds-push_reading-end
slice_bounds-push_reading-end c = sym (length-take-le _ _ (rw (c.in-Ok.is, c.in-Some.is) at c.requires.in_buffer))

pub returns-in-Some : goal.returns-in-Some
unfolding printed_input
returns-in-Some c = rw (c.in-Ok.is, c.in-Some.is) c.push_reading.ensures

pub returns-in-None : goal.returns-in-None
unfolding printed_input
returns-in-None c = rw (c.in-Ok.is, c.in-None.is) c.push_refusal.ensures
