-- `stream::state::in_heading` meets its contract.
use Rattle.std.proofs.Common.{sym, ◌∙◌}
use borrow.Author.Tests.{lt-ltb, le-ltb}
use Rattle.stream.specs.Steps.{in_heading}
use Rattle.stream.proofs.Laws.Steps.{heading-bare}
use Rattle.stream.proofs.state.in_heading.Goals as goal

pub returns-then-state-gt0 : goal.returns-then-state-gt0
unfolding in_heading
returns-then-state-gt0 c = rw (lt-ltb 0 _ c.if-state-gt0.true)

pub returns-else-state-gt0 : goal.returns-else-state-gt0
returns-else-state-gt0 c = le-ltb 0 _ c.if-state-gt0.false ∙ sym (heading-bare _ c.if-state-gt0.false)
