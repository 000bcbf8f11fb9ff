-- `rules::block::opened_name` meets its contract: the body begins with `#+begin_`, and the name goes on to the first blank byte.
-- Assumes nothing.
use Rattle.std.proofs.Common.{sym, arith}
use Rattle.text.specs.Runs.{word}
use Rattle.rules.proofs.Laws.LineOf.{line_of-order}
use Rattle.rules.proofs.Laws.Blocks.{unnamed-no, unnamed-empty, begin-order, opens-at}
use Rattle.rules.proofs.block.opened_name.Goals as goal

pub begins_with-requires : goal.begins_with-requires
begins_with-requires c = let o = line_of-order _ _ _ c.requires in (o.1, omega arith)

pub returns-then-not-begins_with : goal.returns-then-not-begins_with
unfolding word
returns-then-not-begins_with c = unnamed-no _ _ _ c.requires (sym c.if-not-begins_with.ensures)

pub overflow_add-name : goal.overflow_add-name
unfolding word
overflow_add-name c = omega (arith, begin-order _ _ _ c.requires (sym c.if-not-begins_with.ensures))

pub word_end-to-requires : goal.word_end-to-requires
unfolding word
word_end-to-requires c = omega (arith, begin-order _ _ _ c.requires (sym c.if-not-begins_with.ensures))

pub returns-then-to-name : goal.returns-then-to-name
unfolding word
returns-then-to-name c = unnamed-empty _ _ _ c.requires (sym c.if-not-begins_with.ensures) _ c.word_end-to.ensures c.if-to-name.true

pub returns : goal.returns
unfolding word
returns c = opens-at _ _ _ c.requires (sym c.if-not-begins_with.ensures) _ c.word_end-to.ensures c.if-to-name.false
