-- `rules::closer::find_end` meets its contract: the closer's bytes are `:end:`, and nothing after them.
-- Assumes nothing.
use borrow.Author.Rules.{rules}
use Rattle.text.specs.Bytes.{is_non_blank}
use Rattle.text.specs.Runs.{word, all}
use Rattle.rules.proofs.closer.find_end.Goals as goal

pub find_closer-requires : goal.find_closer-requires
unfolding all is_non_blank
find_closer-requires c = search rules

pub returns : goal.returns
unfolding word
returns c = c.find_closer.ensures
