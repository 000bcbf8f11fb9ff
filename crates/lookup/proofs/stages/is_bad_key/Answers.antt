-- `lookup::stages::is_bad_key` meets its contract: a key is all non-blank bytes where the run of them from its first byte on is all of it.
-- Assumes nothing.
use mathlib.Core.Path.{sym}
use native.Mathlib.Omega.{arith}
use Rattle.lookup.proofs.Laws.Keys.{is_bad_key-empty, is_bad_key-long, is_bad_key-blank, is_bad_key-last}
use Rattle.lookup.proofs.stages.is_bad_key.Goals as goal
use Rattle.lookup.proofs.stages.is_bad_key.Goals.{then-size-eq0-via-then-size-eq0, then-size-eq0-via-else-size-eq0+then-size-gt-KEY}

pub returns-then-size-eq0 : goal.returns-then-size-eq0
returns-then-size-eq0 c =
    sym (elim c.then-size-eq0.branch [
      | then-size-eq0-via-then-size-eq0 w ↦ is_bad_key-empty _ w.if-size-eq0.true
      | then-size-eq0-via-else-size-eq0+then-size-gt-KEY w ↦ is_bad_key-long _ w.if-size-gt-KEY.true
    ])

pub returns-then-word_end-size : goal.returns-then-word_end-size
returns-then-word_end-size c = sym (is_bad_key-blank _ _ c.word_end.ensures (omega arith))

pub returns : goal.returns
returns c = sym (is_bad_key-last _ _ c.word_end.ensures (omega arith) (omega arith) (omega arith))
