-- `text::bytes::first_in` meets its contract.
-- The invariant: the least number so far is the place of a byte that passes, if it is a place at all, and no byte before that place passes.
-- Assumes nothing.
use Rattle.std.proofs.Common.{ℕ, true, false, ◌+◌, ◌<◌, get_or}
use Rattle.text.proofs.bytes.first_in.Given as goal

abbrev pub invariant-loop-j : goal.invariant-loop-j
invariant-loop-j g l = record {
  found : l.first < l.j-end → (l.first < l.j) × goal.F-post g l.passes (get_or l.text (l.at + l.first) 0) true;
  before : (k : ℕ) → k < l.j → k < l.first → goal.F-post g l.passes (get_or l.text (l.at + k) 0) false;
}
