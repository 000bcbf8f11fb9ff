-- `text::bytes::has_byte` meets its contract. The invariant: as long as nothing is found, none of the bytes passed is b.
-- Assumes nothing.
use Rattle.std.proofs.Common.{◌≡◌, false, ℕ, ◌+◌, ◌<◌, get_or}
use Rattle.text.proofs.bytes.has_byte.Given as goal

abbrev pub invariant-loop-j : goal.invariant-loop-j
invariant-loop-j l = l.found ≡ false → (k : ℕ) → k < l.j → get_or l.text (l.at + k) 0 ≡ l.b → ⊥
