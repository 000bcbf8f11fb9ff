-- `rules::keyword::after_last_colon`: up to i the part has the same last colon as the whole.
-- Assumes nothing.
use Rattle.std.proofs.Common.{◌≡◌, length}
use Rattle.text.specs.Parts.{part}
use Rattle.rules.specs.Names.{through_colon}
use Rattle.rules.proofs.keyword.after_last_colon.Given as goal

abbrev pub invariant-loop-i : goal.invariant-loop-i
invariant-loop-i l = length (through_colon (part l.text l.from l.i)) ≡ length (through_colon (part l.text l.from l.to))
