-- `sheet::faults::has_bad_name` meets its contract: each key is asked.
use Rattle.std.proofs.Common.{rules}
use Rattle.text.proofs.Laws.Parts.{part_slice}
use Rattle.sheet.specs.Faults.{is_bad_name}
use Rattle.sheet.proofs.faults.has_bad_name.Goals as goal

pub returns : goal.returns
returns c = c.some_pair.ensures (λ p. is_bad_name p.key) (λ r b p h. rw (← part_slice c.args.buffer.now r.from r.to p.key) (search rules))
