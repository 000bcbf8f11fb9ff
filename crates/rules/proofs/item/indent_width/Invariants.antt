-- `rules::item::indent_width`: the width so far and that of the bytes left make up the whole, and the former is at most 8 for each byte.
use Rattle.std.proofs.Common.{◌≡◌, ◌+◌, ◌*◌, ◌≤◌, drop}
use Rattle.rules.specs.Items.{width_of}
use Rattle.rules.proofs.item.indent_width.Given as goal

abbrev pub invariant-loop-b : goal.invariant-loop-b
invariant-loop-b l = (l.width ≤ 8 * l.b-index) × (l.width + width_of (drop l.b-index l.b-items) ≡ width_of l.b-items)
