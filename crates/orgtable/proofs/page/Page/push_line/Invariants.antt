-- `orgtable::page::Page::push_line`: the bytes there, followed by the line of the numbers from the index on, are those asked for, and each of these
-- numbers has 11 bytes left.
use Rattle.std.proofs.Common.{length, ◌≡◌, ◌++◌, ◌+◌, ◌-◌, ◌*◌, ◌≤◌}
use Rattle.std.proofs.Math.Seq.{slice}
use Rattle.table.specs.Records.{record_size}
use Rattle.orgtable.specs.Printed.{line, cell_size, line_size}
use Rattle.orgtable.proofs.page.Page.push_line.Given as goal

abbrev pub invariant-loop-n : goal.invariant-loop-n
invariant-loop-n l =
    (length l.self + cell_size * (record_size - l.n-index) ≤ length l.initial.self + line_size)
    × (l.self ++ line (slice l.n-index record_size l.numbers) ≡ l.initial.self ++ line l.numbers)
