-- `orgtable::page::Page::push_table`: the bytes there, followed by the lines of the records from `i` on, are those asked for, and each of these
-- records has 88 bytes left.
use Rattle.std.proofs.Common.{length, drop, ◌≡◌, ◌++◌, ◌+◌, ◌-◌, ◌*◌, ◌≤◌}
use Rattle.table.specs.Records.{record_size}
use Rattle.orgtable.specs.Printed.{record_lines, line_size, page_size}
use Rattle.orgtable.proofs.page.Page.push_table.Given as goal

abbrev pub invariant-loop-i : goal.invariant-loop-i
invariant-loop-i l =
    (length l.self + line_size * (l.count - l.i) ≤ page_size)
    × (l.self ++ record_lines (l.count - l.i) (drop (l.i * record_size) l.table) ≡ l.initial.self ++ record_lines l.count l.table)
