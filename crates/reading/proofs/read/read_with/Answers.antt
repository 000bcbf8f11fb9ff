-- `reading::read::read_with` meets its contract: each answer by what the counting pass left, and success by what the kept records and the writing
-- pass left too.
use Rattle.std.proofs.Common.{arith}
use Rattle.reading.proofs.Laws.Kept.{kept_goes, kept-counted, kept-fits, kept-written}
use Rattle.reading.proofs.Laws.Settled.{settled-deep, settled-short, settled-done}
use Rattle.reading.proofs.read.read_with.Goals as goal
use Rattle.reading.proofs.read.read_with.Goals.{in-Some, in_default}

pub read_on-counted-requires : goal.read_on-counted-requires
read_on-counted-requires c = (c.requires, kept_goes _ _ _ c.keep-kept.ensures)

pub returns-then-counted : goal.returns-then-counted
returns-then-counted c =
    settled-deep _ _ _ _ c.requires (kept-counted _ _ _ c.keep-kept.ensures _ c.read_on-counted.ensures) c.if-counted.true

pub returns-then-table-count : goal.returns-then-table-count
returns-then-table-count c =
    settled-short _ _ _ _ c.requires (kept-counted _ _ _ c.keep-kept.ensures _ c.read_on-counted.ensures) c.if-counted.false c.if-table-count.true

pub overflow_mul-k : goal.overflow_mul-k
overflow_mul-k c = let K = c.in-Some.ensures in omega (arith, K.room)

pub copy-requires : goal.copy-requires
copy-requires c =
    let K = c.in-Some.ensures in
    let fits = kept-fits _ _ K _ (rw c.in-Some.is at c.read_on-counted.ensures) c.if-table-count.false in
    (omega (arith, K.room), omega (arith, fits))

pub returns : goal.returns
returns c =
    settled-done _ _ _ _ c.requires (kept-counted _ _ _ c.keep-kept.ensures _ c.read_on-counted.ensures) c.if-counted.false c.if-table-count.false _ _
    (elim c.match-kept.branch [
      | in-Some w ↦
          let K = w.in-Some.ensures in
          let room = kept-fits _ _ K _ (rw w.in-Some.is at c.read_on-counted.ensures) c.if-table-count.false in
          kept-written _ _ K _ room (rw (w.kept-is, w.table-is, w.copy.ensures) at c.read_on.ensures)
      | in_default w ↦ rw (w.kept-is, w.in_default.is, w.table-is) at c.read_on.ensures
    ])
