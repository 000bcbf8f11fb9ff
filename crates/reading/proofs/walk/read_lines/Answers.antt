-- `reading::walk::read_lines` meets its contract.
-- Assumes nothing.
use Rattle.std.proofs.Common.{◌≡◌, sym, ap, ◌∙◌, ℕ, ◌+◌, ◌≤◌, ◌<◌, arith}
use borrow.Author.Tests.{not-true}
use Rattle.text.specs.LineNumbers.{line_number}
use Rattle.text.proofs.Laws.LineNumbers.{line_number-le, line_number-next}
use Rattle.text.proofs.Laws.LinesIn.{lines_in-length}
use Rattle.rules.specs.Findings.{LineOf}
use Rattle.rules.proofs.Laws.LineOf.{line_of, line_span-start, line_span-end, line_span-next}
use Rattle.reading.proofs.Laws.Counted.{lines-counted}
use Rattle.reading.proofs.Laws.LineRecords.{line_small, line-turn, lines_none}
use Rattle.reading.proofs.walk.read_lines.Goals as goal
use Rattle.reading.proofs.walk.read_lines.Goals.{Then-not-sink, After-line_at-line}

-- each line is a byte at least
lines-le : (c : Then-not-sink) → c.args.lines + c.args.from ≤ c.args.to
lines-le c = omega (arith, lines_in-length c.args.text.now c.args.from c.args.to (omega arith) (omega arith))

pub overflow_add-result : goal.overflow_add-result
overflow_add-result c = omega (arith, lines-le (goal.at.overflow_add-result c).Then-not-sink)

pub returns-then-not-sink : goal.returns-then-not-sink
returns-then-not-sink c = record {
  takes = lines-counted _ _ _ _ _ _ _ _ _ (not-true _ c.if-not-sink.true)
      c.requires.lines_value.2 c.requires.lines_value.0 (omega arith) c.requires.lines_value.1;
  from_bound = omega (arith, lines-le (goal.at.returns-then-not-sink c).Then-not-sink);
}

here : (c : After-line_at-line) → LineOf c.args.text.now c.line_at-line.result c.args.to
here c = line_of _ _ _ _ c.loop-at-test.true (omega arith) c.line_at-line.ensures

next : (c : After-line_at-line) → (c.loop-at.at < c.line_at-line.result.end) × (c.line_at-line.result.end ≤ c.args.to)
next c = line_span-next _ _ _ _ c.line_at-line.ensures c.loop-at-test.true (omega arith)

-- the next line's number
number : (c : After-line_at-line) → c.line_at-line.result.end < c.args.to → c.loop-at.n + 1 ≡ line_number c.args.text.now c.line_at-line.result.end
number c i =
    let some = c.loop-at-test.true in
    ap (λ (k : ℕ). k + 1) (c.loop-at.invariant.line some)
    ∙ sym (line_number-next _ _ _ _ some (omega arith) (line_span-end _ _ _ _ c.line_at-line.ensures) i)

pub line_record-r-requires : goal.line_record-r-requires
line_record-r-requires c = (
  here (goal.at.line_record-r-requires c).After-line_at-line,
  c.loop-at.invariant.line c.loop-at-test.true ∙ ap (line_number _) (sym (line_span-start _ _ _ _ c.line_at-line.ensures)),
)

pub emit-out-requires : goal.emit-out-requires
emit-out-requires c =
    let line = here (goal.at.emit-out-requires c).After-line_at-line in
    (rw c.line_record-r.ensures (line_small _ _ _ _ line _ (omega arith) (omega arith)), omega arith)

pub overflow_add-n : goal.overflow_add-n
overflow_add-n c =
    let loop = c.loop-at in
    omega (arith, loop.invariant.line c.loop-at-test.true, line_number-le c.args.text.now loop.at)

pub loop-at-smaller : goal.loop-at-smaller
loop-at-smaller c = omega (arith, next (goal.at.loop-at-smaller c).After-line_at-line)

pub loop-at-preserved : goal.loop-at-preserved
loop-at-preserved c =
    let line = (goal.at.loop-at-preserved c).After-line_at-line in
    let inv = c.loop-at.invariant in
    let n = next line in
    record {
      order = omega arith;
      count = omega arith;
      size = c.emit-out.auto.table ∙ inv.size;
      same = line-turn _ _ _ _ _ _ _ _ _ _ c.loop-at-test.true (omega arith) c.line_at-line.ensures c.line_record-r.ensures
          c.emit-out.ensures.result_after
          ∙ inv.same;
      line = number line;
    }

pub returns-clause-takes : goal.returns-clause-takes
returns-clause-takes c = sym (lines_none _ _ _ _ _ _ _ _ c.loop-at-test.false) ∙ c.loop-at.invariant.same
