-- `rules::known::closing_names` meets its contract: a line of the kind adds its name, and any other line closes none.
-- Assumes nothing.
use Rattle.std.proofs.Common.{sym, ◌∙◌, ◌+◌, ◌≤◌, ◌<◌, length, arith}
use Rattle.text.specs.Runs.{word}
use Rattle.rules.proofs.Laws.LineOf.{line_of, line_of-order, line_span-next}
use Rattle.rules.proofs.Laws.Known.{names-all, names-other, end-order, names-one}
use Rattle.rules.proofs.known.closing_names.Goals as goal
use Rattle.rules.proofs.known.closing_names.Goals.{After-line_at-line, Then-begins_with}

-- the next line starts further on, and not past the end
next : (c : After-line_at-line) → (c.loop-at.at < c.line_at-line.result.end) × (c.line_at-line.result.end ≤ c.args.to)
next c = line_span-next _ _ _ _ c.line_at-line.ensures c.loop-at-test.true c.loop-at.invariant.1

pub begins_with-requires : goal.begins_with-requires
begins_with-requires c =
    let o = line_of-order _ _ _ (line_of _ _ _ _ c.loop-at-test.true c.loop-at.invariant.1 c.line_at-line.ensures) in
    (o.1, omega arith)

-- where the name stands
name : (c : Then-begins_with) → let line = c.line_at-line.result in (line.from + 6 ≤ line.to) × (line.to ≤ length c.args.text.now)
unfolding word
name c =
    end-order _ _ _ _ c.line_at-line.ensures c.loop-at-test.true c.loop-at.invariant.1 (sym c.begins_with.ensures ∙ c.if-begins_with.true)

pub overflow_add-line : goal.overflow_add-line
overflow_add-line c = omega (arith, name (goal.at.overflow_add-line c).Then-begins_with)

pub name_number-requires : goal.name_number-requires
name_number-requires c = name (goal.at.name_number-requires c).Then-begins_with

pub loop-at-smaller-then-begins_with : goal.loop-at-smaller-then-begins_with
loop-at-smaller-then-begins_with c = omega (arith, next (goal.at.loop-at-smaller-then-begins_with c).After-line_at-line)

pub loop-at-preserved-then-begins_with : goal.loop-at-preserved-then-begins_with
unfolding word
loop-at-preserved-then-begins_with c =
    let inv = c.loop-at.invariant in (
      (next (goal.at.loop-at-preserved-then-begins_with c).After-line_at-line).1,
      inv.1,
      names-one _ _ _ _ c.line_at-line.ensures c.loop-at-test.true inv.1 (sym c.begins_with.ensures ∙ c.if-begins_with.true)
          _ _ _ _ c.name_number.ensures.0 c.with_name-names.ensures inv.2,
    )

pub loop-at-smaller : goal.loop-at-smaller
loop-at-smaller c = omega (arith, next (goal.at.loop-at-smaller c).After-line_at-line)

pub loop-at-preserved : goal.loop-at-preserved
unfolding word
loop-at-preserved c =
    let inv = c.loop-at.invariant in (
      (next (goal.at.loop-at-preserved c).After-line_at-line).1,
      inv.1,
      names-other _ _ _ _ c.line_at-line.ensures c.loop-at-test.true inv.1 (sym c.begins_with.ensures ∙ c.if-begins_with.false) _ _ inv.2,
    )

pub returns : goal.returns
returns c = names-all _ _ _ _ _ c.loop-at-test.false c.loop-at.invariant.2
