-- `reading::walk::line_record` meets its contract: a law for each kind of record.
-- Assumes nothing.
use Rattle.std.proofs.Common.{◌≡◌, ◌∙◌, Bool, true, false, refl, arith}
use Rattle.std.specs.Int.{from_bool}
use Rattle.text.specs.Runs.{word}
use Rattle.rules.proofs.Laws.LineOf.{line_of-order}
use Rattle.rules.proofs.Laws.LineTests.{first_run-order}
use Rattle.reading.proofs.Laws.LineRecords.{row-tested, property-record}
use Rattle.reading.proofs.walk.line_record.Goals as goal

-- ---- a row

pub begins_with-rule-requires : goal.begins_with-rule-requires
begins_with-rule-requires c = let o = line_of-order _ _ _ c.requires.0 in (o.1, omega arith)

detail-is : (b : Bool) → from_bool b ≡ elim b [ true ↦ 1 | false ↦ 0 ]
detail-is true = refl
detail-is false = refl

pub returns-then-rows : goal.returns-then-rows
unfolding word
returns-then-rows c =
    let rule = c.begins_with-rule in
    rw (c.if-rows.true, c.requires.1, c.from.ensures ∙ detail-is rule.result) (row-tested _ _ _ c.args.parent c.requires.0 rule.result rule.ensures)

-- ---- a node property

pub word_end-marker-requires : goal.word_end-marker-requires
word_end-marker-requires c = let o = line_of-order _ _ _ c.requires.0 in (o.1, omega arith)

pub run_end-value-requires : goal.run_end-value-requires
run_end-value-requires c =
    let line = c.requires.0 in
    let o = line_of-order _ _ _ line in
    ((first_run-order _ _ _ line _ c.word_end-marker.ensures).1, omega arith)

pub returns-else-rows : goal.returns-else-rows
returns-else-rows c =
    let (line, number) = c.requires in
    rw (c.if-rows.false, number) (property-record _ _ _ _ line _ _ c.word_end-marker.ensures c.run_end-value.ensures)
