-- `reading::sink::emit` meets its contract: the record is taken as `absorb` says, or the sink stops.
-- Assumes nothing.
use Rattle.std.proofs.Common.{◌≡◌, Bool, false, List, ℕ, ◌+◌, ◌*◌, refl, sym, ◌∙◌, ap, arith}
use Rattle.std.proofs.lemmas.List.Edits.{sets, sets-eq}
use Rattle.std.proofs.lemmas.Slice.{put_mid-paste}
use Rattle.table.specs.Records.{numbers_of, record_size}
use Rattle.reading.specs.declared.sink.Sink.{Sink}
use Rattle.reading.proofs.Laws.Absorb.{absorb-stop, absorb-deep, absorb-full, absorb-put, absorb-count}
use Rattle.reading.specs.Walk.{state, sink_of}
use Rattle.reading.proofs.sink.emit.Goals as goal
use Rattle.reading.proofs.sink.emit.Goals.{then-sink-2+else-table-end, else-sink-2}

pub returns-then-sink-clause-result_after : goal.returns-then-sink-clause-result_after
returns-then-sink-clause-result_after c = sym (absorb-stop _ _ c.if-sink.true)

pub returns-then-depth-gt-DEPTH-clause-result_after : goal.returns-then-depth-gt-DEPTH-clause-result_after
returns-then-depth-gt-DEPTH-clause-result_after c = rw c.stop.ensures (sym (absorb-deep _ _ _ _ c.if-sink.false c.if-depth-gt-DEPTH.true))

pub returns-then-table-end-clause-result_after : goal.returns-then-table-end-clause-result_after
returns-then-table-end-clause-result_after c =
    rw c.stop-then-table-end.ensures (sym (absorb-full _ _ _ _ c.if-sink.false c.if-depth-gt-DEPTH.false c.if-sink-2.true c.if-table-end.true))

going : (t : List ℕ) (k : Sink) → k.stopped ≡ false → state t record { count = k.count + 1; writing = k.writing; stopped = k.stopped } ≡ state t (sink_of (k.count + 1) k.writing false)
going t k h = ap (λ (b : Bool). state t (sink_of (k.count + 1) k.writing b)) h

pub returns-clause-result_after : goal.returns-clause-result_after
returns-clause-result_after c =
    elim c.if-sink-2.branch [
      | then-sink-2+else-table-end w ↦
          let row = numbers_of c.args.r in
          let at = c.args.sink.count * record_size in
          let written : c.if-sink-2.table ≡ sets c.args.table.now at row =
          w.table-is ∙ put_mid-paste _ _ _ _ row record_size (w.copy_from_slice.ensures.after ∙ w.numbers.ensures) (omega arith) refl
          ∙ sym (sets-eq row c.args.table.now at (omega arith)) in
          rw written (going _ _ c.if-sink.false ∙ sym (absorb-put _ _ _ _ c.if-sink.false c.if-depth-gt-DEPTH.false w.if-sink-2.true w.if-table-end.false))
      | else-sink-2 w ↦ rw w.table-is (going _ _ c.if-sink.false ∙ sym (absorb-count _ _ _ _ c.if-sink.false c.if-depth-gt-DEPTH.false w.if-sink-2.false))
    ]
