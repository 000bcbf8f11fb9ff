-- `stream::list::put_finished`: what is left to write says what all is.
use Rattle.std.proofs.Common.{length, drop, ◌≡◌, ◌+◌, ◌≤◌}
use Rattle.std.proofs.lemmas.List.Edits.{sets}
use Rattle.stream.specs.Headings.{numbers}
use Rattle.stream.specs.Steps.{fed, finished}
use Rattle.stream.proofs.list.put_finished.Given as goal

abbrev pub invariant-loop-heading : goal.invariant-loop-heading
invariant-loop-heading l =
    let x = l.bytes in
    let left = drop l.finished.at x in
    (l.finished.bytes ≡ l.initial.finished.bytes)
    × (l.to + length (numbers (finished l.finished.state left)) ≤ length l.list)
    × (fed l.finished.state left ≡ fed l.fn.state x)
    × (sets l.list l.to (numbers (finished l.finished.state left)) ≡ sets l.initial.list 0 (numbers (finished l.fn.state x)))
