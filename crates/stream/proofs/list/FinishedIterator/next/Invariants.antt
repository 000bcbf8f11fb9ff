-- `stream::list::Finished::next`: nothing is finished until a heading is.
use Rattle.std.proofs.Common.{length, drop, ◌-◌, ◌≡◌, ◌≤◌}
use Rattle.stream.specs.Steps.{fed, finished}
use Rattle.stream.proofs.list.FinishedIterator.next.Given as goal

abbrev pub invariant-loop-self : goal.invariant-loop-self
invariant-loop-self l =
    let x = l.self.bytes.now in
    (l.self.bytes ≡ l.initial.self.bytes)
    × (l.initial.self.at ≤ l.self.at)
    × (fed l.initial.self.state (drop l.initial.self.at x) ≡ fed l.self.state (drop l.self.at x))
    × (finished l.initial.self.state (drop l.initial.self.at x) ≡ finished l.self.state (drop l.self.at x))

abbrev pub decreases-loop-self : goal.decreases-loop-self
decreases-loop-self l = length l.self.bytes.now - l.self.at
