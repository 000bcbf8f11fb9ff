-- `reading::walk::read_elements` and `reading::walk::read_element`: the loop's invariant is that what is absorbed, and then what is left of the range,
-- is what was there to absorb. The measure of a call is four times its bytes, and more for a run of elements, then for an element, then for a run of
-- items: an element lies in its run, a list's run of items may be all of it, and what an item holds lies inside the item.
use Rattle.std.proofs.Common.{◌≡◌, ℕ, ◌+◌, ◌-◌, ◌*◌, ◌≤◌, ◌<◌, Bool, true, List, length}
use Rattle.text.specs.LineNumbers.{line_number}
use Rattle.reading.specs.declared.walk.Step.{Step}
use Rattle.reading.specs.Walk.{State, state, absorbed, entries_from, run_to, Range, ItemsIn, StepAt, slack, slack_of}
use Rattle.reading.proofs.walk.+read_element_read_elements.Given as goal

-- from byte `from` on, in the state `before`, the walk has come to the element of `step` at byte `at`, of line number `n`, in the state `now`
pub record Come (s : List ℕ) (from to : ℕ) (items : Bool) (depth parent : ℕ) (before : State) (at n : ℕ) (step : Step) (now : State) : Type 0 where
  pub after : from ≤ at
  pub some : at < to
  pub range : Range s at to
  pub all : items ≡ true → ItemsIn s at to
  pub here : StepAt s at to items step
  pub count : now.sink.count + 2 * from ≤ before.sink.count + 2 * at
  pub size : length now.tab ≡ length before.tab
  pub same : absorbed now (entries_from s (run_to items to) parent depth at now.sink.count)
      ≡ absorbed before (entries_from s (run_to items to) parent depth from before.sink.count)
  pub line : n ≡ line_number s at

abbrev pub decreases-read_element : goal.decreases-read_element
decreases-read_element l = 4 * (l.end - l.at) + (2 - 2 * slack_of l.e.kind)

abbrev pub decreases-read_elements : goal.decreases-read_elements
decreases-read_elements l = 4 * (l.to - l.from) + (3 - 2 * slack l.items)

abbrev pub invariant-read_elements-loop-step : goal.invariant-read_elements-loop-step
invariant-read_elements-loop-step l =
    Come l.text l.from l.to l.items l.depth l.parent (state l.initial.table l.initial.out) l.at l.n l.step (state l.table l.out)

abbrev pub decreases-read_elements-loop-step : goal.decreases-read_elements-loop-step
decreases-read_elements-loop-step l = l.to - l.at
