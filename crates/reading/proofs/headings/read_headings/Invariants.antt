-- `turn.next` is at a heading line or the text's end; and where the table tracks the headings before `from`, it tracks those so far, `last` is the
-- nearest of them, and what is left to absorb from there on ends as all of it does from the start. The measure is the bytes after it.
use Rattle.std.proofs.Common.{◌≡◌, ℕ, List, ◌+◌, ◌*◌, ◌-◌, ◌≤◌, length}
use Rattle.reading.specs.Walk.{State, state, absorbed, headings_from, HeadingOrEnd, NumberOf, far}
use Rattle.reading.specs.Tracked.{Earlier, last_index, Tracked}
use Rattle.reading.proofs.headings.read_headings.Given as goal

-- from state st₀ at byte from, after the headings hs, a walk has come to state st at byte p
pub record Way (s : List ℕ) (from : ℕ) (hs : Earlier) (st₀ : State) (p last : ℕ) (st : State) : Type 0 where
  pub earlier : Earlier
  pub index : last ≡ last_index earlier
  pub tracked : Tracked st earlier
  pub same : absorbed st (headings_from s earlier p st.sink.count) ≡ absorbed st₀ (headings_from s hs from st₀.sink.count)

abbrev pub invariant-loop-turn : goal.invariant-loop-turn
invariant-loop-turn l = record {
  here : HeadingOrEnd l.text l.turn.next;
  line : NumberOf l.text l.turn.next l.turn.line;
  small : l.last ≤ far;
  count : l.turn.sink.count ≤ 2 * l.turn.next + 2;
  way : (hs : Earlier) → l.fn.before ≡ last_index hs → Tracked (state l.fn.table l.fn.from.sink) hs
      → Way l.text l.fn.from.next hs (state l.fn.table l.fn.from.sink) l.turn.next l.last (state l.table l.turn.sink);
}

abbrev pub decreases-loop-turn : goal.decreases-loop-turn
decreases-loop-turn l = length l.text - l.turn.next
